-- `grid::rect` meets its contract. Assumes nothing.
use mathlib.Core.Path.{sym, ◌∙◌}
use Rattle.grid.specs.Grid.{rect_refusal}
use Rattle.grid.proofs.Ends.{both_taken}
use Rattle.grid.proofs.rect.Goals as goal

pub returns-then-axis-2 : goal.returns-then-axis-2
returns-then-axis-2 c =
    both_taken _ (sym c.axis.ensures ∙ c.if-axis.true) (sym c.axis-then-axis.ensures ∙ c.if-axis-2.true)

pub returns : goal.returns
unfolding rect_refusal
returns c = rw (c.both-2.ensures, c.crossed.ensures, c.both.ensures, c.pos-2.ensures, c.pos.ensures)
