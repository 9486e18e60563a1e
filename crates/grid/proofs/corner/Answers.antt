-- `grid::corner` meets its contract. Assumes nothing.
use mathlib.Core.Path.{sym, ap, ◌∙◌, subst}
use mathlib.Core.Bool.{Bool, cond}
use lib.Dec.{T}
use Rattle.grid.proofs.Within.{corner_taken}
use Rattle.grid.proofs.corner.Goals as goal

pub returns : goal.returns
returns c = c.check.ensures ∙ ap (λ (t : Bool). cond t 0 3) c.is_taken.ensures ∙ corner_taken _ (subst T (sym c.well_formed.0.1) tt)
