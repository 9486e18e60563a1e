-- `grid::side` meets its contract. Assumes nothing.
use mathlib.Core.Path.{sym, subst, ◌∙◌}
use mathlib.Core.Bool.{true, false}
use lib.Dec.{T}
use lib.Ieee.{of_bits}
use Rattle.grid.proofs.Negative.{near_side, far_side, other_side}
use Rattle.grid.proofs.side.Goals.{then-size, else-size}
use Rattle.grid.proofs.side.Goals as goal

pub returns-then-on_step : goal.returns-then-on_step
unfolding of_bits
returns-then-on_step c =
    elim c.if-size.branch [
      | then-size w ↦ near_side true _ (subst T (sym c.well_formed.0.1) tt) c.if-x.true w.if-size.true (sym w.is_multiple-on_step.ensures ∙ sym w.on_step-is ∙ c.if-on_step.true)
      | else-size w ↦ far_side true _ (subst T (sym c.well_formed.0.1) tt) c.if-x.true w.if-size.false (sym w.on_step-is ∙ c.if-on_step.true)
    ]

pub returns-else-on_step : goal.returns-else-on_step
unfolding of_bits
returns-else-on_step c =
    elim c.if-size.branch [
      | then-size w ↦ near_side false _ (subst T (sym c.well_formed.0.1) tt) c.if-x.true w.if-size.true (sym w.is_multiple-on_step.ensures ∙ sym w.on_step-is ∙ c.if-on_step.false)
      | else-size w ↦ far_side false _ (subst T (sym c.well_formed.0.1) tt) c.if-x.true w.if-size.false (sym w.on_step-is ∙ c.if-on_step.false)
    ]

pub returns : goal.returns
unfolding of_bits
returns c = c.corner.ensures ∙ other_side _ (subst T (sym c.well_formed.0.1) tt) c.if-x.false
