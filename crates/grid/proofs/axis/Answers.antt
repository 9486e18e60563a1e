-- `grid::axis` meets its contract: a test that fails, the first of them, and all that hold. Assumes nothing.
use mathlib.Core.Path.{sym, ◌∙◌}
use mathlib.Core.Bool.{false≢true}
use lib.Ieee.{of_bits, neg}
use Rattle.grid.proofs.Ends.{wrong_order, too_low, too_high, first_off, by_second}
use Rattle.grid.proofs.axis.Goals.{then-low-high, else-low-high, then-low, else-low, then-high, else-high}
use Rattle.grid.proofs.axis.Goals as goal

pub returns-then-is_multiple : goal.returns-then-is_multiple
unfolding of_bits neg
returns-then-is_multiple c =
    elim c.if-high.branch [
      | then-high w ↦ elim c.if-low.branch [
        | then-low v ↦ elim c.if-low-high.branch [
          | then-low-high u ↦ by_second c.args.low c.args.high u.if-low-high.true (sym u.value-is ∙ v.if-low.true) (sym v.value-is ∙ w.if-high.true) _ w.is_multiple.ensures (sym w.value-is ∙ c.if-is_multiple.true) _ c.is_multiple-then-is_multiple.ensures
          | else-low-high u ↦ absurd (false≢true (sym u.if-low-high.false ∙ sym u.value-is ∙ v.if-low.true))
        ]
        | else-low v ↦ absurd (false≢true (sym v.if-low.false ∙ sym v.value-is ∙ w.if-high.true))
      ]
      | else-high w ↦ absurd (false≢true (sym w.if-high.false ∙ sym w.value-is ∙ c.if-is_multiple.true))
    ]

pub returns-else-is_multiple : goal.returns-else-is_multiple
unfolding of_bits neg
returns-else-is_multiple c =
    c.if-is_multiple.false ∙ elim c.if-high.branch [
      | then-high w ↦ first_off c.args.low c.args.high _ w.is_multiple.ensures (sym w.value-is ∙ c.if-is_multiple.false)
      | else-high w ↦ elim c.if-low.branch [
        | then-low v ↦ too_high c.args.low c.args.high (sym v.value-is ∙ w.if-high.false)
        | else-low v ↦ elim c.if-low-high.branch [
          | then-low-high u ↦ too_low c.args.low c.args.high (sym u.value-is ∙ v.if-low.false)
          | else-low-high u ↦ wrong_order c.args.low c.args.high u.if-low-high.false
        ]
      ]
    ]
