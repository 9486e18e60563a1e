-- `text::number` meets its contract. Assumes nothing.
use mathlib.Core.Path.{◌∙◌, sym}
use Prim.Native.Nat.{◌-◌}
use borrow.Author.Tests.{le-ltb}
use Rattle.text.proofs.Reading.{number_bad, number_none, number_one, number_zero, number_more}
use Rattle.text.proofs.number.Goals as goal
use Rattle.text.proofs.number.Goals.{then-next-at-via-then-next-at, then-next-at-via-else-next-at+then-byte-eq48, then-next-at-gt1, else-next-at-gt1}

pub returns-in_err-v : goal.returns-in_err-v
returns-in_err-v c = rw c.from_residual.ensures (number_bad _ _ _ c.digits.ensures c.in_err-v.was)

pub returns-then-next-at : goal.returns-then-next-at
returns-then-next-at c =
    elim c.then-next-at.branch [
      | then-next-at-via-then-next-at w ↦ number_none _ _ _ c.digits.ensures _ _ c.in_ok-v.was w.if-next-at.true
      | then-next-at-via-else-next-at+then-byte-eq48 w ↦
          elim w.if-next-at-gt1.branch [
            | then-next-at-gt1 w' ↦ number_zero _ _ _ c.digits.ensures _ _ c.in_ok-v.was w'.if-next-at-gt1.true _ w'.byte.ensures (sym w'.value-is ∙ w.if-byte-eq48.true)
            | else-next-at-gt1 w' ↦ let h = le-ltb 1 (c.in_ok-v.next - c.args.at) w'.if-next-at-gt1.false in cc
          ]
    ]

pub returns : goal.returns
returns c =
    elim c.if-next-at-gt1.branch [
      | then-next-at-gt1 w ↦ number_more _ _ _ c.digits.ensures _ _ c.in_ok-v.was w.if-next-at-gt1.true _ w.byte.ensures (sym w.value-is ∙ c.if-byte-eq48.false)
      | else-next-at-gt1 w ↦ number_one _ _ _ c.digits.ensures _ _ c.in_ok-v.was c.if-next-at.false w.if-next-at-gt1.false
    ]
