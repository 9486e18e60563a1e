use mathlib.Core.Path.{◌≡◌, ◌∙◌, sym}
use Prim.Native.Nat.{◌+◌, ◌-◌, ◌*◌}
use native.Mathlib.Omega.{arith}
use lib.ListN.{get_or}
use Rattle.text.proofs.Reading.{read_on_lem, digits_end, digits_stop, digits_past, digits_more}
use Rattle.text.proofs.digits.Goals as goal

pub loop-i-init : goal.loop-i-init
loop-i-init c = (omega arith, omega arith, read_on_lem _ _)

pub returns-then-not-is_ascii_digit : goal.returns-then-not-is_ascii_digit
returns-then-not-is_ascii_digit c =
    sym (c.loop-i.invariant.2 ∙ digits_stop _ _ _ c.loop-i-test.true (sym c.is_ascii_digit.ensures.value ∙ c.if-not-is_ascii_digit.true) c.loop-i.invariant.1)

pub returns-in_err-checked_mul : goal.returns-in_err-checked_mul
returns-in_err-checked_mul c =
    rw c.from_residual.ensures
    (sym (c.loop-i.invariant.2 ∙ digits_past _ _ _ c.loop-i-test.true (sym c.is_ascii_digit.ensures.value ∙ c.if-not-is_ascii_digit.false) (omega (arith, c.in_err-checked_mul.ensures))))

pub returns-in_err-v : goal.returns-in_err-v
returns-in_err-v c =
    rw c.from_residual-in_err-v.ensures
    (sym (c.loop-i.invariant.2 ∙ digits_past _ _ _ c.loop-i-test.true (sym c.is_ascii_digit.ensures.value ∙ c.if-not-is_ascii_digit.false) (omega (arith, c.in_err-v.ensures, c.in_ok-checked_mul.ensures))))

pub loop-i-preserved : goal.loop-i-preserved
loop-i-preserved c =
    let e : c.in_ok-v.v ≡ c.loop-i.v * 10 + (get_or c.args.s.now c.loop-i.i 0 - 48) = omega (arith, c.in_ok-v.ensures, c.in_ok-checked_mul.ensures) in
    (omega arith, omega (arith, c.in_ok-v.ensures), c.loop-i.invariant.2 ∙ rw e (digits_more _ _ _ c.loop-i-test.true (sym c.is_ascii_digit.ensures.value ∙ c.if-not-is_ascii_digit.false)))

pub returns : goal.returns
returns c =
    let e : c.max.result ≡ c.loop-i.i = omega arith in
    rw e (sym (c.loop-i.invariant.2 ∙ digits_end _ _ _ c.loop-i-test.false c.loop-i.invariant.1))
