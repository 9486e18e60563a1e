-- Each turn adds a digit.
use native.Mathlib.Omega.{arith}
use Rattle.root.proofs.Roots.{is_the_root, digit_one, digit_zero, half_root, square_fits}
use Rattle.root.proofs.+root.Goals as goal

pub overflow_mul-high : goal.overflow_mul-high
overflow_mul-high t c = omega (arith, square_fits _ (half_root _ _ c.ranges.n.fits c.root-low.ensures.0))

pub returns-then-high-n : goal.returns-then-high-n
returns-then-high-n t c = is_the_root _ _ (digit_one _ _ c.root-low.ensures.0 c.if-high-n.true)

pub returns : goal.returns
returns t c = is_the_root _ _ (digit_zero _ _ c.root-low.ensures.0 c.if-high-n.false)
