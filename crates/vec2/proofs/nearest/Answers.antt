-- `vec2::nearest` meets its contract (Measured.antt). Assumes nothing.
use Rattle.std.proofs.Common.{arith}
use Rattle.vec2.proofs.Digits.{zeros_16}
use Rattle.vec2.proofs.Quotients.{castable}
use Rattle.vec2.proofs.Measured.{shift_24, root_24, power_24, nearest_gives}
use Rattle.vec2.proofs.nearest.Goals as goal

pub overflow_sub-t : goal.overflow_sub-t
overflow_sub-t c = zeros_16 _ c.requires

pub overflow_mul-t : goal.overflow_mul-t
overflow_mul-t c = omega (arith, shift_24 _ c.requires)

pub overflow_cast-t : goal.overflow_cast-t
overflow_cast-t c = omega (arith, shift_24 _ c.requires)

pub overflow_shl-n : goal.overflow_shl-n
overflow_shl-n c = omega (arith, shift_24 _ c.requires)

pub int_to_float-result : goal.int_to_float-result
int_to_float-result c = castable _ (root_24 _ c.requires _ c.whole_nearest-q.ensures)

pub overflow_cast-result : goal.overflow_cast-result
overflow_cast-result c = omega (arith, shift_24 _ c.requires)

pub overflow_shl-result : goal.overflow_shl-result
overflow_shl-result c = omega (arith, shift_24 _ c.requires)

pub int_to_float-result-2 : goal.int_to_float-result-2
int_to_float-result-2 c = castable _ (power_24 _ c.requires)

pub returns : goal.returns
returns c = nearest_gives _ c.requires _ c.whole_nearest-q.ensures
