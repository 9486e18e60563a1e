-- A float as its bit pattern, from ../shared/REPLAY.md, "Words": a float is its f32 bit pattern as a number below 2^32. Definitions only.
use Rattle.std.specs.Prelude.{ℕ, cond, ltb, Float, Option, None, Some}
use Rattle.std.specs.Float.{nan, binary32}
use Rattle.std.specs.Float.Ieee.{is_nan, of_bits, to_bits}

-- the float of a pattern; a number of more than 32 bits is no pattern, and reads as NaN
unfoldable pub float_of : ℕ → Float
float_of n = cond (ltb n 4294967296) (of_bits binary32 n) nan

-- the pattern of a float; a NaN has none of its own
unfoldable pub bits_of : Float → Option ℕ
bits_of x = cond (is_nan x) None (Some (to_bits binary32 x))
