-- emath's range.rs, and f32::min and f32::max, in IEEE 754. Definitions only.
use Rattle.std.specs.Prelude.{◌||◌, cond, Float}
use Rattle.std.specs.Float.{binary32}
use Rattle.std.specs.Float.Ieee.{is_nan, add, sub, mul, lt}
use Rattle.floats.specs.Count.{half}
use Rattle.emath.specs.declared.Rangef.{Rangef}

-- the larger, and where one is NaN the other; which of two zeros comes is left open by Rust, here it is the first
unfoldable pub max_f : Float → Float → Float
max_f a b = cond (lt a b || is_nan a) b a

unfoldable pub min_f : Float → Float → Float
min_f a b = cond (lt b a || is_nan a) b a

-- max - min
unfoldable pub span_of : Rangef → Float
span_of r = sub binary32 r.max r.min

-- 0.5 * (min + max)
unfoldable pub center_of : Rangef → Float
center_of r = mul binary32 half (add binary32 r.min r.max)

-- the higher low end and the lower high end
unfoldable pub intersection_of : Rangef → Rangef → Rangef
intersection_of a b = record { min = max_f a.min b.min; max = min_f a.max b.max }
