-- emath's vec2.rs: Vec2::normalized and Vec2::dot, in IEEE 754. The search is defined by them; its code divides the part along the arrow only. Definitions only.
use Rattle.std.specs.Prelude.{Bool, true, false, from_bits, Float}
use Rattle.std.specs.Float.{binary32}
use Rattle.std.specs.Float.Ieee.{add, mul, div, le}
use Rattle.emath.specs.declared.Vec2.{Vec2}
use Rattle.vec2.specs.Length.{length_of}

abbrev pub pick_vec : Bool → Vec2 → Vec2 → Vec2
pick_vec true a b = a
pick_vec false a b = b

-- Vec2::normalized: v / length, and v itself where the length is 0
unfoldable pub normalized_of : Vec2 → Vec2
normalized_of v = pick_vec (le (length_of v) (from_bits binary32 0)) v (record { x = div binary32 v.x (length_of v); y = div binary32 v.y (length_of v) })

-- Vec2::dot
unfoldable pub dot_of : Vec2 → Vec2 → Float
dot_of a b = add binary32 (mul binary32 a.x b.x) (mul binary32 a.y b.y)
