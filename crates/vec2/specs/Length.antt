-- emath's vec2.rs, Vec2::length, as document 01 has it ("hypot and sqrt"): the f32 nearest to the true square root of the sum of squares. Definitions only.
use Rattle.std.specs.Prelude.{ℕ, zero, suc, ◌+◌, ◌-◌, ◌*◌, ◌/◌, ◌^◌, false, cond, ◌==◌, nat_le, unsigned_abs, Float}
use Rattle.std.specs.Float.{nan, binary32}
use Rattle.std.specs.Float.Ieee.{round, size}
use Rattle.refusal.specs.Refusal.{none}
use Rattle.floats.specs.Count.{Count, off, at, count_of}
use Rattle.grid.specs.Grid.{pivot_pos_refusal}
use Rattle.emath.specs.declared.Vec2.{Vec2}

-- the whole part of √n, for an n below 4 ^ d, a binary digit for each two of n; a root found in any other way would do
unfoldable pub root_of : ℕ → ℕ → ℕ
root_of zero n = 0
root_of (suc d) n = let r = 2 * root_of d (n / 4) in cond (nat_le ((r + 1) * (r + 1)) n) (r + 1) r

-- the whole number nearest to √n, for an n below 4 ^ 32: with r the whole part, the root is past r + 1/2 exactly where n is past r * r + r
unfoldable pub whole_nearest : ℕ → ℕ
whole_nearest n = let r = root_of 32 n in cond (nat_le n (r * r + r)) r (r + 1)

-- by how many binary digits √n is scaled up to have 24 before the point, as many as an f32 keeps
abbrev pub digits_up : ℕ → ℕ
digits_up n = (48 - size n) / 2

-- the f32 nearest to √n / 64, for an n below 2 ^ 48; for the sums of squares of the grid `length_is_nearest` says so
unfoldable pub nearest_of : ℕ → Float
nearest_of n = let t = digits_up n in round binary32 false (whole_nearest (n * 4 ^ t)) (64 * 2 ^ t)

-- the sum of the squares of two whole numbers
abbrev pub squares : Count → Count → ℕ
squares off b = 0
squares (at a) off = 0
squares (at a) (at b) = unsigned_abs a * unsigned_abs a + unsigned_abs b * unsigned_abs b

-- Both parts in 64ths. A difference of rectangles on the grid is a multiple of 1/64 within ±32,768, as a pivot position is; any other vector has no length here
unfoldable pub length_of : Vec2 → Float
length_of v = cond (pivot_pos_refusal v.x v.y == none) (nearest_of (squares (count_of 64 v.x) (count_of 64 v.y))) nan
