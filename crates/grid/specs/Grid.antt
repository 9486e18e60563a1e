-- Refusals 3 and 4 of corners, sizes, pivot positions and rectangles, from document 01, "Grid" and "What a refused call says". Definitions only.
use Rattle.std.specs.Prelude.{ℕ, ◌*◌, ◌||◌, cond, ℤ, pos, negsuc, nat_abs, leb, Float}
use Rattle.std.specs.Float.{binary32}
use Rattle.std.specs.Float.Ieee.{of_bits, neg, lt}
use Rattle.refusal.specs.Refusal.{none, off_grid, reversed, lowest}
use Rattle.floats.specs.Count.{Count, off, at, count_of}
use Rattle.emath.specs.declared.Pos2.{Pos2}
use Rattle.emath.specs.declared.Rect.{Rect}

-- without its sign, but for -0.0
abbrev pub magnitude_of : Float → Float
magnitude_of x = cond (lt x (of_bits binary32 0)) (neg x) x

-- a number that is on no step of the grid is refused, and any other by how many steps it is
abbrev pub on_grid : Count → (ℤ → ℕ) → ℕ
on_grid off k = off_grid
on_grid (at z) k = k z

-- a multiple of 1 / c from -b to b
unfoldable pub within : ℕ → ℕ → Float → ℕ
within c b x = on_grid (count_of c x) (λ z. cond (leb (nat_abs z) (b * c)) none off_grid)

abbrev pub corner_refusal : Float → ℕ
corner_refusal x = within 32 16384 x

abbrev pub pivot_refusal : Float → ℕ
pivot_refusal x = within 64 32768 x

-- a width or a height: a multiple of 1 / 32 from 0 to 16,384. A negative one on the grid is reversed, however large
abbrev pub side_at : ℤ → ℕ
side_at (pos n) = cond (leb n (16384 * 32)) none off_grid
side_at (negsuc n) = reversed

unfoldable pub side_refusal : Float → ℕ
side_refusal x = on_grid (count_of 32 x) side_at

-- ---- the lowest that applies to any part
abbrev pub pos_refusal : Pos2 → ℕ
pos_refusal p = lowest (corner_refusal p.x) (corner_refusal p.y)

abbrev pub pivot_pos_refusal : Float → Float → ℕ
pivot_pos_refusal x y = lowest (pivot_refusal x) (pivot_refusal y)

abbrev pub size_refusal : Float → Float → ℕ
size_refusal x y = lowest (side_refusal x) (side_refusal y)

-- a high corner below its low one, on either axis
abbrev pub crossed : Rect → ℕ
crossed r = cond (lt r.max.x r.min.x || lt r.max.y r.min.y) reversed none

unfoldable pub rect_refusal : Rect → ℕ
rect_refusal r = lowest (lowest (pos_refusal r.min) (pos_refusal r.max)) (crossed r)
