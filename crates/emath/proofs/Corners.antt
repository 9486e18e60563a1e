-- A table of numbers seen as rectangles, four numbers each. Assumes nothing.
use mathlib.Core.Path.{◌≡◌}
use mathlib.Core.List.{List, []}
use Prim.Native.Nat.{ℕ, ◌+◌, ◌*◌, ◌/◌, ◌<◌}
use native.Mathlib.Omega.{arith}
use lib.Ieee.{Float, nan}
use lib.ListN.{length, get_or}
use Rattle.std.specs.Simd.{first_chunks}
use Rattle.tables.proofs.Chunks.{chunk_get}
use Rattle.emath.specs.Rect.{from_corners}

-- of a table cut into arrays, array k has the rectangle of the four numbers from `at` on
pub row_rect : (k at : ℕ) (w : List Float) (rows : List (List Float)) → rows ≡ first_chunks 4 (length w / 4) w → length rows ≡ length w / 4 → k < length rows → at ≡ 4 * k
    → from_corners (get_or rows k [])
    ≡ record { min = record { x = get_or w at nan; y = get_or w (at + 1) nan }; max = record { x = get_or w (at + 2) nan; y = get_or w (at + 3) nan } }
row_rect k at w rows f l h e =
    let number : (i p : ℕ) → i < 4 → p ≡ 4 * k + i → get_or (get_or rows k []) i nan ≡ get_or w p nan =
    λ i p m q. rw f (chunk_get nan 4 _ k i p w (omega arith) m q) in
    λ j. record {
      min = record { x = number 0 at (omega arith) (omega arith) j; y = number 1 (at + 1) (omega arith) (omega arith) j };
      max = record { x = number 2 (at + 2) (omega arith) (omega arith) j; y = number 3 (at + 3) (omega arith) (omega arith) j };
    }
