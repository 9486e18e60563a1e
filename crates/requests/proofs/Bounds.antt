-- Coordinates on the grid, and past its bounds. Assumes nothing.
use Rattle.std.proofs.Common.{◌≡◌, ℕ, ◌<◌, ◌≤◌, Bool, true, false, cond, leb, refl, lit≤, arith}
use borrow.Author.Tests.{leb-true, lt-leb}
use lib.Ieee.{binary32, round}
use Rattle.refusal.specs.Refusal.{off_grid, reversed}
use Rattle.floats.specs.Count.{at, signed, count_of}
use Rattle.floats.proofs.Counts.{round_count}
use Rattle.grid.specs.Grid.{within, corner_refusal, pivot_refusal, side_refusal}
use Rattle.forms.specs.declared.Coordinate.{Coordinate}
use Rattle.requests.specs.Asked.{bounded, points}

few : (n : ℕ) → bounded n < 16777216
few n = go (leb n 524288) (leb-true n 524288)
  where
    go : (t : Bool) → (t ≡ true → n ≤ 524288) → cond t n 2097152 < 16777216
    go true h = omega (arith, h refl)
    go false h = omega arith

pub exact : (c : Coordinate) → count_of 32 (points c) ≡ at (signed c.below (bounded c.steps))
unfolding points
exact c = round_count c.below (bounded c.steps) 5 (lit≤ tt) (few c.steps)

-- the number for which all that are past stand
past_by : (below : Bool) → (corner_refusal (round binary32 below 2097152 32) ≡ off_grid) × (pivot_refusal (round binary32 below 2097152 32) ≡ off_grid) × (side_refusal (round binary32 below 2097152 32) ≡ cond below reversed off_grid)
unfolding within side_refusal count_of round
past_by true = (refl, refl, refl)
past_by false = (refl, refl, refl)

pub past : (c : Coordinate) → 524288 < c.steps → (corner_refusal (points c) ≡ off_grid) × (pivot_refusal (points c) ≡ off_grid) × (side_refusal (points c) ≡ cond c.below reversed off_grid)
unfolding points
past c h = rw (lt-leb c.steps 524288 h) (past_by c.below)
