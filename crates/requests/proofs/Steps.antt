-- 32nds of a point as f32. Assumes nothing.
use Rattle.std.proofs.Common.{◌≡◌, ℕ, ◌<◌, ◌≤◌, true, false, refl, ap, ◌∙◌, mul-one, lit<, lit≤, le_trans}
use borrow.Author.Tests.{le-leb, lt-leb}
use lib.IntN.{pos}
use lib.Ieee.{binary32, round, div, of_int, of_bits, neg}
use lib.Ieee.Exact.{HasValue}
use lib.Ieee.Back.{round_whole}
use Rattle.floats.proofs.Value.{div_at}
use Rattle.floats.proofs.Plain.{power, power_value}
use Rattle.floats.proofs.Held.{round_neg}
use Rattle.forms.specs.declared.Coordinate.{Coordinate}
use Rattle.requests.specs.Asked.{bounded, points}
use Rattle.requests.specs.Readers.{magnitude_of}

cast_value : (n : ℕ) → n ≤ 524288 → HasValue (of_int binary32 (pos n)) false n 1
unfolding of_int
cast_value n h = round_whole binary32 false n (le_trans h (lit≤ tt))

-- (n as f32) / 32.0
pub points_taken : (n : ℕ) → n ≤ 524288 → div binary32 (of_int binary32 (pos n)) (of_bits binary32 1107296256) ≡ magnitude_of n
unfolding of_bits
points_taken n h =
    div_at (of_int binary32 (pos n)) (power 5) false false n 1 32 1 (lit< tt) (lit< tt) (lit< tt) (cast_value n h) (power_value 5 1)
    ∙ ap (λ (x : ℕ). round binary32 false x 32) (mul-one n)
    ∙ rw (le-leb n 524288 h) refl

pub points_past : (n : ℕ) → 524288 < n → of_bits binary32 1199570944 ≡ magnitude_of n
unfolding of_bits round
points_past n h = rw (lt-leb n 524288 h) refl

pub points_below : (c : Coordinate) → c.below ≡ true → neg (magnitude_of c.steps) ≡ points c
unfolding points
points_below c e = round_neg binary32 false (bounded c.steps) 32 ∙ rw e refl

pub points_above : (c : Coordinate) → c.below ≡ false → magnitude_of c.steps ≡ points c
unfolding points
points_above c e = rw e refl
