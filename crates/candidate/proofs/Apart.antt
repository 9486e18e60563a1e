-- On the grid `range_diff` is the whole-number difference, one axis at a time: a law for both axes. Assumes nothing.
use mathlib.Core.Path.{◌≡◌, refl, ap, ◌∙◌}
use Prim.Native.Nat.{ℕ, ◌+◌, ◌^◌, ◌≤◌, ◌<◌}
use native.Mathlib.Omega.{arith}
use mathlib.Core.Bool.{Bool, true, false, cond}
use lib.IntN.{ℤ, pos, nat_abs, ◌+ℤ◌, ◌-ℤ◌, ◌*ℤ◌}
use lib.Signed.{lt_z, le_z}
use lib.Dec.{lit<, lit≤}
use lib.Ieee.{binary32, of_bits, add, sub, mul}
use Rattle.refusal.specs.Refusal.{none, lowest}
use Rattle.floats.specs.Count.{at, count_of, half}
use Rattle.floats.proofs.Counts.{add_count, sub_count, le_count, pick_count}
use Rattle.floats.proofs.Scale.{half_count, finer_count}
use Rattle.floats.proofs.Sign.{size_add, size_sub}
use Rattle.emath.specs.declared.Rangef.{Rangef}
use Rattle.emath.specs.declared.Rect.{Rect}
use Rattle.emath.specs.Rect.{x_range, y_range}
use Rattle.emath.specs.Range.{max_f, min_f, span_of, center_of, intersection_of}
use Rattle.emath.proofs.Choice.{max_count, min_count}
use Rattle.grid.specs.Grid.{corner_refusal, pivot_refusal, pivot_pos_refusal, rect_refusal}
use Rattle.grid.proofs.Accepted.{within_count, count_within, rect_taken}
use Rattle.candidate.specs.Candidate.{zero, has_significant_overlap, range_diff, to_candidate}
use Rattle.candidate.specs.Steps.{lower, higher, overlap_of, smaller_span, steps_apart}

-- ---- sizes
size_pick : (t : Bool) (a b : ℤ) (n : ℕ) → nat_abs a ≤ n → nat_abs b ≤ n → nat_abs (cond t a b) ≤ n
size_pick true a b n h k = h
size_pick false a b n h k = k

both : {n x y : ℕ} → n ≤ x + y → x ≤ 2 ^ 19 → y ≤ 2 ^ 19 → n ≤ 2 ^ 20
both h p q = omega arith

fit : {n : ℕ} → n ≤ 2 ^ 20 → n < 2 ^ 24
fit h = omega arith

zero_count : count_of 64 zero ≡ at (pos 0)
unfolding count_of of_bits
zero_count = refl

-- ---- one range: its ends in 32nds
module _ (r : Rangef) (lo hi : ℤ) (L : count_of 32 r.min ≡ at lo) (H : count_of 32 r.max ≡ at hi) (l : nat_abs lo ≤ 2 ^ 19) (h : nat_abs hi ≤ 2 ^ 19) where
  span_count : count_of 32 (span_of r) ≡ at (hi -ℤ lo)
  unfolding span_of
  span_count = sub_count 5 (lit≤ tt) r.max r.min hi lo H L (fit (both (size_sub hi lo) h l))

  center_count : count_of 64 (center_of r) ≡ at (lo +ℤ hi)
  unfolding center_of
  center_count =
      let small = fit (both (size_add lo hi) l h) in
      half_count 5 (lit≤ tt) (add binary32 r.min r.max) (lo +ℤ hi) (add_count 5 (lit≤ tt) r.min r.max lo hi L H small) small

-- ---- two ranges
module _ (a b : Rangef) (a0 a1 b0 b1 : ℤ) (A0 : count_of 32 a.min ≡ at a0) (A1 : count_of 32 a.max ≡ at a1) (B0 : count_of 32 b.min ≡ at b0) (B1 : count_of 32 b.max ≡ at b1)
    (p0 : nat_abs a0 ≤ 2 ^ 19) (p1 : nat_abs a1 ≤ 2 ^ 19) (q0 : nat_abs b0 ≤ 2 ^ 19) (q1 : nat_abs b1 ≤ 2 ^ 19) where
  overlap_size : nat_abs (overlap_of a0 a1 b0 b1) ≤ 2 ^ 20
  overlap_size = both (size_sub (lower a1 b1) (higher a0 b0)) (size_pick (lt_z b1 a1) b1 a1 (2 ^ 19) q1 p1) (size_pick (lt_z a0 b0) b0 a0 (2 ^ 19) q0 p0)

  span_size : nat_abs (smaller_span a0 a1 b0 b1) ≤ 2 ^ 20
  span_size = size_pick (lt_z (a1 -ℤ a0) (b1 -ℤ b0)) (a1 -ℤ a0) (b1 -ℤ b0) (2 ^ 20) (both (size_sub a1 a0) p1 p0) (both (size_sub b1 b0) q1 q0)

  overlap_count : count_of 32 (span_of (intersection_of a b)) ≡ at (overlap_of a0 a1 b0 b1)
  unfolding span_of intersection_of
  overlap_count =
      sub_count 5 (lit≤ tt) (min_f a.max b.max) (max_f a.min b.min) (lower a1 b1) (higher a0 b0)
      (min_count 32 (lit< tt) a.max b.max a1 b1 A1 B1)
      (max_count 32 (lit< tt) a.min b.min a0 b0 A0 B0)
      (fit overlap_size)

  half_span : count_of 64 (mul binary32 half (min_f (span_of b) (span_of a))) ≡ at (smaller_span a0 a1 b0 b1)
  half_span =
      half_count 5 (lit≤ tt) (min_f (span_of b) (span_of a)) (smaller_span a0 a1 b0 b1)
      (min_count 32 (lit< tt) (span_of b) (span_of a) (b1 -ℤ b0) (a1 -ℤ a0) (span_count b b0 b1 B0 B1 q0 q1) (span_count a a0 a1 A0 A1 p0 p1))
      (fit span_size)

  test_count : has_significant_overlap a b ≡ le_z (smaller_span a0 a1 b0 b1) (overlap_of a0 a1 b0 b1 *ℤ pos 2)
  unfolding has_significant_overlap
  test_count =
      le_count 64 (lit< tt) (mul binary32 half (min_f (span_of b) (span_of a))) (span_of (intersection_of a b)) (smaller_span a0 a1 b0 b1) (overlap_of a0 a1 b0 b1 *ℤ pos 2) half_span
      (finer_count 32 2 (lit< tt) (span_of (intersection_of a b)) (overlap_of a0 a1 b0 b1) overlap_count)

  centers_size : nat_abs ((a0 +ℤ a1) -ℤ (b0 +ℤ b1)) ≤ 2 ^ 21
  centers_size = four (size_sub (a0 +ℤ a1) (b0 +ℤ b1)) (both (size_add a0 a1) p0 p1) (both (size_add b0 b1) q0 q1)
    where
      four : {n x y : ℕ} → n ≤ x + y → x ≤ 2 ^ 20 → y ≤ 2 ^ 20 → n ≤ 2 ^ 21
      four h p q = omega arith

  pub apart_count : count_of 64 (range_diff a b) ≡ at (steps_apart a0 a1 b0 b1)
  unfolding range_diff
  apart_count =
      ap (λ (t : Bool). count_of 64 (cond t zero (sub binary32 (center_of a) (center_of b)))) test_count
      ∙ pick_count 64 (le_z (smaller_span a0 a1 b0 b1) (overlap_of a0 a1 b0 b1 *ℤ pos 2)) zero (sub binary32 (center_of a) (center_of b)) (pos 0) ((a0 +ℤ a1) -ℤ (b0 +ℤ b1)) zero_count
      (sub_count 6 (lit≤ tt) (center_of a) (center_of b) (a0 +ℤ a1) (b0 +ℤ b1) (center_count a a0 a1 A0 A1 p0 p1) (center_count b b0 b1 B0 B1 q0 q1) (wide centers_size))
    where
      wide : {n : ℕ} → n ≤ 2 ^ 21 → n < 2 ^ 24
      wide h = omega arith

  pub apart_size : nat_abs (steps_apart a0 a1 b0 b1) ≤ 2 ^ 21
  apart_size = size_pick (le_z (smaller_span a0 a1 b0 b1) (overlap_of a0 a1 b0 b1 *ℤ pos 2)) (pos 0) ((a0 +ℤ a1) -ℤ (b0 +ℤ b1)) (2 ^ 21) (lit≤ tt) centers_size

-- ---- two rectangles that are taken: on both axes the difference is one that has a length
one_axis : (a b : Rangef) → corner_refusal a.min ≡ none → corner_refusal a.max ≡ none → corner_refusal b.min ≡ none → corner_refusal b.max ≡ none → pivot_refusal (range_diff a b) ≡ none
one_axis a b A0 A1 B0 B1 =
    let a0 = within_count 32 16384 a.min A0 in
    let a1 = within_count 32 16384 a.max A1 in
    let b0 = within_count 32 16384 b.min B0 in
    let b1 = within_count 32 16384 b.max B1 in
    count_within 64 32768 (range_diff a b) (steps_apart a0.0 a1.0 b0.0 b1.0)
    (apart_count a b a0.0 a1.0 b0.0 b1.0 a0.1 a1.1 b0.1 b1.1 a0.2 a1.2 b0.2 b1.2)
    (apart_size a b a0.0 a1.0 b0.0 b1.0 a0.1 a1.1 b0.1 b1.1 a0.2 a1.2 b0.2 b1.2)

pub taken_apart : (a b : Rect) → rect_refusal a ≡ none → rect_refusal b ≡ none → pivot_pos_refusal (to_candidate a b).x (to_candidate a b).y ≡ none
unfolding lowest
taken_apart a b h k =
    let s = rect_taken a h in
    let t = rect_taken b k in
    λ i. lowest (one_axis (x_range a) (x_range b) s.left s.right t.left t.right i) (one_axis (y_range a) (y_range b) s.top s.bottom t.top t.bottom i)
