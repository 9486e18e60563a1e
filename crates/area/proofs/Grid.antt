-- An area's left top and right bottom on the grid, one axis at a time: a law for both axes. Assumes nothing.
use mathlib.Core.Path.{◌≡◌, refl, sym, ap, ◌∙◌, subst}
use Prim.Native.Nat.{ℕ, zero, suc, ◌+◌, ◌*◌, ◌/◌, ◌^◌, ◌≤◌, ◌<◌}
use native.Mathlib.Nat.{mul-le-mul, lt_of_le_of_lt}
use native.Mathlib.Omega.{arith}
use lib.IntN.{ℤ, pos, negsuc, neg_ℤ, nat_abs, ◌+ℤ◌, ◌-ℤ◌, ◌*ℤ◌}
use lib.Dec.{ltb, lit<, lit≤}
use borrow.Author.Tests.{ltb-false}
use lib.Ieee.{Float, binary32, add, sub, mul, of_bits}
use Rattle.floats.specs.Count.{at, count_of}
use Rattle.floats.proofs.Counts.{add_count, sub_count}
use Rattle.floats.proofs.Scale.{mul_count, finer_count}
use Rattle.floats.proofs.Sign.{size_signed, size_add, size_sub}
use mathlib.Core.Bool.{Bool, true, false, cond}
use Rattle.refusal.specs.Refusal.{none, bad_code, lowest, code_refusal}
use Rattle.refusal.proofs.Laws.{both_none}
use Rattle.refusal.specs.Limits.{last_pivot}
use Rattle.grid.specs.Grid.{within, pivot_refusal, side_refusal}
use Rattle.grid.proofs.Accepted.{within_count, side_count}
use Rattle.gui_rounding.specs.GuiRounding.{round_ui, half_away}
use Rattle.gui_rounding.proofs.Grid.{round_ui_count}
use Rattle.std.specs.Prelude.{Option, None, Some}
use Rattle.emath.specs.declared.Vec2.{Vec2}
use Rattle.area.specs.declared.AreaState.{AreaState}
use Rattle.area.specs.declared.PivotPos.{PivotPos}
use Rattle.area.specs.Area.{nil, position_of, extent_of, to_factor, left_top, rect_of, low_edge, high_edge, pivot_pos_at, size_at, state_refusal}

-- factor times size: f * n steps of 1 / 64
factor_count : (f : ℕ) → f ≤ 2 → count_of 2 (to_factor f) ≡ at (pos f)
unfolding to_factor count_of of_bits
factor_count zero h = refl
factor_count (suc zero) h = refl
factor_count (suc (suc zero)) h = refl
factor_count (suc (suc (suc f))) h = absurd (past f h)
  where
    past : (f : ℕ) → suc (suc (suc f)) ≤ 2 → ⊥
    past f h = omega arith

-- a whole number of 32nds counts twice as many 64ths, and rounds to itself
half_twice : (z : ℤ) → half_away (z *ℤ pos 2) ≡ z
half_twice (pos n) = ap pos (even n)
  where
    even : (n : ℕ) → (n * 2 + 1) / 2 ≡ n
    even n = omega arith
half_twice (negsuc n) = ap (λ (z : ℤ). half_away z) (twice n) ∙ ap (λ (m : ℕ). neg_ℤ (pos m)) (even n)
  where
    twice : (n : ℕ) → neg_ℤ (pos (suc n * 2)) ≡ negsuc (suc (n + n))
    twice n = ap (λ (m : ℕ). neg_ℤ (pos m)) (double n)
      where
        double : (n : ℕ) → suc n * 2 ≡ suc (suc (n + n))
        double n = omega arith

    even : (n : ℕ) → (suc (suc (n + n)) + 1) / 2 ≡ suc n
    even n = omega arith

size_twice : (z : ℤ) → nat_abs z < 2 ^ 23 → nat_abs (z *ℤ pos 2) < 2 ^ 24
size_twice (pos n) h = omega arith
size_twice (negsuc n) h = subst (λ (m : ℕ). m < 2 ^ 24) (sized n) (small n h)
  where
    sized : (n : ℕ) → suc (suc (n + n)) ≡ nat_abs (neg_ℤ (pos (suc n * 2)))
    sized n = ap (λ (m : ℕ). nat_abs (neg_ℤ (pos m))) (double n)
      where
        double : (n : ℕ) → suc (suc (n + n)) ≡ suc n * 2
        double n = omega arith

    small : (n : ℕ) → suc n < 2 ^ 23 → suc (suc (n + n)) < 2 ^ 24
    small n h = omega arith

half_size : (z : ℤ) → nat_abs z < 2 ^ 22 → nat_abs (half_away z) ≤ 2 ^ 21
half_size (pos m) h = omega arith
half_size (negsuc m) h = subst (λ (k : ℕ). k ≤ 2 ^ 21) (sym (size_signed true ((suc m + 1) / 2))) (halved m h)
  where
    halved : (m : ℕ) → suc m < 2 ^ 22 → (suc m + 1) / 2 ≤ 2 ^ 21
    halved m h = omega arith

pub round_grid : (x : Float) (z : ℤ) → count_of 32 x ≡ at z → nat_abs z < 2 ^ 23 → count_of 32 (round_ui x) ≡ at z
round_grid x z p h = round_ui_count x (z *ℤ pos 2) (finer_count 32 2 (lit< tt) x z p) (size_twice z h) ∙ ap at (half_twice z)

-- ---- one axis: the position p in 64ths, the size n in 32nds, the pivot's code f
module _ (position size : Float) (p : ℤ) (n f : ℕ) (P : count_of 64 position ≡ at p) (N : count_of 32 size ≡ at (pos n)) (b : nat_abs p ≤ 2 ^ 21) (c : n ≤ 2 ^ 19) (d : f ≤ 2) where
  part : f * n ≤ 2 ^ 20
  part = mul-le-mul d c

  part_count : count_of 64 (mul binary32 (to_factor f) size) ≡ at (pos (f * n))
  part_count = mul_count 1 5 (lit≤ tt) (to_factor f) size (pos f) (pos n) (factor_count f d) N (lt_of_le_of_lt part (lit< tt))

  shifted : nat_abs (p -ℤ pos (f * n)) < 2 ^ 22
  shifted = small (size_sub p (pos (f * n))) b part
    where
      small : {x y z : ℕ} → z ≤ x + y → x ≤ 2 ^ 21 → y ≤ 2 ^ 20 → z < 2 ^ 22
      small h i j = omega arith

  -- left_top_pos
  pub left_count : count_of 32 (round_ui (sub binary32 position (mul binary32 (to_factor f) size))) ≡ at (low_edge p f n)
  left_count =
      round_ui_count (sub binary32 position (mul binary32 (to_factor f) size)) (p -ℤ pos (f * n))
      (sub_count 6 (lit≤ tt) position (mul binary32 (to_factor f) size) p (pos (f * n)) P part_count (wide shifted))
      (wide shifted)
    where
      wide : {x : ℕ} → x < 2 ^ 22 → x < 2 ^ 24
      wide h = omega arith

  -- rect: the other edge is the size further
  pub right_count : count_of 32 (round_ui (add binary32 (round_ui (sub binary32 position (mul binary32 (to_factor f) size))) size)) ≡ at (high_edge p f n)
  right_count =
      let z = half_away (p -ℤ pos (f * n)) in
      let far : nat_abs (z +ℤ pos n) < 2 ^ 22 = sum (size_add z (pos n)) (half_size (p -ℤ pos (f * n)) shifted) c in
      round_grid (add binary32 (round_ui (sub binary32 position (mul binary32 (to_factor f) size))) size) (z +ℤ pos n)
      (add_count 5 (lit≤ tt) (round_ui (sub binary32 position (mul binary32 (to_factor f) size))) size z (pos n) left_count N (wide far))
      (near far)
    where
      sum : {x y z : ℕ} → z ≤ x + y → x ≤ 2 ^ 21 → y ≤ 2 ^ 19 → z < 2 ^ 22
      sum h i j = omega arith

      wide : {x : ℕ} → x < 2 ^ 22 → x < 2 ^ 24
      wide h = omega arith

      near : {x : ℕ} → x < 2 ^ 22 → x < 2 ^ 23
      near h = omega arith

  -- rect's low edge, rounded once more
  pub low_count : count_of 32 (round_ui (round_ui (sub binary32 position (mul binary32 (to_factor f) size)))) ≡ at (low_edge p f n)
  low_count = round_grid (round_ui (sub binary32 position (mul binary32 (to_factor f) size))) (low_edge p f n) left_count (near (half_size (p -ℤ pos (f * n)) shifted))
    where
      near : {x : ℕ} → x ≤ 2 ^ 21 → x < 2 ^ 23
      near h = omega arith

-- ---- a state that is not refused
at_is : {a b : ℤ} → at a ≡ at b → a ≡ b
at_is e = cc

code_taken : (f : ℕ) → code_refusal f last_pivot ≡ none → f ≤ 2
code_taken f h = go (ltb 2 f) (ltb-false 2 f) h
  where
    clash : bad_code ≡ none → ⊥
    clash h = omega arith

    go : (t : Bool) → (t ≡ false → f ≤ 2) → cond t bad_code none ≡ none → f ≤ 2
    go true k h = absurd (clash h)
    go false k h = k refl

-- a number of the grid, or the zero that stands for an absent one
position_bound : (x : Float) → pivot_refusal x ≡ none → (p : ℤ) → count_of 64 x ≡ at p → nat_abs p ≤ 2 ^ 21
position_bound x h p e = let v = within_count 64 32768 x h in subst (λ (z : ℤ). nat_abs z ≤ 2 ^ 21) (at_is (sym v.1 ∙ e)) v.2

size_bound : (x : Float) → side_refusal x ≡ none → (n : ℕ) → count_of 32 x ≡ at (pos n) → n ≤ 2 ^ 19
size_bound x h n e = let v = side_count x h in subst (λ (m : ℕ). m ≤ 2 ^ 19) (ap nat_abs (at_is (sym v.1 ∙ e))) v.2

nil_position : pivot_refusal nil ≡ none
unfolding within count_of of_bits
nil_position = refl

nil_size : side_refusal nil ≡ none
unfolding side_refusal count_of of_bits
nil_size = refl

positions : (p : PivotPos) → pivot_pos_at p ≡ none → (pivot_refusal (position_of p).x ≡ none) × (pivot_refusal (position_of p).y ≡ none)
positions PivotPos.Absent h = (nil_position, nil_position)
positions (PivotPos.At x y) h = both_none (pivot_refusal x) (pivot_refusal y) h

sizes : (s : Option Vec2) → size_at s ≡ none → (side_refusal (extent_of s).x ≡ none) × (side_refusal (extent_of s).y ≡ none)
sizes None h = (nil_size, nil_size)
sizes (Some v) h = both_none (side_refusal v.x) (side_refusal v.y) h

module _ (s : AreaState) (taken : state_refusal s ≡ none) (p q : ℤ) (w h : ℕ) (P : count_of 64 (position_of s.pivot_pos).x ≡ at p) (Q : count_of 64 (position_of s.pivot_pos).y ≡ at q)
    (W : count_of 32 (extent_of s.size).x ≡ at (pos w)) (H : count_of 32 (extent_of s.size).y ≡ at (pos h)) where
  parts : (lowest (code_refusal s.pivot.x last_pivot) (code_refusal s.pivot.y last_pivot) ≡ none) × (lowest (pivot_pos_at s.pivot_pos) (size_at s.size) ≡ none)
  unfolding state_refusal
  parts = both_none (lowest (code_refusal s.pivot.x last_pivot) (code_refusal s.pivot.y last_pivot)) (lowest (pivot_pos_at s.pivot_pos) (size_at s.size)) taken

  pub corners : (count_of 32 (left_top s).x ≡ at (low_edge p s.pivot.x w)) × (count_of 32 (left_top s).y ≡ at (low_edge q s.pivot.y h))
      × (count_of 32 (rect_of s).min.x ≡ at (low_edge p s.pivot.x w)) × (count_of 32 (rect_of s).min.y ≡ at (low_edge q s.pivot.y h))
      × (count_of 32 (rect_of s).max.x ≡ at (high_edge p s.pivot.x w)) × (count_of 32 (rect_of s).max.y ≡ at (high_edge q s.pivot.y h))
  unfolding left_top rect_of
  corners =
      let codes = both_none (code_refusal s.pivot.x last_pivot) (code_refusal s.pivot.y last_pivot) parts.0 in
      let floats = both_none (pivot_pos_at s.pivot_pos) (size_at s.size) parts.1 in
      let position = positions s.pivot_pos floats.0 in
      let size = sizes s.size floats.1 in
      let fx = code_taken s.pivot.x codes.0 in
      let fy = code_taken s.pivot.y codes.1 in
      let px = position_bound (position_of s.pivot_pos).x position.0 p P in
      let py = position_bound (position_of s.pivot_pos).y position.1 q Q in
      let sx = size_bound (extent_of s.size).x size.0 w W in
      let sy = size_bound (extent_of s.size).y size.1 h H in (
        left_count _ _ p w s.pivot.x P W px sx fx,
        left_count _ _ q h s.pivot.y Q H py sy fy,
        low_count _ _ p w s.pivot.x P W px sx fx,
        low_count _ _ q h s.pivot.y Q H py sy fy,
        right_count _ _ p w s.pivot.x P W px sx fx,
        right_count _ _ q h s.pivot.y Q H py sy fy,
      )
