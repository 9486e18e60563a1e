-- y + 2 ^ 23 - 2 ^ 23 is y exactly where y, from 0 to 2 ^ 23, is whole: from 2 ^ 23 on an f32 has no fraction. Assumes nothing.
use mathlib.Core.Path.{◌≡◌, refl, sym, ap, ◌∙◌, subst}
use Prim.Native.Nat.{ℕ, ◌+◌, ◌-◌, ◌*◌, ◌/◌, ◌%◌, ◌^◌, ◌≤◌, ◌<◌}
use native.Mathlib.Nat.{mul-one, mul-mod_left, div-add-mod', add-zero, eq_of_mul-eq-mul_right, le_of_mul-le-mul_right, le_trans, le_of_eq}
use native.Mathlib.Omega.{arith}
use mathlib.Core.Bool.{Bool, true, false, ◌&&◌}
use lib.IntN.{pos, negsuc}
use lib.Dec.{T, eqb, eqb→eq, lit<, lit≤}
use lib.Ieee.{Float, nan, inf, fin, binary32, down, round, add, sub, neg, eq, le, fits}
use lib.Ieee.Fits.{down_pos, round-fits, eq→eqb}
use lib.Ieee.Exact.{HasValue}
use lib.Ieee.Back.{round_whole}
use lib.Ieee.Order.{round_mono}
use lib.Ieee.Scale.{round_same}
use lib.Ieee.Positive.{num, den, positive, own_value, values_of_le, between}
use Rattle.floats.proofs.Value.{same_test, add_at, neg_at, eq_at, rescaled}
use Rattle.floats.proofs.Plain.{power, power_value, no_fraction, joined, reduced}

-- 2 ^ 23
abbrev pub big : Float
big = power 23

-- ---- from 2 ^ 23 on: a whole number
pub record Whole (x : Float) : Type 0 where
  pub size : ℕ
  pub value : HasValue x false size 1

no_point : (x : Float) → T (fits binary32 x) → T (positive x) → 2 ^ 23 * den x ≤ num x * 1 → Whole x
no_point nan f p h = absurd p
no_point (inf s) f p h = absurd p
no_point (fin true m e) f p h = absurd p
no_point (fin false m (pos k)) f p h = record { size = m * 2 ^ k; value = (refl, refl) }
no_point (fin false m (negsuc k)) f p h = absurd (no_fraction false m k f (le_trans h (le_of_eq (mul-one (m * 1)))))

-- a float is one whole number
one_value : (x : Float) (a b : ℕ) → HasValue x false a 1 → HasValue x false b 1 → a ≡ b
one_value nan a b v w = absurd v
one_value (inf s) a b v w = absurd v
one_value (fin s m e) a b v w = eq_of_mul-eq-mul_right (down e) (down_pos e) a b (sym v.1 ∙ w.1)

-- ---- y is A / D
level_is : (t : Bool) → (t && true) ≡ t
level_is true = refl
level_is false = refl

positive_low : T (positive (round binary32 false (2 ^ 23) 1))
unfolding round
positive_low = tt

positive_high : T (positive (round binary32 false (2 ^ 24) 1))
unfolding round
positive_high = tt

module _ (y : Float) (A D : ℕ) (p : 0 < D) (v : HasValue y false A D) (h : A ≤ 2 ^ 23 * D) where
  S : Float
  S = round binary32 false (A + 2 ^ 23 * D) D

  sum_is : add binary32 y big ≡ S
  unfolding S
  sum_is = add_at y big false false A (2 ^ 23 * D) D p v (power_value 23 D) ∙ joined A (2 ^ 23 * D) D

  at_least : T (le (round binary32 false (2 ^ 23) 1) S)
  unfolding S
  at_least = round_mono binary32 (2 ^ 23) 1 (A + 2 ^ 23 * D) D (lit< tt) p (omega arith)

  at_most : T (le S (round binary32 false (2 ^ 24) 1))
  unfolding S
  at_most = round_mono binary32 (A + 2 ^ 23 * D) D (2 ^ 24) 1 p (lit< tt) (omega arith)

  above : T (positive S)
  above = between (round binary32 false (2 ^ 23) 1) S (round binary32 false (2 ^ 24) 1) positive_low positive_high at_least at_most

  rounded : Whole S
  unfolding S
  rounded =
      no_point S (round-fits binary32 false (A + 2 ^ 23 * D) D) above
      (values_of_le (round binary32 false (2 ^ 23) 1) S (2 ^ 23) 1 (num S) (den S) positive_low above (round_whole binary32 false (2 ^ 23) (lit≤ tt)) (own_value S above) at_least)

  N : ℕ
  N = rounded.size

  low : 2 ^ 23 ≤ N
  unfolding N
  low = omega (arith, values_of_le (round binary32 false (2 ^ 23) 1) S (2 ^ 23) 1 rounded.size 1 positive_low above (round_whole binary32 false (2 ^ 23) (lit≤ tt)) rounded.value at_least)

  high : N ≤ 2 ^ 24
  unfolding N
  high = omega (arith, values_of_le S (round binary32 false (2 ^ 24) 1) rounded.size 1 (2 ^ 24) 1 above positive_high rounded.value (round_whole binary32 false (2 ^ 24) (lit≤ tt)) at_most)

  back : sub binary32 S big ≡ round binary32 false (N - 2 ^ 23) 1
  unfolding sub N
  back = add_at S (neg big) false true rounded.size (2 ^ 23) 1 (lit< tt) rounded.value (neg_at big false (2 ^ 23) 1 (power_value 23 1)) ∙ reduced rounded.size (2 ^ 23) 1 low

  back_value : HasValue (round binary32 false (N - 2 ^ 23) 1) false ((N - 2 ^ 23) * D) D
  back_value =
      rescaled (round binary32 false (N - 2 ^ 23) 1) false (N - 2 ^ 23) 1 ((N - 2 ^ 23) * D) D (lit< tt) (mul-one ((N - 2 ^ 23) * D)) (round_whole binary32 false (N - 2 ^ 23) (small N high))
    where
      small : (n : ℕ) → n ≤ 2 ^ 24 → n - 2 ^ 23 ≤ 2 ^ 24
      small n k = omega arith

  -- where A / D is whole, nothing is rounded
  exactly : A % D ≡ 0 → (N - 2 ^ 23) * D ≡ A
  unfolding S N
  exactly z =
      let n = A / D in
      let is : n * D ≡ A = sym (add-zero (n * D)) ∙ ap (λ (r : ℕ). n * D + r) (sym z) ∙ div-add-mod' A D in
      let few : n ≤ 2 ^ 23 = le_of_mul-le-mul_right (subst (λ (a : ℕ). a ≤ 2 ^ 23 * D) (sym is) h) p in
      let s : HasValue S false (n + 2 ^ 23) 1 = subst (λ (x : Float). HasValue x false (n + 2 ^ 23) 1) (round_same binary32 false (n + 2 ^ 23) 1 (A + 2 ^ 23 * D) D (lit< tt) p (whole_sum A D n is)) (round_whole binary32 false (n + 2 ^ 23) (fits_in n few)) in
      ap (λ (m : ℕ). (m - 2 ^ 23) * D) (one_value S rounded.size (n + 2 ^ 23) rounded.value s) ∙ ap (λ (m : ℕ). m * D) (less n) ∙ is
    where
      whole_sum : (A D n : ℕ) → n * D ≡ A → (n + 2 ^ 23) * D ≡ (A + 2 ^ 23 * D) * 1
      whole_sum A D n e = omega arith

      fits_in : (n : ℕ) → n ≤ 2 ^ 23 → n + 2 ^ 23 ≤ 2 ^ 24
      fits_in n k = omega arith

      less : (n : ℕ) → n + 2 ^ 23 - 2 ^ 23 ≡ n
      less n = omega arith

  pub whole_test : eq (sub binary32 (add binary32 y big) big) y ≡ eqb (A % D) 0
  whole_test =
      ap (λ (x : Float). eq (sub binary32 x big) y) sum_is ∙ ap (λ (x : Float). eq x y) back
      ∙ eq_at (round binary32 false (N - 2 ^ 23) 1) y false false ((N - 2 ^ 23) * D) A D p back_value v
      ∙ level_is (eqb ((N - 2 ^ 23) * D) A)
      ∙ same_test (eqb ((N - 2 ^ 23) * D) A) (eqb (A % D) 0)
      (λ t. eq→eqb (subst (λ (a : ℕ). a % D ≡ 0) (eqb→eq ((N - 2 ^ 23) * D) A t) (mul-mod_left (N - 2 ^ 23) D)))
      (λ t. eq→eqb (exactly (eqb→eq (A % D) 0 t)))
