-- The tests of `corner` and `pivot`, for steps of 1 / 2 ^ k and a bound of 2 ^ w: a size within the bound, and 2 ^ k times it whole. Assumes nothing.
use mathlib.Core.Path.{◌≡◌, refl, sym, ap, ◌∙◌, subst}
use Prim.Native.Nat.{ℕ, zero, suc, ◌+◌, ◌*◌, ◌/◌, ◌%◌, ◌^◌, ◌≤◌, ◌<◌}
use native.Mathlib.Nat.{mul_right_comm, mul-le-mul_right, mul-lt-mul_of_pos_right, le_trans, le_of_eq, lt_of_le_of_lt, lt_of_mul-lt-mul_right, div-add-mod', add-zero, div-lt_iff_lt-mul, lt-suc_self, le_of_suc-le-suc}
use native.Mathlib.Omega.{arith}
use mathlib.Core.Bool.{Bool, true, false, cond, ◌&&◌}
use lib.IntN.{ℤ, pos, nat_abs}
use lib.Dec.{T, leb, eqb, lit<, lit≤}
use lib.Pow.{pow_pos, pow-add, pow_mono}
use lib.Ieee.{Float, nan, inf, fin, binary32, up, down, add, sub, mul, neg, lt, le, eq, fits, of_bits}
use lib.Ieee.Fits.{down_pos}
use borrow.Author.Tests.{leb-true, leb-false, eqb-true, le-leb, lt-leb}
use Rattle.floats.specs.Count.{signed, off, at, count_of}
use Rattle.floats.proofs.Plain.{nil, power, below_nil, not_below_nil, some_digits, le_power}
use Rattle.floats.proofs.Sign.{size_signed}
use Rattle.floats.proofs.Held.{zero_exponent, unsigned}
use Rattle.grid.specs.Grid.{on_grid, within, corner_refusal, pivot_refusal}
use Rattle.grid.specs.Steps.{taken_by}
use Rattle.grid.proofs.Product.{times}
use Rattle.grid.proofs.Whole.{big, whole_test}

-- the size that the code takes, and its test of a whole number
abbrev pub abs_f : Float → Float
abs_f x = cond (lt x nil) (neg x) x

abbrev pub whole_f : Float → Bool
whole_f y = eq (sub binary32 (add binary32 y big) big) y

-- the answer for steps of 1 / 2 ^ k and a bound of 2 ^ w
abbrev pub code : ℕ → ℕ → Float → ℕ
code k w x = cond (le (abs_f x) (power w)) (cond (whole_f (mul binary32 (abs_f x) (power k))) 0 3) 3

-- both zeros are taken: computed
abbrev pub ZerosTaken : ℕ → ℕ → Type 0
ZerosTaken k w = (s : Bool) → within (2 ^ k) (2 ^ w) (fin s 0 (pos 0)) ≡ code k w (fin s 0 (pos 0))

pub corner_zeros : ZerosTaken 5 14
unfolding within count_of add sub mul neg lt le eq
corner_zeros true = refl
corner_zeros false = refl

pub pivot_zeros : ZerosTaken 6 15
unfolding within count_of add sub mul neg lt le eq
pivot_zeros true = refl
pivot_zeros false = refl

-- ---- sizes
pub size_of : (s : Bool) (m : ℕ) (e : ℤ) → abs_f (fin s (suc m) e) ≡ fin false (suc m) e
unfolding neg
size_of true m e = ap (λ (t : Bool). cond t (fin false (suc m) e) (fin true (suc m) e)) (below_nil (suc m) e ∙ some_digits m e)
size_of false m e = ap (λ (t : Bool). cond t (fin true (suc m) e) (fin false (suc m) e)) (not_below_nil (suc m) e)

-- ---- 2 ^ k times a size of at most 2 ^ w
module _ (k w : ℕ) (K : w + k ≤ 23) where
  fine : k ≤ 100
  fine = omega arith

  bounded : (A D : ℕ) → A ≤ 2 ^ w * D → A * 2 ^ k ≤ 2 ^ 23 * D
  bounded A D h =
      le_trans (mul-le-mul_right (2 ^ k) h)
      (le_trans (le_of_eq (mul_right_comm (2 ^ w) D (2 ^ k) ∙ ap (λ (x : ℕ). x * D) (sym (pow-add 2 w k)))) (mul-le-mul_right D (pow_mono K)))

  pub test : (m : ℕ) (e : ℤ) → T (fits binary32 (fin false m e)) → m * up e ≤ 2 ^ w * down e → whole_f (mul binary32 (fin false m e) (power k)) ≡ eqb (m * up e * 2 ^ k % down e) 0
  test m e f h =
      let b = bounded (m * up e) (down e) h in
      whole_test (mul binary32 (fin false m e) (power k)) (m * up e * 2 ^ k) (down e) (down_pos e)
      (times k fine m e f (lt_of_le_of_lt b (mul-lt-mul_of_pos_right (lit< tt) (down_pos e))))
      b

  -- as many steps as the bound has, or more
  within_bound : (A D : ℕ) → 0 < D → A ≤ 2 ^ w * D → A * 2 ^ k / D ≤ 2 ^ w * 2 ^ k
  within_bound A D p h =
      le_of_suc-le-suc ((div-lt_iff_lt-mul p).1 (lt_of_le_of_lt (le_trans (mul-le-mul_right (2 ^ k) h) (le_of_eq (mul_right_comm (2 ^ w) D (2 ^ k)))) (mul-lt-mul_of_pos_right (lt-suc_self (2 ^ w * 2 ^ k)) p)))

  past_bound : (A D : ℕ) → 2 ^ w * D < A → A * 2 ^ k % D ≡ 0 → 2 ^ w * 2 ^ k < A * 2 ^ k / D
  past_bound A D h z =
      lt_of_mul-lt-mul_right D
      (subst (λ (n : ℕ). 2 ^ w * 2 ^ k * D < n) (sym (div-add-mod' (A * 2 ^ k) D) ∙ ap (λ (r : ℕ). A * 2 ^ k / D * D + r) z ∙ add-zero (A * 2 ^ k / D * D))
      (subst (λ (n : ℕ). n < A * 2 ^ k) (mul_right_comm (2 ^ w) D (2 ^ k)) (mul-lt-mul_of_pos_right h (pow_pos k))))

  counted : (s : Bool) (q : ℕ) (t : Bool) → (t ≡ true → q ≤ 2 ^ w * 2 ^ k) → on_grid (cond t (at (signed s q)) off) (λ z. cond (leb (nat_abs z) (2 ^ w * 2 ^ k)) 0 3) ≡ cond t 0 3
  counted s q true h = ap (λ (n : ℕ). cond (leb n (2 ^ w * 2 ^ k)) 0 3) (size_signed s q) ∙ ap (λ (t : Bool). cond t 0 3) (le-leb q (2 ^ w * 2 ^ k) (h refl))
  counted s q false h = refl

  too_many : (s : Bool) (q : ℕ) (t : Bool) → (t ≡ true → 2 ^ w * 2 ^ k < q) → on_grid (cond t (at (signed s q)) off) (λ z. cond (leb (nat_abs z) (2 ^ w * 2 ^ k)) 0 3) ≡ 3
  too_many s q true h = ap (λ (n : ℕ). cond (leb n (2 ^ w * 2 ^ k)) 0 3) (size_signed s q) ∙ ap (λ (t : Bool). cond t 0 3) (lt-leb q (2 ^ w * 2 ^ k) (h refl))
  too_many s q false h = refl

  above_zero : (s : Bool) (m : ℕ) (e : ℤ) → T (fits binary32 (fin s (suc m) e)) → within (2 ^ k) (2 ^ w) (fin s (suc m) e) ≡ code k w (fin s (suc m) e)
  unfolding within count_of
  above_zero s m e f =
      go (leb A (2 ^ w * down e)) refl
      ∙ sym (ap (λ (z : Float). cond (le z (power w)) (cond (whole_f (mul binary32 z (power k))) 0 3) 3) (size_of s m e) ∙ ap (λ (t : Bool). cond t (cond (whole_f (mul binary32 (fin false (suc m) e) (power k))) 0 3) 3) (le_power (suc m) e w))
    where
      A : ℕ
      A = suc m * up e

      on : Bool
      on = eqb (A * 2 ^ k % down e) 0

      go : (t : Bool) → leb A (2 ^ w * down e) ≡ t
          → on_grid (cond on (at (signed s (A * 2 ^ k / down e))) off) (λ z. cond (leb (nat_abs z) (2 ^ w * 2 ^ k)) 0 3) ≡ cond t (cond (whole_f (mul binary32 (fin false (suc m) e) (power k))) 0 3) 3
      go true h =
          let a : A ≤ 2 ^ w * down e = leb-true A (2 ^ w * down e) h in
          counted s (A * 2 ^ k / down e) on (λ _. within_bound A (down e) (down_pos e) a) ∙ ap (λ (t : Bool). cond t 0 3) (sym (test (suc m) e (unsigned s false (suc m) e f) a))
      go false h =
          too_many s (A * 2 ^ k / down e) on (λ t. past_bound A (down e) (leb-false A (2 ^ w * down e) h) (eqb-true (A * 2 ^ k % down e) 0 t))

  within_is : ZerosTaken k w → (x : Float) → T (fits binary32 x) → within (2 ^ k) (2 ^ w) x ≡ code k w x
  within_is zeros nan f = unfold within count_of lt le eq in refl
  within_is zeros (inf true) f = unfold within count_of lt le eq neg in refl
  within_is zeros (inf false) f = unfold within count_of lt le eq in refl
  within_is zeros (fin s zero e) f = subst (λ (d : ℤ). within (2 ^ k) (2 ^ w) (fin s 0 d) ≡ code k w (fin s 0 d)) (sym (zero_exponent s e f)) (zeros s)
  within_is zeros (fin s (suc m) e) f = above_zero s m e f

  -- ---- the test of the code
  both : (a b : Bool) → ◌≡◌ {A = ℕ} (cond (a && b) 0 3) (cond a (cond b 0 3) 3)
  both true b = refl
  both false b = refl

  pub by_test : ZerosTaken k w → (x : Float) → T (fits binary32 x) → cond (taken_by x (power w) (power k)) 0 3 ≡ within (2 ^ k) (2 ^ w) x
  unfolding of_bits
  by_test zeros x f = both (le (abs_f x) (power w)) (whole_f (mul binary32 (abs_f x) (power k))) ∙ sym (within_is zeros x f)

-- 2 ^ 14 and 2 ^ 5, 2 ^ 15 and 2 ^ 6 as the code has them
pub corner_taken : (x : Float) → T (fits binary32 x) → cond (taken_by x (of_bits binary32 0x4680_0000) (of_bits binary32 0x4200_0000)) 0 3 ≡ corner_refusal x
unfolding of_bits
corner_taken = by_test 5 14 (lit≤ tt) corner_zeros

pub pivot_taken : (x : Float) → T (fits binary32 x) → cond (taken_by x (of_bits binary32 0x4700_0000) (of_bits binary32 0x4280_0000)) 0 3 ≡ pivot_refusal x
unfolding of_bits
pivot_taken = by_test 6 15 (lit≤ tt) pivot_zeros
