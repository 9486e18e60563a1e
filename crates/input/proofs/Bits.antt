-- The modifiers' bits: none is set exactly where the lowest five are 0. Assumes nothing.
use mathlib.Core.Path.{◌≡◌, refl, sym, ap, subst}
use Prim.Native.Nat.{ℕ, ◌/◌, ◌%◌}
use native.Mathlib.Nat.{div-div-eq-div-mul}
use native.Mathlib.Omega.{arith}
use mathlib.Core.Bool.{Bool, true, false, not, ◌||◌}
use lib.Dec.{eqb}
use borrow.Author.Tests.{eq-eqb, ne_eqb, eqb-true, eqb-false}
use Rattle.input.specs.Modifiers.{any_of, alt, ctrl, shift, mac_cmd, command}

even : (n : ℕ) → (n % 2 ≡ 1 → ⊥) → n % 2 ≡ 0
even n h = omega arith

two : (n : ℕ) → n % 2 ≡ 0 → n / 2 % 2 ≡ 0 → n % 4 ≡ 0
two n h k = omega arith

three : (n : ℕ) → n % 2 ≡ 0 → n / 2 % 4 ≡ 0 → n % 8 ≡ 0
three n h k = omega arith

four : (n : ℕ) → n % 2 ≡ 0 → n / 2 % 8 ≡ 0 → n % 16 ≡ 0
four n h k = omega arith

five : (n : ℕ) → n % 2 ≡ 0 → n / 2 % 16 ≡ 0 → n % 32 ≡ 0
five n h k = omega arith

-- one bit that is set shows in the lowest five
module _ (m : ℕ) where
  one_set : (t : Bool) → (t ≡ true → m % 32 ≡ 0 → ⊥) → (rest : Bool) → (t ≡ false → not (eqb (m % 32) 0) ≡ rest) → not (eqb (m % 32) 0) ≡ (t || rest)
  one_set true h rest k = ap not (ne_eqb (m % 32) 0 (h refl))
  one_set false h rest k = k refl

  none_set : (m % 2 ≡ 1 → ⊥) → (m / 2 % 2 ≡ 1 → ⊥) → (m / 4 % 2 ≡ 1 → ⊥) → (m / 8 % 2 ≡ 1 → ⊥) → (m / 16 % 2 ≡ 1 → ⊥) → m % 32 ≡ 0
  none_set a b c d e =
      five m (even m a)
      (four (m / 2) (even (m / 2) b)
      (subst (λ (n : ℕ). n % 8 ≡ 0) (sym (div-div-eq-div-mul m 2 2))
      (three (m / 4) (even (m / 4) c) (subst (λ (n : ℕ). n % 4 ≡ 0) (sym (div-div-eq-div-mul m 4 2)) (two (m / 8) (even (m / 8) d) (subst (λ (n : ℕ). n % 2 ≡ 0) (sym (div-div-eq-div-mul m 8 2)) (even (m / 16) e)))))))

  pub any_bits : not (eqb (m % 32) 0) ≡ any_of m
  unfolding any_of
  any_bits =
      one_set (alt m) (λ h z. low (eqb-true (m % 2) 1 h) z) _ (λ a. one_set (ctrl m) (λ h z. second (eqb-true (m / 2 % 2) 1 h) z) _ (λ b. one_set (shift m) (λ h z. third (eqb-true (m / 4 % 2) 1 h) z) _ (λ c. one_set (mac_cmd m) (λ h z. fourth (eqb-true (m / 8 % 2) 1 h) z) _ (λ d.
      last (command m) (λ h z. fifth (eqb-true (m / 16 % 2) 1 h) z) (λ e.
      none_set (eqb-false (m % 2) 1 a) (eqb-false (m / 2 % 2) 1 b) (eqb-false (m / 4 % 2) 1 c) (eqb-false (m / 8 % 2) 1 d) (eqb-false (m / 16 % 2) 1 e))))))
    where
      low : m % 2 ≡ 1 → m % 32 ≡ 0 → ⊥
      low h z = omega arith

      second : m / 2 % 2 ≡ 1 → m % 32 ≡ 0 → ⊥
      second h z = omega arith

      third : m / 4 % 2 ≡ 1 → m % 32 ≡ 0 → ⊥
      third h z = omega arith

      fourth : m / 8 % 2 ≡ 1 → m % 32 ≡ 0 → ⊥
      fourth h z = omega arith

      fifth : m / 16 % 2 ≡ 1 → m % 32 ≡ 0 → ⊥
      fifth h z = omega arith

      last : (t : Bool) → (t ≡ true → m % 32 ≡ 0 → ⊥) → (t ≡ false → m % 32 ≡ 0) → not (eqb (m % 32) 0) ≡ t
      last true h k = ap not (ne_eqb (m % 32) 0 (h refl))
      last false h k = ap not (eq-eqb (m % 32) 0 (k refl))
