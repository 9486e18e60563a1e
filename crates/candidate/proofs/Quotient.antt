-- A part of a difference on the grid, divided by the length: a quotient of whole numbers, at most 1. Assumes nothing.
use mathlib.Core.Path.{◌≡◌, refl, sym, ap, ◌∙◌, subst}
use Prim.Native.Nat.{ℕ, suc, ◌+◌, ◌*◌, ◌^◌, ◌≤◌, ◌<◌}
use native.Mathlib.Nat.{le_trans, le_of_eq, le_of_suc-le-suc, lt_of_not-le, lt_of_lt_of_le, mul_assoc, mul_comm, mul_left_comm, mul-pos, mul-le-mul, mul-le-mul_right, mul-mul-mul_comm}
use native.Mathlib.Omega.{arith}
use mathlib.Core.Bool.{Bool, true, false}
use lib.Dec.{lit<}
use lib.Pow.{pow_pos}
use lib.Ieee.{Float, binary32, round, div, unlike}
use lib.Ieee.Exact.{HasValue}
use lib.Ieee.Scale.{round_same}
use Rattle.floats.proofs.Value.{div_at}
use Rattle.floats.proofs.Rounded.{Finite, finite_round}
use Rattle.vec2.specs.Length.{digits_up, nearest_of}
use Rattle.vec2.proofs.Digits.{four}
use Rattle.vec2.proofs.Laws.{scaled, rooted, rooted_near, rooted_least, length_value}

-- ---- two parts of at most 2 ^ 21
square_most : {x : ℕ} → x ≤ 32768 * 64 → x * x ≤ 2 ^ 42
square_most h = mul-le-mul h h

pub squares_below : (x y : ℕ) → x ≤ 32768 * 64 → y ≤ 32768 * 64 → x * x + y * y < 2 ^ 44
squares_below x y h k = sum (square_most h) (square_most k)
  where
    sum : {a b : ℕ} → a ≤ 2 ^ 42 → b ≤ 2 ^ 42 → a + b < 2 ^ 44
    sum h k = omega arith

-- a whole number whose square is at most S is at most the one nearest to its root
not_past : (r q S : ℕ) → r * r ≤ S → S ≤ q * q + q → r ≤ q
not_past r q S h k = le_of_suc-le-suc (lt_of_not-le (λ (g : suc q ≤ r). clash q S (le_trans (mul-le-mul g g) h) k))
  where
    clash : (q S : ℕ) → suc q * suc q ≤ S → S ≤ q * q + q → ⊥
    clash q S h k = omega arith

module _ (n : ℕ) (N : n < 2 ^ 48) where
  pub up_to : (p : ℕ) → p * p ≤ n → p * 2 ^ digits_up n ≤ rooted n
  up_to p h = not_past (p * 2 ^ digits_up n) (rooted n) (scaled n) (le_trans (le_of_eq (square p (digits_up n))) (mul-le-mul_right (4 ^ digits_up n) h)) (rooted_near n N).1
    where
      square : (p t : ℕ) → p * 2 ^ t * (p * 2 ^ t) ≡ p * p * 4 ^ t
      square p t = mul-mul-mul_comm p (2 ^ t) p (2 ^ t) ∙ ap (λ (x : ℕ). p * p * x) (sym (four t))

  pub rooted_pos : 0 < n → 0 < rooted n
  rooted_pos s = lt_of_lt_of_le (lit< tt) (rooted_least n N s)

  -- x is p / 64 in size
  module _ (some : 0 < n) (x : Float) (s : Bool) (p : ℕ) (value : HasValue x s p 64) (h : p * p ≤ n) where
    pub quotient : div binary32 x (nearest_of n) ≡ round binary32 s (p * 2 ^ digits_up n) (rooted n)
    quotient =
        let q = rooted n in
        let u = 2 ^ digits_up n in
        div_at x (nearest_of n) s false p 64 q (64 * u) (lit< tt) (mul-pos (lit< tt) (pow_pos (digits_up n))) (rooted_pos some) value (length_value n N)
        ∙ (λ i. round binary32 (plus s i) (p * (64 * u)) (q * 64))
        ∙ round_same binary32 s (p * (64 * u)) (q * 64) (p * u) q (mul-pos (rooted_pos some) (lit< tt)) (rooted_pos some) (same p u q)
      where
        same : (p u q : ℕ) → p * (64 * u) * q ≡ p * u * (q * 64)
        same p u q = simp (mul_assoc, mul_comm, mul_left_comm)

        plus : (s : Bool) → unlike s false ≡ s
        plus true = refl
        plus false = refl

    pub quotient_finite : Finite s (div binary32 x (nearest_of n))
    quotient_finite = subst (Finite s) (sym quotient) (finite_round s (p * 2 ^ digits_up n) (rooted n) (rooted_pos some) (up_to p h))
