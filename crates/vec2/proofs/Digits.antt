-- Scaling by a power of four: by how much, and what is reached; and a whole number of 24 digits over a power of two as an f32. Assumes nothing.
use Rattle.std.proofs.Common.{◌≡◌, ℕ, zero, suc, ◌+◌, ◌-◌, ◌*◌, ◌/◌, ◌^◌, ◌<◌, ◌≤◌, false, ◌⊎◌, sym, ap, ◌∙◌, subst, inl, inr, le_trans, le_of_eq, lt_of_lt_of_le, le_of_suc-le-suc, mul-le-mul_right, zero-lt-suc, mul_assoc, le_antisymm, eq-or-lt_of_le, mul-lt-mul_of_pos_right, pow-suc, lt_of_not-le, arith, lit<, lit≤, pow_pos, pow_mono, pow-add}
use native.Mathlib.Nat.{pow-succ', two-pow-succ}
use lib.Count.{count_leading_zeros, leading_length}
use lib.Ieee.{Float, binary32, round, size}
use lib.Ieee.Digits.{size-lt, size_reaches, size-le}
use lib.Ieee.Exact.{HasValue}
use lib.Ieee.Scale.{round_same}
use Rattle.floats.proofs.Value.{exact, rescaled}
use Rattle.vec2.specs.Length.{digits_up}

-- ---- powers of four
pub four : (t : ℕ) → 4 ^ t ≡ 2 ^ t * 2 ^ t
four zero = omega arith
four (suc t) = pow-suc 4 t ∙ ap (λ (x : ℕ). x * 4) (four t) ∙ twice (2 ^ t) ∙ (λ i. sym (pow-suc 2 t) i * sym (pow-suc 2 t) i)
  where
    twice : (p : ℕ) → p * p * 4 ≡ p * 2 * (p * 2)
    twice p = omega arith

pub four_two : (t : ℕ) → 4 ^ t ≡ 2 ^ (2 * t)
four_two t = four t ∙ sym (pow-add 2 t t) ∙ ap (λ (x : ℕ). 2 ^ x) (double t)
  where
    double : (t : ℕ) → t + t ≡ 2 * t
    double t = omega arith

-- ---- as many digits as there are no leading zeros
zeros_size : (n : ℕ) → n < 2 ^ 64 → count_leading_zeros 64 n + size n ≡ 64
zeros_size n h =
    let l = leading_length 64 n h in
    ap (λ (x : ℕ). count_leading_zeros 64 n + x) (le_antisymm (size-le n l.0 l.2) (no_less l.0 l.3)) ∙ l.1
  where
    clash : (n p q : ℕ) → n < p → q ≤ 2 * n + 1 → p + p ≤ q → ⊥
    clash n p q a b c = omega arith

    no_less : (m : ℕ) → 2 ^ m ≤ 2 * n + 1 → m ≤ size n
    no_less m k = le_of_suc-le-suc (lt_of_not-le (λ (g : suc (size n) ≤ m). clash n (2 ^ size n) (2 ^ m) (size-lt n) k (le_trans (le_of_eq (sym (two-pow-succ (size n)))) (pow_mono g))))

pub digits_24 : (n : ℕ) → digits_up n ≤ 24
digits_24 n = half (size n)
  where
    half : (s : ℕ) → (48 - s) / 2 ≤ 24
    half s = omega arith

module _ (n : ℕ) (h : n < 2 ^ 48) where
  fewer : size n ≤ 48
  fewer = size-le n 48 h

  all : count_leading_zeros 64 n + size n ≡ 64
  all = zeros_size n (lt_of_lt_of_le h (lit≤ tt))

  pub zeros_16 : 16 ≤ count_leading_zeros 64 n
  zeros_16 = omega (arith, fewer, all)

  pub digits_by : (count_leading_zeros 64 n - 16) / 2 ≡ digits_up n
  digits_by = ap (λ (x : ℕ). x / 2) (same (count_leading_zeros 64 n) (size n) fewer all)
    where
      same : (z s : ℕ) → s ≤ 48 → z + s ≡ 64 → z - 16 ≡ 48 - s
      same z s a b = omega arith

  -- below 2 ^ 48, and at least 2 ^ 46, but for 0
  pub scaled_below : n * 4 ^ digits_up n < 2 ^ 48
  scaled_below =
      subst (λ (x : ℕ). n * x < 2 ^ 48) (sym (four_two (digits_up n)))
      (lt_of_lt_of_le (mul-lt-mul_of_pos_right (size-lt n) (pow_pos (2 * digits_up n))) (le_trans (le_of_eq (sym (pow-add 2 (size n) (2 * digits_up n)))) (pow_mono (most (size n) fewer))))
    where
      most : (s : ℕ) → s ≤ 48 → s + 2 * ((48 - s) / 2) ≤ 48
      most s k = omega arith

  pub scaled_from : 0 < n → 2 ^ 46 ≤ n * 4 ^ digits_up n
  scaled_from p =
      let z : 0 < size n = some (size n) (size-lt n) in
      subst (λ (x : ℕ). 2 ^ 46 ≤ n * x) (sym (four_two (digits_up n)))
      (le_trans (pow_mono (least (size n) fewer z)) (le_trans (le_of_eq (pow-add 2 (size n - 1) (2 * digits_up n))) (mul-le-mul_right (2 ^ (2 * digits_up n)) (size_reaches n (size n - 1) (omega arith)))))
    where
      some : (s : ℕ) → n < 2 ^ s → 0 < s
      some zero k = absurd (omega (arith, k))
      some (suc s) k = zero-lt-suc s

      least : (s : ℕ) → s ≤ 48 → 0 < s → 46 ≤ s - 1 + 2 * ((48 - s) / 2)
      least s a b = omega arith

-- ---- q / 2 ^ (d + 1) for a q up to 2 ^ 24, which is 2 ^ 23 / 2 ^ d
pub exact_24 : (q d : ℕ) → d ≤ 148 → q ≤ 2 ^ 24 → HasValue (round binary32 false q (2 ^ suc d)) false q (2 ^ suc d)
exact_24 q d h k = go (eq-or-lt_of_le k)
  where
    half : 2 ^ 24 * 2 ^ d ≡ 2 ^ 23 * 2 ^ suc d
    half = mul_assoc (2 ^ 23) 2 (2 ^ d) ∙ ap (λ (x : ℕ). 2 ^ 23 * x) (sym (pow-succ' 2 d))

    go : (q ≡ 2 ^ 24) ⊎ (q < 2 ^ 24) → HasValue (round binary32 false q (2 ^ suc d)) false q (2 ^ suc d)
    go (inr l) = exact false q (suc d) (omega arith) l
    go (inl e) =
        subst (λ (x : ℕ). HasValue (round binary32 false x (2 ^ suc d)) false x (2 ^ suc d)) (sym e)
        (rescaled (round binary32 false (2 ^ 24) (2 ^ suc d)) false (2 ^ 23) (2 ^ d) (2 ^ 24) (2 ^ suc d) (pow_pos d) half
        (subst (λ (x : Float). HasValue x false (2 ^ 23) (2 ^ d)) (sym (round_same binary32 false (2 ^ 24) (2 ^ suc d) (2 ^ 23) (2 ^ d) (pow_pos (suc d)) (pow_pos d) half)) (exact false (2 ^ 23) d (omega arith) (lit< tt))))
