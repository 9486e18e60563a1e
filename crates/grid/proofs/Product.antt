-- 2 ^ k times a float is exact as long as it stays below 2 ^ 128. Assumes nothing.
use mathlib.Core.Path.{◌≡◌, refl, sym, ap, ◌∙◌, subst}
use Prim.Native.Nat.{ℕ, suc, ◌+◌, ◌-◌, ◌*◌, ◌^◌, ◌≤◌, ◌<◌}
use native.Mathlib.Nat.{mul-one, one-mul, mul_assoc, mul-lt-mul_of_pos_right, lt_of_lt_of_le}
use native.Mathlib.Omega.{arith}
use mathlib.Core.Bool.{false}
use lib.IntN.{ℤ, pos, negsuc}
use lib.Dec.{T, lit<}
use lib.Pow.{pow_pos, pow-add, pow_mono, shl_lt}
use lib.Ieee.{Float, fin, binary32, up, down, round, mul, fits}
use lib.Ieee.Fits.{down_pos}
use lib.Ieee.Exact.{HasValue, round_exact}
use lib.Ieee.Digits.{back}
use Rattle.floats.proofs.Value.{mul_at}
use Rattle.floats.proofs.Held.{held, exponent}

module _ (k : ℕ) (K : k ≤ 100) where
  shift : (m j : ℕ) → m * 2 ^ j * 2 ^ k * 2 ^ 149 ≡ m * 2 ^ (j + k + 149) * 1
  shift m j =
      mul_assoc (m * 2 ^ j) (2 ^ k) (2 ^ 149) ∙ mul_assoc m (2 ^ j) (2 ^ k * 2 ^ 149)
      ∙ ap (λ (x : ℕ). m * x) (sym (mul_assoc (2 ^ j) (2 ^ k) (2 ^ 149)) ∙ ap (λ (x : ℕ). x * 2 ^ 149) (sym (pow-add 2 j k)) ∙ sym (pow-add 2 (j + k) 149))
      ∙ sym (mul-one (m * 2 ^ (j + k + 149)))

  room : (j : ℕ) → 24 + (k + 149 - suc j) ≤ 277
  room j = omega arith

  -- the product as a fraction is a float
  raised : (m : ℕ) (e : ℤ) → T (fits binary32 (fin false m e)) → m * up e * 2 ^ k < 2 ^ 128 * down e → HasValue (round binary32 false (m * up e * 2 ^ k) (down e)) false (m * up e * 2 ^ k) (down e)
  raised m (pos j) f h =
      round_exact binary32 false (m * 2 ^ j * 2 ^ k) 1 m (j + k + 149) (lit< tt) (held false m (pos j) f).digits
      (subst (λ (x : ℕ). x < 2 ^ 277) (shift m j ∙ mul-one (m * 2 ^ (j + k + 149))) (mul-lt-mul_of_pos_right h (pow_pos 149)))
      (shift m j)
  raised m (negsuc j) f h =
      let g : suc j ≤ 149 = exponent j (held false m (negsuc j) f).fine in
      let i = k + 149 - suc j in
      round_exact binary32 false (m * 1 * 2 ^ k) (2 ^ suc j) m i (pow_pos (suc j)) (held false m (negsuc j) f).digits
      (lt_of_lt_of_le (shl_lt 24 i (held false m (negsuc j) f).digits) (pow_mono (room j)))
      (ap (λ (x : ℕ). x * 2 ^ k * 2 ^ 149) (mul-one m)
      ∙ mul_assoc m (2 ^ k) (2 ^ 149)
      ∙ ap (λ (x : ℕ). m * x) (sym (pow-add 2 k 149) ∙ ap (λ (x : ℕ). 2 ^ x) (sym (back (k + 149) (suc j) (le_add g))) ∙ pow-add 2 i (suc j))
      ∙ sym (mul_assoc m (2 ^ i) (2 ^ suc j)))
    where
      le_add : {n : ℕ} → n ≤ 149 → n ≤ k + 149
      le_add h = omega arith

  pub times : (m : ℕ) (e : ℤ) → T (fits binary32 (fin false m e)) → m * up e * 2 ^ k < 2 ^ 128 * down e
      → HasValue (mul binary32 (fin false m e) (fin false 1 (pos k))) false (m * up e * 2 ^ k) (down e)
  times m e f h =
      subst (λ (x : Float). HasValue x false (m * up e * 2 ^ k) (down e))
      (sym (mul_at (fin false m e) (fin false 1 (pos k)) false false (m * up e) (down e) (2 ^ k) 1 (down_pos e) (lit< tt) (refl, refl) (refl, mul-one (1 * 2 ^ k) ∙ one-mul (2 ^ k) ∙ sym (mul-one (2 ^ k)))
      ∙ ap (λ (x : ℕ). round binary32 false (m * up e * 2 ^ k) x) (mul-one (down e))))
      (raised m e f h)
