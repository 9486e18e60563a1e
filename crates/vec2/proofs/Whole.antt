-- `root_of` is the whole part of a root, and `whole_nearest` the whole number nearest to the root. Assumes nothing.
use Rattle.std.proofs.Common.{◌≡◌, ℕ, zero, suc, ◌+◌, ◌*◌, ◌/◌, ◌^◌, ◌<◌, ◌≤◌, Bool, true, false, cond, leb, sym, refl, ap, subst, le_trans, le_of_suc-le-suc, mul-le-mul_right, div-lt_iff_lt-mul, mul-le-mul, pow-suc, lt_of_not-le, arith, lit<, le-leb, leb-false, leb-true}
use Rattle.root.specs.Root.{IsRoot}
use Rattle.root.proofs.Roots.{one_root, root_of_zero, digit_one, digit_zero}
use Rattle.vec2.specs.Length.{root_of, whole_nearest}

root_is : (d n : ℕ) → n < 4 ^ d → IsRoot n (root_of d n)
unfolding root_of
root_is zero n h = root_of_zero n (none n h)
  where
    none : (n : ℕ) → n < 1 → n ≡ 0
    none n h = omega arith
root_is (suc d) n h =
    let s = root_of d (n / 4) in
    go s (root_is d (n / 4) ((div-lt_iff_lt-mul (lit< tt)).1 (subst (λ (x : ℕ). n < x) (pow-suc 4 d) h))) (leb ((2 * s + 1) * (2 * s + 1)) n) (leb-true ((2 * s + 1) * (2 * s + 1)) n) (leb-false ((2 * s + 1) * (2 * s + 1)) n)
  where
    go : (s : ℕ) → IsRoot (n / 4) s → (t : Bool) → (t ≡ true → (2 * s + 1) * (2 * s + 1) ≤ n) → (t ≡ false → n < (2 * s + 1) * (2 * s + 1)) → IsRoot n (cond t (2 * s + 1) (2 * s))
    go s a true f g = digit_one n s a (f refl)
    go s a false f g = digit_zero n s a (g refl)

-- whichever whole part is at hand
pub nearest_by : (n r : ℕ) → n < 2 ^ 64 → IsRoot n r → whole_nearest n ≡ cond (leb n (r * r + r)) r (r + 1)
unfolding whole_nearest
nearest_by n r h a = ap (λ (x : ℕ). cond (leb n (x * x + x)) x (x + 1)) (one_root n (root_of 32 n) r (root_is 32 n h) a)

-- a square is its own root's
pub nearest_square : (r : ℕ) → r * r < 2 ^ 64 → whole_nearest (r * r) ≡ r
nearest_square r h =
    subst (λ (t : Bool). whole_nearest (r * r) ≡ cond t r (r + 1)) (le-leb (r * r) (r * r + r) (omega arith)) (nearest_by (r * r) r h (omega arith))

-- ---- √n lies strictly between q - 1/2 and q + 1/2: squared, q * q - q < n and n < q * q + q + 1/4
abbrev pub Near : ℕ → ℕ → Type 0
Near n q = (0 < q → q * q < n + q) × (n ≤ q * q + q)

pub nearest_near : (n : ℕ) → n < 2 ^ 64 → Near n (whole_nearest n)
nearest_near n h =
    let r = root_of 32 n in
    let a : IsRoot n r = root_is 32 n h in
    subst (Near n) (sym (nearest_by n r h a)) (go r a (leb n (r * r + r)) (leb-true n (r * r + r)) (leb-false n (r * r + r)))
  where
    low : (n r : ℕ) → r * r ≤ n → n ≤ r * r + r → Near n r
    low n r h k = (λ p. omega arith, k)

    high : (n r : ℕ) → n < (r + 1) * (r + 1) → r * r + r < n → Near n (r + 1)
    high n r h k = (λ p. omega arith, omega arith)

    go : (r : ℕ) → IsRoot n r → (t : Bool) → (t ≡ true → n ≤ r * r + r) → (t ≡ false → r * r + r < n) → Near n (cond t r (r + 1))
    go r a true f g = low n r a.0 (f refl)
    go r a false f g = high n r a.1 (g refl)

-- ---- how many digits it has
pub near_most : (n q : ℕ) → n < 2 ^ 48 → Near n q → q ≤ 2 ^ 24
near_most n q h a = le_of_suc-le-suc (lt_of_not-le (λ (g : suc (2 ^ 24) ≤ q). clash q n h a.0 g (mul-le-mul_right q g)))
  where
    clash : (q n : ℕ) → n < 2 ^ 48 → (0 < q → q * q < n + q) → 2 ^ 24 < q → 16777217 * q ≤ q * q → ⊥
    clash q n h a k l = omega (arith, a (omega arith))

pub near_least : (n q : ℕ) → 2 ^ 46 ≤ n → Near n q → 2 ^ 23 ≤ q
near_least n q h a = le_of_suc-le-suc (lt_of_not-le (λ (g : suc q ≤ 2 ^ 23). clash q (le_trans h a.1) (le_of_suc-le-suc g) (mul-le-mul (le_of_suc-le-suc g) (le_of_suc-le-suc g))))
  where
    clash : (q : ℕ) → 2 ^ 46 ≤ q * q + q → q ≤ 8388607 → q * q ≤ 8388607 * 8388607 → ⊥
    clash q h k l = omega arith
