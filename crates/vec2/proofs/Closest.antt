-- `nearest_of n` is strictly nearer to √n / 64 than any other f32. Assumes nothing.
use Rattle.std.proofs.Common.{◌≡◌, ℕ, zero, suc, ◌+◌, ◌-◌, ◌*◌, ◌^◌, ◌<◌, ◌≤◌, Bool, true, false, T, ltb, ◌⊎◌, ℤ, pos, negsuc, nat_abs, sym, refl, ap, ◌∙◌, subst, inl, inr, le_trans, le_of_eq, lt_of_lt_of_le, le_of_suc-le-suc, lt_of_le_of_lt, le_of_lt, mul-le-mul_right, zero-lt-suc, mul_assoc, mul-le-mul, lt_of_mul-lt-mul_right, eq-or-lt_of_le, mul-lt-mul_of_pos_right, mul-pos, zero-mul, mul-one, not-le_of_lt, arith, lit<, lit≤, pow_pos, pow_mono, pow-add, ltb-false, ltb-true}
use native.Mathlib.Nat.{eq_of_mul-eq-mul_right, mul-mul-mul_comm, pow-succ'}
use lib.Ieee.{Float, nan, inf, fin, binary32, fits}
use lib.Ieee.Digits.{back}
use lib.Ieee.Exact.{HasValue}
use lib.Ieee.Fits.{round-fits}
use Rattle.floats.specs.Count.{at, count_of}
use Rattle.floats.proofs.Value.{rescaled}
use Rattle.floats.proofs.Counts.{value_count, count_value, sized}
use Rattle.floats.proofs.Held.{held, exponent}
use Rattle.emath.specs.declared.Vec2.{Vec2}
use Rattle.vec2.specs.Length.{whole_nearest, digits_up, nearest_of, length_of}
use Rattle.vec2.specs.Nearest.{Nearer, Nearest}
use Rattle.vec2.proofs.Whole.{nearest_square}
use Rattle.vec2.proofs.Digits.{four, digits_24, scaled_from}
use Rattle.vec2.proofs.Laws.{on_grid_lem, sum_48, scaled, rooted, rooted_near, rooted_least, nearest_is, length_value}

-- ---- where an f32 can be, in units of U = 2 ^ g: at most 2 ^ 23 of them, or a whole number of them
abbrev Place : ℕ → ℕ → Type 0
Place U k = (k ≤ 2 ^ 23 * U) ⊎ ((w : ℕ) × (k ≡ w * U))

spaced : (m i g : ℕ) → m < 2 ^ 24 → Place (2 ^ g) (m * 2 ^ i)
spaced m i g h = go (ltb i g) (ltb-true i g) (ltb-false i g)
  where
    go : (t : Bool) → (t ≡ true → i < g) → (t ≡ false → g ≤ i) → Place (2 ^ g) (m * 2 ^ i)
    go true a b =
        inl (le_trans (mul-le-mul_right (2 ^ i) (le_of_lt h)) (le_trans (le_of_eq (mul_assoc (2 ^ 23) 2 (2 ^ i) ∙ ap (λ (x : ℕ). 2 ^ 23 * x) (sym (pow-succ' 2 i)))) (mul-le-mul (lit≤ tt) (pow_mono (a refl)))))
    go false a b =
        inr (m * 2 ^ (i - g), ap (λ (x : ℕ). m * x) (ap (λ (x : ℕ). 2 ^ x) (sym (back i g (b refl))) ∙ pow-add 2 (i - g) g) ∙ sym (mul_assoc m (2 ^ (i - g)) (2 ^ g)))

-- k steps of 2 ^ -149 are m * 2 ^ i, with a significand m of 24 digits
placed : (g : ℕ) (y : Float) (s : Bool) (k : ℕ) → T (fits binary32 y) → HasValue y s k (2 ^ 149) → Place (2 ^ g) k
placed g nan s k f v = absurd v
placed g (inf t) s k f v = absurd v
placed g (fin t m (pos p)) s k f v =
    subst (Place (2 ^ g)) (ap (λ (x : ℕ). m * x) (pow-add 2 p 149) ∙ sym (mul_assoc m (2 ^ p) (2 ^ 149)) ∙ v.1 ∙ mul-one k) (spaced m (p + 149) g (held t m (pos p) f).digits)
placed g (fin t m (negsuc p)) s k f v =
    let i = 149 - suc p in
    let split : 2 ^ 149 ≡ 2 ^ i * 2 ^ suc p = ap (λ (x : ℕ). 2 ^ x) (sym (back 149 (suc p) (exponent p (held t m (negsuc p) f).fine))) ∙ pow-add 2 i (suc p) in
    subst (Place (2 ^ g))
    (eq_of_mul-eq-mul_right (2 ^ suc p) (pow_pos (suc p)) (m * 2 ^ i) k
    (mul_assoc m (2 ^ i) (2 ^ suc p) ∙ (λ i. sym (mul-one m) i * sym split i) ∙ v.1))
    (spaced m i g (held t m (negsuc p) f).digits)

-- ---- the middle of q and another place, doubled and squared, against 4 * S. Two places are a whole unit apart, but below 2 ^ 23
square : (a U : ℕ) → a * U * (a * U) ≡ a * a * (U * U)
square a U = mul-mul-mul_comm a U a U

square_lt : (x y : ℕ) → x < y → x * x < y * y
square_lt x y h = lt_of_lt_of_le (more x) (mul-le-mul h h)
  where
    more : (x : ℕ) → x * x < suc x * suc x
    more x = omega arith

above : (q S U k : ℕ) → 0 < U → 2 ^ 23 ≤ q → S ≤ q * q + q → q * U < k → Place U k → 4 * S * (U * U) < (q * U + k) * (q * U + k)
above q S U k p least h l (inl few) = absurd (not-le_of_lt (lt_of_le_of_lt (mul-le-mul_right U least) l) few)
above q S U k p least h l (inr w) =
    let next : suc q * U ≤ k = subst (λ (n : ℕ). suc q * U ≤ n) (sym w.1) (mul-le-mul_right U (lt_of_mul-lt-mul_right U (subst (λ (n : ℕ). q * U < n) w.1 l))) in
    let far : (2 * q + 1) * U ≤ q * U + k = middle q U k next in
    lt_of_lt_of_le (mul-lt-mul_of_pos_right (past q S h) (mul-pos p p)) (le_trans (le_of_eq (sym (square (2 * q + 1) U))) (mul-le-mul far far))
  where
    middle : (q U k : ℕ) → suc q * U ≤ k → (2 * q + 1) * U ≤ q * U + k
    middle q U k h = omega arith

    past : (q S : ℕ) → S ≤ q * q + q → 4 * S < (2 * q + 1) * (2 * q + 1)
    past q S h = omega arith

-- the least q of 24 digits, below which f32 are closer together: the root is not below q itself
under_least : (q S U k : ℕ) → 2 ^ 23 ≡ q → 2 ^ 46 ≤ S → k < q * U → (q * U + k) * (q * U + k) < 4 * S * (U * U)
under_least q S U k e h l =
    lt_of_lt_of_le (square_lt (q * U + k) (2 * q * U) (twice q U k l)) (le_trans (le_of_eq (square (2 * q) U)) (mul-le-mul_right (U * U) (subst (λ (x : ℕ). 2 * x * (2 * x) ≤ 4 * S) e (four_times S h))))
  where
    twice : (q U k : ℕ) → k < q * U → q * U + k < 2 * q * U
    twice q U k l = omega arith

    four_times : (S : ℕ) → 2 ^ 46 ≤ S → 2 * 2 ^ 23 * (2 * 2 ^ 23) ≤ 4 * S
    four_times S h = omega arith

under_next : (p S U k : ℕ) → 0 < U → 2 ^ 23 ≤ p → suc p * suc p < S + suc p → k < suc p * U → Place U k → (suc p * U + k) * (suc p * U + k) < 4 * S * (U * U)
under_next p S U k o least h l s =
    let near : suc p * U + k ≤ (2 * p + 1) * U = middle p U k (most s) in
    lt_of_le_of_lt (mul-le-mul near near) (lt_of_le_of_lt (le_of_eq (square (2 * p + 1) U)) (mul-lt-mul_of_pos_right (short p S h) (mul-pos o o)))
  where
    middle : (p U k : ℕ) → k ≤ p * U → suc p * U + k ≤ (2 * p + 1) * U
    middle p U k h = omega arith

    short : (p S : ℕ) → suc p * suc p < S + suc p → (2 * p + 1) * (2 * p + 1) < 4 * S
    short p S h = omega arith

    most : Place U k → k ≤ p * U
    most (inl few) = le_trans few (mul-le-mul_right U least)
    most (inr w) = le_trans (le_of_eq w.1) (mul-le-mul_right U (le_of_suc-le-suc (lt_of_mul-lt-mul_right U (subst (λ (n : ℕ). n < suc p * U) w.1 l))))

under : (q S U k : ℕ) → 0 < U → 2 ^ 23 ≤ q → 2 ^ 46 ≤ S → (0 < q → q * q < S + q) → k < q * U → Place U k → (q * U + k) * (q * U + k) < 4 * S * (U * U)
under zero S U k p least h a l s = absurd (omega (arith, least))
under (suc q) S U k p least h a l s = go (eq-or-lt_of_le least)
  where
    go : (2 ^ 23 ≡ suc q) ⊎ (2 ^ 23 < suc q) → (suc q * U + k) * (suc q * U + k) < 4 * S * (U * U)
    go (inl e) = under_least (suc q) S U k e h l
    go (inr m) = under_next q S U k p (le_of_suc-le-suc m) (a (zero-lt-suc q)) l s

-- ---- the law. A unit is 2 ^ unit n steps of 2 ^ -149, and 4 ^ 144 is what n was scaled by, times four, times the square of a unit
abbrev unit : ℕ → ℕ
unit n = 143 - digits_up n

in_units : (n : ℕ) → n * 4 ^ 144 ≡ 4 * scaled n * (2 ^ unit n * 2 ^ unit n)
in_units n =
    ap (λ (x : ℕ). n * 4 ^ x) (all (digits_up n) (digits_24 n)) ∙ ap (λ (x : ℕ). n * x) (pow-add 4 (digits_up n) (1 + unit n) ∙ ap (λ (x : ℕ). 4 ^ digits_up n * x) (pow-add 4 1 (unit n) ∙ ap (λ (x : ℕ). 4 * x) (four (unit n))))
    ∙ sorted n (4 ^ digits_up n) (2 ^ unit n * 2 ^ unit n)
  where
    all : (t : ℕ) → t ≤ 24 → 144 ≡ t + (1 + (143 - t))
    all t h = omega arith

    sorted : (n a b : ℕ) → n * (a * (4 * b)) ≡ 4 * (n * a) * b
    sorted n a b = omega arith

nearer : (n k : ℕ) → n < 2 ^ 48 → Place (2 ^ unit n) k → Nearer n (rooted n * 2 ^ unit n) k
nearer zero k h s =
    (λ l. subst (λ (x : ℕ). x < (j + k) * (j + k)) (sym (zero-mul (4 ^ 144))) (mul-pos (some j k l) (some j k l)), λ l. absurd (none (subst (λ (x : ℕ). k < x) nil l)))
  where
    j : ℕ
    j = rooted 0 * 2 ^ unit 0

    nil : j ≡ 0
    nil = ap (λ (q : ℕ). q * 2 ^ unit 0) (ap whole_nearest (zero-mul (4 ^ digits_up 0)) ∙ nearest_square 0 (lit< tt)) ∙ zero-mul (2 ^ unit 0)

    some : (i m : ℕ) → i < m → 0 < i + m
    some i m l = omega arith

    none : k < 0 → ⊥
    none l = omega arith
nearer (suc n) k h s = (
  λ l. subst (λ (x : ℕ). x < (j + k) * (j + k)) (sym (in_units (suc n))) (above q (scaled (suc n)) U k (pow_pos (unit (suc n))) least near.1 l s),
  λ l. subst (λ (x : ℕ). (j + k) * (j + k) < x) (sym (in_units (suc n))) (under q (scaled (suc n)) U k (pow_pos (unit (suc n))) least (scaled_from (suc n) h (zero-lt-suc n)) near.0 l s),
)
  where
    q : ℕ
    q = rooted (suc n)

    U : ℕ
    U = 2 ^ unit (suc n)

    j : ℕ
    j = q * U

    least : 2 ^ 23 ≤ q
    least = rooted_least (suc n) h (zero-lt-suc n)

    near : (0 < q → q * q < scaled (suc n) + q) × (scaled (suc n) ≤ q * q + q)
    near = rooted_near (suc n) h

pub nearest_of_lem : (n : ℕ) → n < 2 ^ 48 → Nearest n (nearest_of n)
nearest_of_lem n h = record {
  held = subst (λ (x : Float). T (fits binary32 x)) (sym (nearest_is n)) (round-fits binary32 false (rooted n) (64 * 2 ^ digits_up n));
  steps = rooted n * 2 ^ unit n;
  is = value_count (nearest_of n) false (rooted n * 2 ^ unit n) (2 ^ 149)
      (rescaled (nearest_of n) false (rooted n) (64 * 2 ^ digits_up n) (rooted n * 2 ^ unit n) (2 ^ 149) (mul-pos (lit< tt) (pow_pos (digits_up n))) all (length_value n h));
  nearest = λ y k f e. nearer n k h (place y k f e);
}
  where
    whole : (t : ℕ) → t ≤ 24 → 143 - t + (6 + t) ≡ 149
    whole t h = omega arith

    all : rooted n * 2 ^ unit n * (64 * 2 ^ digits_up n) ≡ rooted n * 2 ^ 149
    all = mul_assoc (rooted n) (2 ^ unit n) (64 * 2 ^ digits_up n) ∙ ap (λ (x : ℕ). rooted n * x)
        (ap (λ (x : ℕ). 2 ^ unit n * x) (sym (pow-add 2 6 (digits_up n))) ∙ sym (pow-add 2 (unit n) (6 + digits_up n)) ∙ ap (λ (x : ℕ). 2 ^ x) (whole (digits_up n) (digits_24 n)))

    place : (y : Float) (k : ℕ) → T (fits binary32 y) → count_of (2 ^ 149) y ≡ at (pos k) → Place (2 ^ unit n) k
    place y k f e =
        let v = count_value (2 ^ 149) y (pos k) e in
        subst (Place (2 ^ unit n)) (sym (sized (2 ^ 149) y (pos k) v)) (placed (unit n) y v.sign v.steps f v.value)

pub length_nearest : (v : Vec2) (a b : ℤ) → count_of 64 v.x ≡ at a → count_of 64 v.y ≡ at b → nat_abs a ≤ 32768 * 64 → nat_abs b ≤ 32768 * 64
    → Nearest (nat_abs a * nat_abs a + nat_abs b * nat_abs b) (length_of v)
length_nearest v a b p q h k =
    subst (Nearest (nat_abs a * nat_abs a + nat_abs b * nat_abs b)) (sym (on_grid_lem v a b p q h k)) (nearest_of_lem (nat_abs a * nat_abs a + nat_abs b * nat_abs b) (sum_48 (nat_abs a) (nat_abs b) h k))
