-- Products of whole numbers of 1 / c, division by 1 / 2 ^ k, and the same number in finer steps. Assumes nothing.
use mathlib.Core.Path.{◌≡◌, refl, sym, ap, ◌∙◌, subst}
use Prim.Native.Nat.{ℕ, zero, suc, ◌+◌, ◌*◌, ◌^◌, ◌≤◌, ◌<◌}
use native.Mathlib.Nat.{mul-one, one-mul, mul_comm, mul_assoc, zero-mul, mul-zero, mul-pos}
use mathlib.Core.Bool.{Bool, true, false}
use lib.IntN.{ℤ, pos, negsuc, neg_ℤ, nat_abs, ◌*ℤ◌}
use lib.Dec.{lit<}
use lib.Pow.{pow_pos, pow-add}
use lib.Ieee.{Float, binary32, round, mul, div, unlike, of_bits}
use lib.Ieee.Scale.{round_same}
use Rattle.floats.specs.Count.{signed, at, count_of, half}
use Rattle.floats.proofs.Value.{mul_at, div_at, rescaled}
use Rattle.floats.proofs.Counts.{value_count, count_value, round_count, sized}

-- ---- products by sign and size
neg_product : (n k : ℕ) → neg_ℤ (pos (n * k)) ≡ pos n *ℤ neg_ℤ (pos k)
neg_product n zero = ap (λ (x : ℕ). neg_ℤ (pos x)) (mul-zero n) ∙ sym (ap pos (mul-zero n))
neg_product n (suc k) = refl

product_neg : (n k : ℕ) → neg_ℤ (pos (n * k)) ≡ neg_ℤ (pos n) *ℤ pos k
product_neg zero k = ap (λ (x : ℕ). neg_ℤ (pos x)) (zero-mul k) ∙ sym (ap pos (zero-mul k))
product_neg (suc n) k = refl

neg_neg : (n k : ℕ) → pos (n * k) ≡ neg_ℤ (pos n) *ℤ neg_ℤ (pos k)
neg_neg zero zero = refl
neg_neg zero (suc k) = ap pos (zero-mul (suc k)) ∙ sym (ap (λ (x : ℕ). neg_ℤ (pos x)) (zero-mul (suc k)))
neg_neg (suc n) zero = ap pos (mul-zero (suc n)) ∙ sym (ap (λ (x : ℕ). neg_ℤ (pos x)) (mul-zero (suc n)))
neg_neg (suc n) (suc k) = refl

signed_product : (s t : Bool) (n k : ℕ) → signed (unlike s t) (n * k) ≡ signed s n *ℤ signed t k
signed_product false false n k = refl
signed_product false true n k = neg_product n k
signed_product true false n k = product_neg n k
signed_product true true n k = neg_neg n k

pub times_one : (z : ℤ) → z *ℤ pos 1 ≡ z
times_one (pos n) = ap pos (mul-one n)
times_one (negsuc n) = ap (λ (x : ℕ). neg_ℤ (pos x)) (mul-one (suc n))

pub one_times : (z : ℤ) → pos 1 *ℤ z ≡ z
one_times (pos n) = ap pos (one-mul n)
one_times (negsuc n) = ap (λ (x : ℕ). neg_ℤ (pos x)) (one-mul (suc n))

-- the product, where it has at most 24 digits
pub mul_count : (d e : ℕ) → d + e ≤ 149 → (x y : Float) (a b : ℤ) → count_of (2 ^ d) x ≡ at a → count_of (2 ^ e) y ≡ at b → nat_abs a * nat_abs b < 2 ^ 24
    → count_of (2 ^ (d + e)) (mul binary32 x y) ≡ at (a *ℤ b)
mul_count d e D x y a b p q h =
    let v = count_value (2 ^ d) x a p in
    let w = count_value (2 ^ e) y b q in
    let small : v.steps * w.steps < 2 ^ 24 = subst (λ (n : ℕ). n < 2 ^ 24) (λ i. sized (2 ^ d) x a v i * sized (2 ^ e) y b w i) h in
    ap (count_of (2 ^ (d + e)))
    (mul_at x y v.sign w.sign v.steps (2 ^ d) w.steps (2 ^ e) (pow_pos d) (pow_pos e) v.value w.value
    ∙ ap (λ (c : ℕ). round binary32 (unlike v.sign w.sign) (v.steps * w.steps) c) (sym (pow-add 2 d e)))
    ∙ round_count (unlike v.sign w.sign) (v.steps * w.steps) (d + e) D small
    ∙ ap at (signed_product v.sign w.sign v.steps w.steps ∙ λ i. sym v.is i *ℤ sym w.is i)

half_is : count_of 2 half ≡ at (pos 1)
unfolding count_of of_bits
half_is = refl

pub half_count : (d : ℕ) → 1 + d ≤ 149 → (x : Float) (a : ℤ) → count_of (2 ^ d) x ≡ at a → nat_abs a < 2 ^ 24 → count_of (2 ^ (1 + d)) (mul binary32 half x) ≡ at a
half_count d D x a p h = mul_count 1 d D half x (pos 1) a half_is p (subst (λ (n : ℕ). n < 2 ^ 24) (sym (one-mul (nat_abs a))) h) ∙ ap at (one_times a)

-- divided by 1 / 2 ^ k: as many steps, each 2 ^ k times as long
pub div_count : (d k : ℕ) → d ≤ 149 → (x y : Float) (a : ℤ) → count_of (2 ^ (d + k)) x ≡ at a → count_of (2 ^ k) y ≡ at (pos 1) → nat_abs a < 2 ^ 24
    → count_of (2 ^ d) (div binary32 x y) ≡ at a
div_count d k D x y a p q h =
    let v = count_value (2 ^ (d + k)) x a p in
    let w = count_value (2 ^ k) y (pos 1) q in
    let one : w.steps ≡ 1 = sym (sized (2 ^ k) y (pos 1) w) in
    let n = v.steps in
    ap (count_of (2 ^ d))
    (div_at x y v.sign w.sign n (2 ^ (d + k)) w.steps (2 ^ k) (pow_pos (d + k)) (pow_pos k) (subst (λ (m : ℕ). 0 < m) (sym one) (lit< tt)) v.value w.value
    ∙ round_same binary32 (unlike v.sign w.sign) (n * 2 ^ k) (w.steps * 2 ^ (d + k)) n (2 ^ d) (mul-pos (subst (λ (m : ℕ). 0 < m) (sym one) (lit< tt)) (pow_pos (d + k))) (pow_pos d)
    (mul_assoc n (2 ^ k) (2 ^ d) ∙ ap (λ (m : ℕ). n * m) (mul_comm (2 ^ k) (2 ^ d) ∙ sym (pow-add 2 d k) ∙ sym (one-mul (2 ^ (d + k))) ∙ ap (λ (m : ℕ). m * 2 ^ (d + k)) (sym one))))
    ∙ round_count (unlike v.sign w.sign) n d D (subst (λ (m : ℕ). m < 2 ^ 24) (sized (2 ^ (d + k)) x a v) h)
    ∙ ap at (ap (signed (unlike v.sign w.sign)) (sym (mul-one n) ∙ ap (λ (m : ℕ). n * m) (sym one)) ∙ signed_product v.sign w.sign n w.steps ∙ (λ i. sym v.is i *ℤ sym w.is i) ∙ times_one a)

-- the same number in steps that are k times finer
pub finer_count : (c k : ℕ) → 0 < c → (x : Float) (z : ℤ) → count_of c x ≡ at z → count_of (c * k) x ≡ at (z *ℤ pos k)
finer_count c k h x z p =
    let v = count_value c x z p in
    value_count x v.sign (v.steps * k) (c * k) (rescaled x v.sign v.steps c (v.steps * k) (c * k) h (fine v.steps k c) v.value)
    ∙ ap at (times v.sign v.steps ∙ ap (λ (y : ℤ). y *ℤ pos k) (sym v.is))
  where
    fine : (n k c : ℕ) → n * k * c ≡ n * (c * k)
    fine n k c = mul_assoc n k c ∙ ap (λ (m : ℕ). n * m) (mul_comm k c)

    times : (s : Bool) (n : ℕ) → signed s (n * k) ≡ signed s n *ℤ pos k
    times false n = refl
    times true n = product_neg n k
