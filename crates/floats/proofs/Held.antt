-- What an f32 can hold: at most 24 digits, no step below 2 ^ -149, nothing past 2 ^ 128; and what follows of its whole part. Assumes nothing.
use mathlib.Core.Path.{◌≡◌, refl, sym, ap, ◌∙◌, subst}
use Prim.Native.Nat.{ℕ, zero, suc, ◌+◌, ◌-◌, ◌*◌, ◌/◌, ◌%◌, ◌^◌, ◌≤◌, ◌<◌, min}
use native.Mathlib.Nat.{mul-one, one-mul, mul_assoc, mul-lt-mul_of_pos_right, not-le_of_lt, pow-succ'}
use native.Mathlib.Omega.{arith}
use mathlib.Core.Bool.{Bool, true, false, not, ◌&&◌, cond, true≢false}
use lib.IntN.{ℤ, pos, negsuc}
use lib.Dec.{T, ltb, leb, eqb, ltb→lt, leb→le, eqb→eq, nltb→le, lit<, lit≤}
use lib.Pow.{pow_pos, pow-lt, pow-add}
use lib.Ieee.{Float, nan, inf, fin, Format, prec, emax, low, binary32, up, down, odd, units, round, neg, fits, to_unsigned}
use lib.Ieee.Fits.{down_pos, and_l, and_r, round_is, round-fits}
use lib.Ieee.Nearest.{div_same}
use lib.Ieee.Exact.{HasValue, round_exact}
use lib.Ieee.Back.{whole_unique}

-- ---- the parts of `fits`
pub record Held (m : ℕ) (e : ℤ) : Type 0 where
  pub digits : m < 2 ^ 24
  pub fine : down e ≤ 2 ^ 149
  pub bounded : m * up e < 2 ^ 128 * down e

no_power : (p : ℕ) → 0 < p → 2 * p ≡ 1 → ⊥
no_power p h e = omega arith

-- a zero is written with the exponent 0
pub zero_exponent : (s : Bool) (e : ℤ) → T (fits binary32 (fin s zero e)) → e ≡ pos 0
unfolding fits
zero_exponent s e t = flat e (eqb→eq (up e * down e) 1 t)
  where
    flat : (e : ℤ) → up e * down e ≡ 1 → e ≡ pos 0
    flat (pos zero) h = refl
    flat (pos (suc k)) h = absurd (no_power (2 ^ k) (pow_pos k) (sym (pow-succ' 2 k) ∙ sym (mul-one (2 ^ suc k)) ∙ h))
    flat (negsuc k) h = absurd (no_power (2 ^ k) (pow_pos k) (sym (pow-succ' 2 k) ∙ sym (one-mul (2 ^ suc k)) ∙ h))

pub held : (s : Bool) (m : ℕ) (e : ℤ) → T (fits binary32 (fin s m e)) → Held m e
held s zero e t = subst (Held 0) (sym (zero_exponent s e t)) (record { digits = lit< tt; fine = lit≤ tt; bounded = lit< tt })
held s (suc m) e t = unfold fits in (parts t)
  where
    parts : T (eqb (suc m % 2) 1 && ltb (suc m) (2 ^ 24) && leb (down e) (2 ^ 149) && ltb (suc m * up e) (2 ^ 128 * down e)) → Held (suc m) e
    parts t =
        let abc = and_l (eqb (suc m % 2) 1 && ltb (suc m) (2 ^ 24) && leb (down e) (2 ^ 149)) (ltb (suc m * up e) (2 ^ 128 * down e)) t in
        let ab = and_l (eqb (suc m % 2) 1 && ltb (suc m) (2 ^ 24)) (leb (down e) (2 ^ 149)) abc in
        record {
          digits = ltb→lt (suc m) (2 ^ 24) (and_r (eqb (suc m % 2) 1) (ltb (suc m) (2 ^ 24)) ab);
          fine = leb→le (down e) (2 ^ 149) (and_r (eqb (suc m % 2) 1 && ltb (suc m) (2 ^ 24)) (leb (down e) (2 ^ 149)) abc);
          bounded = ltb→lt (suc m * up e) (2 ^ 128 * down e) (and_r (eqb (suc m % 2) 1 && ltb (suc m) (2 ^ 24) && leb (down e) (2 ^ 149)) (ltb (suc m * up e) (2 ^ 128 * down e)) t);
        }

-- the sign is free
pub unsigned : (s t : Bool) (m : ℕ) (e : ℤ) → T (fits binary32 (fin s m e)) → T (fits binary32 (fin t m e))
unfolding fits
unsigned s t zero e h = h
unsigned s t (suc m) e h = h

-- a negative exponent is at least -149
pub exponent : (k : ℕ) → 2 ^ suc k ≤ 2 ^ 149 → suc k ≤ 149
exponent k h = go (ltb 149 (suc k)) (ltb→lt 149 (suc k)) (nltb→le 149 (suc k))
  where
    go : (t : Bool) → (T t → 149 < suc k) → (T (not t) → suc k ≤ 149) → suc k ≤ 149
    go true a b = absurd (not-le_of_lt (pow-lt (a tt)) h)
    go false a b = b tt

-- ---- the whole part of a / c
pub whole_part : (y : Float) (a c : ℕ) → 0 < c → a / c < 2 ^ 64 → HasValue y false a c → to_unsigned 64 y ≡ a / c
unfolding to_unsigned
whole_part nan a c C h v = absurd v
whole_part (inf s) a c C h v = absurd v
whole_part (fin true m e) a c C h v = absurd (true≢false v.0)
whole_part (fin false m e) a c C h v =
    ap (λ (x : ℕ). min x (2 ^ 64 - 1)) (div_same (m * up e) (down e) a c (down_pos e) C v.1) ∙ uncapped (a / c) (2 ^ 64) h
  where
    uncapped : (a c : ℕ) → a < c → min a (c - 1) ≡ a
    uncapped a c h = omega arith

-- ---- m * 2 ^ k is the f32 that it rounds to
pub round_whole : (s : Bool) (m k : ℕ) → T (fits binary32 (fin s m (pos k))) → round binary32 s (m * 2 ^ k) 1 ≡ fin s m (pos k)
round_whole s m k f =
    whole_unique binary32 (round binary32 s (m * 2 ^ k) 1) (fin s m (pos k)) s (m * 2 ^ k) (round-fits binary32 s (m * 2 ^ k) 1) f
    (round_exact binary32 s (m * 2 ^ k) 1 m (k + 149) (lit< tt) h.digits (subst (λ (x : ℕ). x < 2 ^ 277) (raised m k) (mul-lt-mul_of_pos_right h.bounded (pow_pos 149))) (raised m k ∙ sym (mul-one (m * 2 ^ (k + 149)))))
    (refl, refl)
  where
    h : Held m (pos k)
    h = held s m (pos k) f

    raised : (m k : ℕ) → m * 2 ^ k * 2 ^ 149 ≡ m * 2 ^ (k + 149)
    raised m k = mul_assoc m (2 ^ k) (2 ^ 149) ∙ ap (λ (x : ℕ). m * x) (sym (pow-add 2 k 149))

-- ---- a rounding's sign is its own
odd_neg : (d : ℕ) (s : Bool) (q k l : ℕ) → neg (odd d s q k l) ≡ odd d (not s) q k l
unfolding odd neg
odd_neg d s zero k l = refl
odd_neg d s (suc q) k l = refl

units_neg : (f : Format) (s : Bool) (q k : ℕ) → neg (units f s q k) ≡ units f (not s) q k
unfolding units
units_neg f s q k = go (ltb (q * 2 ^ k) (2 ^ (low f + suc (emax f))))
  where
    go : (b : Bool) → neg (cond b (odd (suc (prec f)) s q k (low f)) (inf s)) ≡ cond b (odd (suc (prec f)) (not s) q k (low f)) (inf (not s))
    go true = odd_neg (suc (prec f)) s q k (low f)
    go false = unfold neg in refl

pub round_neg : (f : Format) (s : Bool) (a b : ℕ) → neg (round f s a b) ≡ round f (not s) a b
round_neg f s a b = ap neg (round_is f s a b) ∙ units_neg f s _ _ ∙ sym (round_is f (not s) a b)
