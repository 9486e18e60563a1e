-- What is rounded without a sign is plain, and grows with the number; at most 1, it is finite. Assumes nothing.
use mathlib.Core.Path.{◌≡◌, refl, sym, ap, ◌∙◌, subst}
use Prim.Native.Nat.{ℕ, zero, suc, ◌+◌, ◌*◌, ◌^◌, ◌≤◌, ◌<◌}
use native.Mathlib.Nat.{mul-pos, zero-mul, zero-lt-suc}
use native.Mathlib.Omega.{arith}
use mathlib.Core.Bool.{Bool, true, false, ◌||◌, cond, false≢true, true≢false}
use lib.IntN.{ℤ, pos}
use lib.Dec.{T, ltb, lit<}
use lib.Ieee.{Float, nan, inf, fin, binary32, prec, emax, low, up, down, odd, units, round, neg, lt, eq, le}
use lib.Ieee.Fits.{up_pos, down_pos, round_is}
use lib.Ieee.Order.{round_mono}
use borrow.Author.Tests.{lt-ltb}
use Rattle.floats.proofs.Order.{plain, lt_apart, level_not_below, not_below}
use Rattle.floats.proofs.Held.{round_neg}

plain_odd : (d q k l : ℕ) → T (plain (odd d false q k l))
unfolding odd
plain_odd d zero k l = tt
plain_odd d (suc q) k l = tt

plain_units : (q k : ℕ) → T (plain (units binary32 false q k))
unfolding units
plain_units q k = go (ltb (q * 2 ^ k) (2 ^ (low binary32 + suc (emax binary32))))
  where
    go : (b : Bool) → T (plain (cond b (odd (suc (prec binary32)) false q k (low binary32)) (inf false)))
    go true = plain_odd (suc (prec binary32)) q k (low binary32)
    go false = tt

pub plain_round : (a b : ℕ) → T (plain (round binary32 false a b))
plain_round a b = subst (λ (x : Float). T (plain x)) (sym (round_is binary32 false a b)) (plain_units _ _)

-- ---- at most is not above
pub not_above : (x y : Float) → T (plain x) → T (plain y) → T (le x y) → lt y x ≡ false
unfolding le
not_above x y p q h = go (lt x y) (eq x y) refl refl h
  where
    go : (l e : Bool) → lt x y ≡ l → eq x y ≡ e → T (l || e) → lt y x ≡ false
    go true e L E h = (lt_apart x y L).0
    go false true L E h = (level_not_below x y p q E).1
    go false false L E h = absurd h

-- a / b at most c / d
pub round_not_above : (a b c d : ℕ) → 0 < b → 0 < d → a * d ≤ c * b → lt (round binary32 false c d) (round binary32 false a b) ≡ false
round_not_above a b c d B D h = not_above (round binary32 false a b) (round binary32 false c d) (plain_round a b) (plain_round c d) (round_mono binary32 a b c d B D h)

-- ---- a fraction of at most 1 is rounded to a finite number
pub record Finite (s : Bool) (x : Float) : Type 0 where
  pub digits : ℕ
  pub exponent : ℤ
  pub is : x ≡ fin s digits exponent

one_is : round binary32 false 1 1 ≡ fin false 1 (pos 0)
unfolding round
one_is = refl

finite : (x : Float) → T (plain x) → lt (fin false 1 (pos 0)) x ≡ false → Finite false x
unfolding lt
finite nan p h = absurd p
finite (inf true) p h = absurd p
finite (inf false) p h = absurd (true≢false h)
finite (fin true m e) p h = absurd p
finite (fin false m e) p h = record { digits = m; exponent = e; is = refl }

pub at_most_one : (a b : ℕ) → 0 < b → a ≤ b → lt (fin false 1 (pos 0)) (round binary32 false a b) ≡ false
at_most_one a b B h = subst (λ (x : Float). lt x (round binary32 false a b) ≡ false) one_is (round_not_above a b 1 1 B (lit< tt) (level a b h))
  where
    level : (a b : ℕ) → a ≤ b → a * 1 ≤ 1 * b
    level a b h = omega arith

turned : (m : ℕ) (e : ℤ) → neg (fin false m e) ≡ fin true m e
unfolding neg
turned m e = refl

pub finite_round : (s : Bool) (a b : ℕ) → 0 < b → a ≤ b → Finite s (round binary32 s a b)
finite_round false a b B h = finite (round binary32 false a b) (plain_round a b) (at_most_one a b B h)
finite_round true a b B h =
    let f = finite (round binary32 false a b) (plain_round a b) (at_most_one a b B h) in
    record { digits = f.digits; exponent = f.exponent; is = sym (round_neg binary32 false a b) ∙ ap neg f.is ∙ turned f.digits f.exponent }

-- ---- any float below a plain one is below what is not below that
module _ (x s : Float) (p : T (plain x)) (q : T (plain s)) (above : lt s x ≡ false) where
  plain_through : (l : Float) → T (plain l) → lt l x ≡ true → lt l s ≡ true
  plain_through l r h = go (lt l s) refl
    where
      go : (b : Bool) → lt l s ≡ b → b ≡ true
      go true e = refl
      go false e = absurd (false≢true (sym (not_below l s x r q p e above) ∙ h))

-- a number below zero is below all that is plain
negative_below : (m : ℕ) (e : ℤ) (s : Float) → T (plain s) → lt (fin true (suc m) e) s ≡ true
unfolding lt
negative_below m e nan q = absurd q
negative_below m e (inf true) q = absurd q
negative_below m e (inf false) q = refl
negative_below m e (fin true n d) q = absurd q
negative_below m e (fin false n d) q = lt-ltb 0 (suc m * up e * down d + n * up d * down e) (more (suc m * up e * down d) (n * up d * down e) (mul-pos (mul-pos (zero-lt-suc m) (up_pos e)) (down_pos d)))
  where
    more : (a b : ℕ) → 0 < a → 0 < a + b
    more a b h = omega arith

-- both zeros are below the same
zero_sign : (e : ℤ) (s : Float) → T (plain s) → lt (fin true 0 e) s ≡ lt (fin false 0 e) s
unfolding lt
zero_sign e nan q = absurd q
zero_sign e (inf t) q = refl
zero_sign e (fin true n d) q = absurd q
zero_sign e (fin false n d) q = ap (λ (x : ℕ). ltb 0 x) (none (n * up d * down e)) ∙ ap (λ (x : ℕ). ltb x (n * up d * down e)) (sym (ap (λ (x : ℕ). x * down d) (zero-mul (up e)) ∙ zero-mul (down d)))
  where
    none : (b : ℕ) → zero * up e * down d + b ≡ b
    none b = ap (λ (x : ℕ). x + b) (ap (λ (x : ℕ). x * down d) (zero-mul (up e)) ∙ zero-mul (down d)) ∙ same b
      where
        same : (b : ℕ) → 0 + b ≡ b
        same b = omega arith

infinity_below : (s : Float) → T (plain s) → lt (inf true) s ≡ true
unfolding lt
infinity_below nan q = absurd q
infinity_below (inf true) q = absurd q
infinity_below (inf false) q = refl
infinity_below (fin t n d) q = refl

nothing_below : (x : Float) → lt nan x ≡ true → ⊥
unfolding lt
nothing_below x h = false≢true h

pub lt_through : (l x s : Float) → T (plain x) → T (plain s) → lt l x ≡ true → lt s x ≡ false → lt l s ≡ true
lt_through nan x s p q h k = absurd (nothing_below x h)
lt_through (inf true) x s p q h k = infinity_below s q
lt_through (inf false) x s p q h k = plain_through x s p q k (inf false) tt h
lt_through (fin true zero e) x s p q h k = zero_sign e s q ∙ plain_through x s p q k (fin false 0 e) tt (sym (zero_sign e x p) ∙ h)
lt_through (fin true (suc m) e) x s p q h k = negative_below m e s q
lt_through (fin false m e) x s p q h k = plain_through x s p q k (fin false m e) tt h
