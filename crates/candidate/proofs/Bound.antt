-- A number against the cone's bound, c = 11863283 / 2 ^ 24. Assumes nothing.
use mathlib.Core.Path.{◌≡◌, refl, sym, ap, ◌∙◌, subst}
use Prim.Native.Nat.{ℕ, zero, suc, ◌+◌, ◌-◌, ◌*◌, ◌^◌, ◌≤◌, ◌<◌}
use native.Mathlib.Nat.{lt_of_not-le, sub-zero, zero-mul, zero-lt-suc}
use native.Mathlib.Omega.{arith}
use mathlib.Core.Bool.{Bool, true, false, ◌&&◌, ◌||◌, cond, false≢true}
use mathlib.Core.Logic.{◌⊎◌, inl, inr}
use borrow.Author.Tests.{lt-ltb}
use lib.IntN.{ℤ, pos, negsuc}
use lib.Dec.{T, ltb, eqb, eqb→eq, leb-suc-zero, lit<}
use lib.Ieee.{Float, nan, inf, fin, binary32, of_bits, up, down, round, sum, add, neg, le}
use lib.Ieee.Fits.{down_pos}
use lib.Ieee.Order.{round_mono}
use lib.Ieee.Positive.{between, le_trans_positive}
use Rattle.floats.proofs.Value.{add_at}
use Rattle.floats.proofs.Held.{round_neg}
use Rattle.floats.proofs.Own.{round_zero}
use Rattle.floats.proofs.Order.{plain}
use Rattle.floats.proofs.Rounded.{plain_round}
use Rattle.candidate.specs.Candidate.{cone_bound}

abbrev pub bound : Float
bound = fin false 11863283 (negsuc 23)

pub bound_is : cone_bound ≡ bound
unfolding of_bits
bound_is = refl

-- ---- what has its sign set is below it
some : (d : ℕ) → 0 < d → 11863283 * 1 * d ≡ 0 → ⊥
some d h k = omega arith

negative : (m : ℕ) (e : ℤ) → le bound (fin true m e) ≡ false
unfolding le
negative m e = go (eqb (11863283 * 1 * down e) (m * up e * down (negsuc 23))) (eqb (11863283 * 1 * down e) 0) (eqb→eq (11863283 * 1 * down e) 0)
  where
    go : (x y : Bool) → (T y → 11863283 * 1 * down e ≡ 0) → (false || (x && (false || y))) ≡ false
    go false y h = refl
    go true false h = refl
    go true true h = absurd (some (down e) (down_pos e) (h tt))

turned : (x : Float) → T (plain x) → le bound (neg x) ≡ false
unfolding neg le
turned nan p = absurd p
turned (inf true) p = absurd p
turned (inf false) p = refl
turned (fin true m e) p = absurd p
turned (fin false m e) p = negative m e

pub round_negative : (a b : ℕ) → le bound (round binary32 true a b) ≡ false
round_negative a b = ap (le bound) (sym (round_neg binary32 false a b)) ∙ turned (round binary32 false a b) (plain_round a b)

pub zero_under : (s : Bool) → le bound (fin s 0 (pos 0)) ≡ false
unfolding le
zero_under true = refl
zero_under false = refl

-- also beside a zero, on either side
sum_negative : (a : ℕ) (t : Bool) (c : ℕ) → 0 < c → le bound (sum binary32 true a t 0 c) ≡ false
unfolding sum
sum_negative a true c C = round_negative (a + 0) c
sum_negative a false c C =
    ap (λ (b : Bool). le bound (cond b (round binary32 false (0 - a) c) (round binary32 (true && ltb 0 a) (a - 0) c))) (leb-suc-zero a) ∙ go (ltb 0 a) (a - 0) (rest a)
  where
    rest : (a : ℕ) → (ltb 0 a ≡ true) ⊎ (a - 0 ≡ 0)
    rest zero = inr refl
    rest (suc a) = inl (lt-ltb 0 (suc a) (zero-lt-suc a))

    go : (b : Bool) (n : ℕ) → (b ≡ true) ⊎ (n ≡ 0) → le bound (round binary32 (true && b) n c) ≡ false
    go true n o = round_negative n c
    go false n (inl e) = absurd (false≢true e)
    go false n (inr e) = ap (λ (x : ℕ). le bound (round binary32 false x c)) e ∙ ap (le bound) (round_zero false c C) ∙ zero_under false

-- a sum with the sign of the first part
zero_first : (a : ℕ) (t : Bool) (c : ℕ) → sum binary32 t 0 true a c ≡ sum binary32 true a t 0 c
unfolding sum
zero_first a true c = ap (λ (x : ℕ). round binary32 true x c) (swap a)
  where
    swap : (a : ℕ) → 0 + a ≡ a + 0
    swap a = omega arith
zero_first zero false c = refl
zero_first (suc a) false c = rw (lt-ltb 0 (suc a) (zero-lt-suc a), leb-suc-zero, sub-zero)

module _ (m : ℕ) (e : ℤ) (t : Bool) where
  pub negative_plus : le bound (add binary32 (fin true m e) (fin t 0 (pos 0))) ≡ false
  negative_plus = ap (le bound) (add_at (fin true m e) (fin t 0 (pos 0)) true t (m * up e) 0 (down e) (down_pos e) (refl, refl) (refl, zero-mul (down e))) ∙ sum_negative (m * up e) t (down e) (down_pos e)

  pub plus_negative : le bound (add binary32 (fin t 0 (pos 0)) (fin true m e)) ≡ false
  plus_negative =
      ap (le bound) (add_at (fin t 0 (pos 0)) (fin true m e) t true 0 (m * up e) (down e) (down_pos e) (refl, zero-mul (down e)) (refl, refl) ∙ zero_first (m * up e) t (down e)) ∙ sum_negative (m * up e) t (down e) (down_pos e)

-- two zeros
pub zeros : (s t : Bool) → le bound (add binary32 (fin s 0 (pos 0)) (fin t 0 (pos 0))) ≡ false
zeros true t = negative_plus 0 (pos 0) t
zeros false true = plus_negative 0 (pos 0) false
zeros false false = unfold add le in refl

-- ---- a / b, rounded, reaches it only from above (2 * 11863283 - 1) / 2 ^ 25, which is halfway from the f32 below and rounds to that one
abbrev prior : Float
prior = fin false 5931641 (negsuc 22)

halfway : round binary32 false 23726565 (2 ^ 25) ≡ prior
unfolding round
halfway = refl

apart : T (le bound prior) → ⊥
unfolding le
apart t = t

pub reached : (a b : ℕ) → 0 < b → T (le bound (round binary32 false a b)) → 23726565 * b < a * 2 ^ 25
reached a b B t = lt_of_not-le λ (h : a * 2 ^ 25 ≤ 23726565 * b). apart (under h)
  where
    under : a * 2 ^ 25 ≤ 23726565 * b → T (le bound prior)
    under h =
        let u : T (le (round binary32 false a b) prior) = subst (λ (z : Float). T (le (round binary32 false a b) z)) halfway (round_mono binary32 a b 23726565 (2 ^ 25) B (lit< tt) h) in
        le_trans_positive bound (round binary32 false a b) prior tt (between bound (round binary32 false a b) prior tt tt t u) tt t u
