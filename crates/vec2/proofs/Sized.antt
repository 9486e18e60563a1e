-- The size of a number on the grid, in steps: what `steps` asks of its conversion, and its answer. Assumes nothing.
use Rattle.std.proofs.Common.{◌≡◌, ℕ, zero, suc, ◌+◌, ◌*◌, ◌^◌, ◌<◌, ◌≤◌, Bool, true, false, cond, T, ℤ, pos, nat_abs, sym, refl, ap, ◌∙◌, subst, zero-le, le_trans, lt_of_le_of_lt, mul_assoc, div-one, arith, lit<, lit≤, lt→ltb, le-ltb, lt-ltb}
use mathlib.Core.Bool.{false≢true}
use lib.Ieee.{Float, nan, inf, fin, binary32, round, mul, neg, lt, unlike, below, of_bits, to_unsigned}
use lib.Ieee.Exact.{HasValue}
use lib.Ieee.Back.{round_whole}
use lib.Ieee.Scale.{round_same}
use Rattle.refusal.specs.Refusal.{none}
use Rattle.floats.specs.Count.{at, count_of}
use Rattle.floats.proofs.Value.{lt_at, mul_at, neg_at}
use Rattle.floats.proofs.Counts.{count_value, sized}
use Rattle.floats.proofs.Plain.{nil, nil_value, power, power_value}
use Rattle.floats.proofs.Held.{whole_part}
use Rattle.grid.specs.Grid.{pivot_refusal}
use Rattle.grid.proofs.Accepted.{within_count}
use Rattle.grid.proofs.Within.{abs_f}

-- y is k / c in size, and below zero only as -0.0
record Size (y : Float) (k c : ℕ) : Type 0 where
  sign : Bool
  value : HasValue y sign k c
  plain : sign ≡ true → k ≡ 0

-- ---- without its sign
size_is : (x : Float) (s : Bool) (k : ℕ) → HasValue x s k 64 → Size (abs_f x) k 64
size_is x s k v = go s k v (lt_at x nil s false k 0 64 (lit< tt) v (nil_value 64))
  where
    go : (s : Bool) (k : ℕ) → HasValue x s k 64 → lt x nil ≡ below s k false 0 → Size (abs_f x) k 64
    go false k v e = record {
      sign = false;
      value = subst (λ (t : Bool). HasValue (cond t (neg x) x) false k 64) (sym (e ∙ le-ltb k 0 zero-le)) v;
      plain = λ h. absurd (false≢true h);
    }
    go true zero v e = record {
      sign = true;
      value = subst (λ (t : Bool). HasValue (cond t (neg x) x) true 0 64) (sym e) v;
      plain = λ h. refl;
    }
    go true (suc k) v e = record {
      sign = false;
      value = subst (λ (t : Bool). HasValue (cond t (neg x) x) false (suc k) 64) (sym (e ∙ lt-ltb 0 (suc k + 0) (omega arith))) (neg_at x true (suc k) 64 v);
      plain = λ h. absurd (false≢true h);
    }

-- ---- times 64
like : (s : Bool) → unlike s false ≡ s
like true = refl
like false = refl

times_64 : (y : Float) (k : ℕ) → k ≤ 2 ^ 24 → Size y k 64 → Size (mul binary32 y (power 6)) k 1
times_64 y k h z = record {
  sign = z.sign;
  value = subst (λ (x : Float). HasValue x z.sign k 1)
      (sym (mul_at y (power 6) z.sign false k 64 64 1 (lit< tt) (lit< tt) z.value (power_value 6 1)
      ∙ ap (λ (s : Bool). round binary32 s (k * 64) 64) (like z.sign)
      ∙ round_same binary32 z.sign (k * 64) 64 k 1 (lit< tt) (lit< tt) (mul_assoc k 64 1)))
      (round_whole binary32 z.sign k h);
  plain = z.plain;
}

-- ---- the conversion
module _ (y : Float) (k : ℕ) (h : k < 2 ^ 64) where
  in_range : Size y k 1 → T (lt (fin true 1 (pos 0)) y) × T (lt y (fin false 1 (pos 64)))
  in_range z = (
    subst T (sym (lt_at (fin true 1 (pos 0)) y true z.sign 1 k 1 (lit< tt) (refl, refl) z.value)) (low z.sign z.plain),
    subst T (sym (lt_at y (power 64) z.sign false k (2 ^ 64) 1 (lit< tt) z.value (power_value 64 1))) (high z.sign),
  )
    where
      low : (s : Bool) → (s ≡ true → k ≡ 0) → T (below true 1 s k)
      low true p = lt→ltb k 1 (omega (arith, p refl))
      low false p = lt→ltb 0 (1 + k) (omega arith)

      high : (s : Bool) → T (below s k false (2 ^ 64))
      high true = lt→ltb 0 (k + 2 ^ 64) (omega arith)
      high false = lt→ltb k (2 ^ 64) h

  cut : Size y k 1 → to_unsigned 64 y ≡ k
  unfolding to_unsigned
  cut z = go z.sign z.value z.plain
    where
      under : (y : Float) → HasValue y true k 1 → to_unsigned 64 y ≡ 0
      under nan v = absurd v
      under (inf s) v = absurd v
      under (fin true m e) v = refl
      under (fin false m e) v = absurd (false≢true v.0)

      go : (s : Bool) → HasValue y s k 1 → (s ≡ true → k ≡ 0) → to_unsigned 64 y ≡ k
      go true v p = under y v ∙ sym (p refl)
      go false v p = whole_part y k 1 (lit< tt) (subst (λ (n : ℕ). n < 2 ^ 64) (sym (div-one k)) h) v ∙ div-one k

-- ---- a number that is taken as a pivot position has few steps
pub few : (x : Float) → pivot_refusal x ≡ none → (z : ℤ) → count_of 64 x ≡ at z → nat_abs z ≤ 32768 * 64
few x h z p =
    let t = within_count 64 32768 x h in
    subst (λ (y : ℤ). nat_abs y ≤ 32768 * 64) (one_count x t.0 z t.1 p) t.2
  where
    one_count : (x : Float) (a b : ℤ) → count_of 64 x ≡ at a → count_of 64 x ≡ at b → a ≡ b
    one_count x a b p q = cc

-- ---- r is what `magnitude` gave
module _ (x : Float) (z : ℤ) (p : count_of 64 x ≡ at z) (h : nat_abs z ≤ 32768 * 64) (r : Float) (e : r ≡ abs_f x) where
  product : Size (mul binary32 r (power 6)) (nat_abs z) 1
  product =
      let v = count_value 64 x z p in
      times_64 r (nat_abs z) (le_trans h (lit≤ tt)) (subst (λ (y : Float). Size y (nat_abs z) 64) (sym e) (subst (λ (k : ℕ). Size (abs_f x) k 64) (sym (sized 64 x z v)) (size_is x v.sign v.steps v.value)))

  pub asks : T (lt (fin true 1 (pos 0)) (mul binary32 r (of_bits binary32 0x4280_0000))) × T (lt (mul binary32 r (of_bits binary32 0x4280_0000)) (fin false 1 (pos 64)))
  unfolding of_bits
  asks = in_range (mul binary32 r (power 6)) (nat_abs z) (lt_of_le_of_lt h (lit< tt)) product

  pub answer : to_unsigned 64 (mul binary32 r (of_bits binary32 0x4280_0000)) ≡ nat_abs z
  unfolding of_bits
  answer = cut (mul binary32 r (power 6)) (nat_abs z) (lt_of_le_of_lt h (lit< tt)) product
