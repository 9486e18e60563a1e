-- A number without a fraction is rounded to itself, and a sum with 2 ^ 23 tells which those are.
-- Assumes nothing.
use mathlib.Core.Path.{◌≡◌, sym, refl, ap, ◌∙◌, subst}
use mathlib.Core.Bool.{Bool, true, false, ◌&&◌}
use Prim.Native.Nat.{ℕ, zero, suc, ◌+◌, ◌-◌, ◌*◌, ◌/◌, ◌%◌, ◌^◌, ◌<◌, ◌≤◌}
use native.Mathlib.Nat.{mul-one, one-mul, mul_left_comm, pow-succ'}
use native.Mathlib.Omega.{arith}
use lib.Dec.{T, ltb, leb, eqb, leb→le, eqb→eq, lit<}
use lib.IntN.{ℤ, pos, negsuc}
use lib.Pow.{pow_mono}
use lib.Ieee.{Float, nan, inf, fin, binary32, up, down, round, add, sub, neg, eq, le, fits, of_bits}
use lib.Ieee.Fits.{down_pos, and_l, round-fits}
use lib.Ieee.Order.{round_mono}
use lib.Ieee.Positive.{above_of_le}
use lib.Ieee.Back as Back
use Rattle.std.specs.Float.{float_with_sign}
use Rattle.floats.proofs.Value.{add_at, le_at, eq_at, neg_at, rescaled, at_most}
use Rattle.floats.proofs.Plain.{power, own, power_value, le_power, no_fraction, joined, reduced}
use Rattle.floats.proofs.Held.{held, unsigned, round_whole}
use Rattle.gui_rounding.specs.GuiRounding.{round_away}

-- ---- m * 2 ^ k has no fraction
as_it_is : (n : ℕ) → (n * 2 + 1) / 2 ≡ n
as_it_is n = omega arith

module _ (s : Bool) (m k : ℕ) (f : T (fits binary32 (fin s m (pos k)))) where
  whole : fin s m (pos k) ≡ round_away (fin s m (pos k))
  unfolding round_away
  whole =
      let stays = ap (λ (n : ℕ). round binary32 s n 1) (as_it_is (m * 2 ^ k)) in
      sym (stays ∙ round_whole s m k f)

-- ---- from 2 ^ 23 to 2 ^ 24 no float has, and 2 ^ 23 less is a whole number too
from_power : (n w : ℕ) (e : ℤ) → T (le (power w) (fin false n e)) → 2 ^ w * down e ≤ n * up e
from_power n w e t =
    let d = down e in
    let two = power_value w d in
    let here = own false n e in
    let test =
    le_at (power w) (fin false n e) false false (2 ^ w * d) (n * up e) d (down_pos e) two here in
    leb→le _ _ (subst T (test ∙ at_most _ _) t)

less : (n k : ℕ) → 2 ^ 23 ≤ n * 2 ^ k
    → sub binary32 (fin false n (pos k)) (power 23) ≡ round binary32 false (n * 2 ^ k - 2 ^ 23) 1
unfolding sub
less n k h =
    let minus = neg_at (power 23) false (2 ^ 23) 1 (refl, refl) in
    let x = fin false n (pos k) in
    let here = own false n (pos k) in
    add_at x (neg (power 23)) false true (n * 2 ^ k) (2 ^ 23) 1 (lit< tt) here minus
    ∙ reduced (n * 2 ^ k) (2 ^ 23) 1 h

-- ---- m / 2 ^ k has one: m is odd
odd_digits : (m k : ℕ) → T (fits binary32 (fin false m (negsuc k))) → m % 2 ≡ 1
unfolding fits
odd_digits zero k f =
    let one = eqb→eq (1 * 2 ^ suc k) 1 f in
    absurd (no_power (2 ^ k) (sym (pow-succ' 2 k) ∙ sym (one-mul (2 ^ suc k)) ∙ one))
  where
    no_power : (p : ℕ) → 2 * p ≡ 1 → ⊥
    no_power p e = omega arith
odd_digits (suc m) k f =
    let odd = eqb (suc m % 2) 1 in
    let short = ltb (suc m) (2 ^ 24) in
    let fine = leb (2 ^ suc k) (2 ^ 149) in
    let bounded = ltb (suc m * 1) (2 ^ 128 * 2 ^ suc k) in
    let first = and_l (odd && short) fine (and_l (odd && short && fine) bounded f) in
    eqb→eq (suc m % 2) 1 (and_l odd short first)

module _ (m k : ℕ) (f : T (fits binary32 (fin false m (negsuc k)))) where
  abbrev x : Float
  x = fin false m (negsuc k)

  abbrev d : ℕ
  d = 2 ^ suc k

  no_multiple : (v : ℕ) → v * d ≡ m * 1 → ⊥
  no_multiple v e =
      let twice = sym (mul_left_comm v 2 (2 ^ k)) ∙ ap (λ (p : ℕ). v * p) (sym (pow-succ' 2 k)) in
      clash (v * 2 ^ k) m (twice ∙ e) (odd_digits m k f)
    where
      clash : (q m : ℕ) → 2 * q ≡ m * 1 → m % 2 ≡ 1 → ⊥
      clash q m e o = omega arith

  apart : (v : ℕ) → v ≤ 2 ^ 24 → eq (round binary32 false v 1) x ≡ true → ⊥
  apart v h t =
      let y = round binary32 false v 1 in
      let one = Back.round_whole binary32 false v h in
      let here = rescaled y false v 1 (v * d) d (lit< tt) (mul-one (v * d)) one in
      let there = own false m (negsuc k) in
      let test = eq_at y x false false (v * d) (m * 1) d (down_pos (negsuc k)) here there in
      let same = and_l (eqb (v * d) (m * 1)) true (subst T (sym t ∙ test) tt) in
      no_multiple v (eqb→eq (v * d) (m * 1) same)

  no_sum : (z : Float) → T (fits binary32 z) → T (le (power 23) z) → T (le z (power 24))
      → eq (sub binary32 z (power 23)) x ≡ true → ⊥
  no_sum nan g l h t = absurd (above_of_le (power 23) nan tt l)
  no_sum (inf true) g l h t = absurd (above_of_le (power 23) (inf true) tt l)
  no_sum (inf false) g l h t = absurd (unfold le in h)
  no_sum (fin true n e) g l h t = absurd (above_of_le (power 23) (fin true n e) tt l)
  no_sum (fin false n (negsuc j)) g l h t = no_fraction false n j g (from_power n 23 (negsuc j) l)
  no_sum (fin false n (pos j)) g l h t =
      let low : 2 ^ 23 ≤ n * 2 ^ j = from_power n 23 (pos j) l in
      let high : n * 2 ^ j ≤ 2 ^ 24 = leb→le _ _ (subst T (le_power n (pos j) 24) h) in
      apart (n * 2 ^ j - 2 ^ 23) (omega arith) (sym (ap (λ (y : Float). eq y x) (less n j low)) ∙ t)

  small : m * 1 ≤ 2 ^ 23 * d
  small = below m d (held false m (negsuc k) f).digits (pow_mono (first k))
    where
      first : (k : ℕ) → 1 ≤ suc k
      first k = omega arith

      below : (m p : ℕ) → m < 2 ^ 24 → 2 ≤ p → m * 1 ≤ 2 ^ 23 * p
      below m p h l = omega arith

  fraction : eq (sub binary32 (add binary32 x (power 23)) (power 23)) x ≡ true → ⊥
  unfolding fits
  fraction t =
      let D : 0 < d = down_pos (negsuc k) in
      let a = m * 1 + 2 ^ 23 * d in
      let z = round binary32 false a d in
      let low = round_mono binary32 (2 ^ 23) 1 a d (lit< tt) D (omega arith) in
      let high = round_mono binary32 a d (2 ^ 24) 1 D (lit< tt) (omega (arith, small)) in
      let there = own false m (negsuc k) in
      let sum =
      add_at x (power 23) false false (m * 1) (2 ^ 23 * d) d D there (power_value 23 d)
      ∙ joined (m * 1) (2 ^ 23 * d) d in
      no_sum z (round-fits binary32 false a d)
      (subst (λ (y : Float). T (le y z)) (round_whole false 1 23 tt) low)
      (subst (λ (y : Float). T (le z y)) (round_whole false 1 24 tt) high)
      (sym (ap (λ (y : Float). eq (sub binary32 y (power 23)) x) sum) ∙ t)

-- ---- as the code has it
abbrev pub limit : Float
limit = of_bits binary32 0x4b00_0000

pub whole_stays : (x y : Float) → T (fits binary32 x) → y ≡ float_with_sign false x
    → eq (sub binary32 (add binary32 y limit) limit) y ≡ true → x ≡ round_away x
unfolding of_bits float_with_sign
whole_stays nan y f e t = unfold round_away in refl
whole_stays (inf s) y f e t = unfold round_away in refl
whole_stays (fin s m (pos k)) y f e t = whole s m k f
whole_stays (fin s m (negsuc k)) y f e t =
    let fits_size = unsigned s false m (negsuc k) f in
    let same = ap (λ (z : Float). eq (sub binary32 (add binary32 z limit) limit) z) e in
    absurd (fraction m k fits_size (sym same ∙ t))
