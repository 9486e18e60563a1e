-- The tests of `side`: a negative float within 2 ^ 18 by the whole-number test, and every one past it is on the grid. Assumes nothing.
use mathlib.Core.Path.{◌≡◌, refl, sym, ap, ◌∙◌, subst}
use Prim.Native.Nat.{ℕ, zero, suc, ◌+◌, ◌-◌, ◌*◌, ◌/◌, ◌%◌, ◌^◌, ◌≤◌, ◌<◌}
use native.Mathlib.Nat.{mul_assoc, zero-mul, mod-one, mul-mod_left, mul-pos, zero-lt-suc, div-add-mod', lt_irrefl}
use native.Mathlib.Omega.{arith}
use mathlib.Core.Bool.{Bool, true, false, not, cond, true≢false, false≢true}
use lib.IntN.{ℤ, pos, negsuc, nat_abs}
use lib.Dec.{T, ltb, leb, eqb, ltb→lt, nltb→le, lit≤}
use lib.Pow.{pow-add, pow_mono}
use lib.Ieee.{Float, nan, inf, fin, binary32, up, down, mul, neg, lt, le, fits}
use lib.Ieee.Fits.{up_pos}
use lib.Ieee.Digits.{back}
use borrow.Author.Tests.{leb-true, leb-false, eqb-true, eq-eqb}
use Rattle.floats.specs.Count.{signed, off, at, count_of}
use Rattle.floats.proofs.Held.{held, zero_exponent, unsigned}
use Rattle.grid.specs.Grid.{on_grid, within, side_at, side_refusal}
use Rattle.floats.proofs.Plain.{nil, power, below_nil, not_below_nil, some_digits, le_power}
use Rattle.grid.proofs.Within.{whole_f, test}

-- ---- past 2 ^ 18 an f32 is a multiple of 1 / 32
few : (m k : ℕ) → m < 2 ^ 24 → 2 ^ 18 * 2 ^ suc k < m * 1 → suc k ≤ 5
few m k a b = go (ltb 5 (suc k)) (ltb→lt 5 (suc k)) (nltb→le 5 (suc k))
  where
    clash : (m p : ℕ) → m < 2 ^ 24 → 2 ^ 18 * p < m * 1 → 64 ≤ p → ⊥
    clash m p a b c = omega arith

    go : (t : Bool) → (T t → 5 < suc k) → (T (not t) → suc k ≤ 5) → suc k ≤ 5
    go true u v = absurd (clash m (2 ^ suc k) a b (pow_mono (u tt)))
    go false u v = v tt

pub coarse : (s : Bool) (m : ℕ) (e : ℤ) → T (fits binary32 (fin s m e)) → 2 ^ 18 * down e < m * up e → m * up e * 32 % down e ≡ 0
coarse s m (pos k) f h = mod-one (m * 2 ^ k * 32)
coarse s m (negsuc k) f h =
    let g : suc k ≤ 5 = few m k (held s m (negsuc k) f).digits h in
    let split : 32 ≡ 2 ^ (5 - suc k) * 2 ^ suc k = ap (λ (x : ℕ). 2 ^ x) (sym (back 5 (suc k) g)) ∙ pow-add 2 (5 - suc k) (suc k) in
    ap (λ (x : ℕ). m * 1 * x % 2 ^ suc k) split ∙ ap (λ (x : ℕ). x % 2 ^ suc k) (sym (mul_assoc (m * 1) (2 ^ (5 - suc k)) (2 ^ suc k))) ∙ mul-mod_left (m * 1 * 2 ^ (5 - suc k)) (2 ^ suc k)

-- ---- a negative number on the grid is a negative number of steps
negative_steps : (q : ℕ) → (q ≡ 0 → ⊥) → side_at (signed true q) ≡ 4
negative_steps zero h = absurd (h refl)
negative_steps (suc q) h = refl

some_steps : (A D q r : ℕ) → 0 < A → q * D + r ≡ A → r ≡ 0 → q ≡ 0 → ⊥
some_steps A D q r h e z n = lt_irrefl 0 (subst (λ (a : ℕ). 0 < a) (sym e ∙ (λ i. n i * D + z i) ∙ ap (λ (x : ℕ). x + 0) (zero-mul D)) h)

side_is : (m : ℕ) (e : ℤ) (t : Bool) → t ≡ eqb (suc m * up e * 32 % down e) 0 → cond t 4 3 ≡ side_refusal (fin true (suc m) e)
unfolding side_refusal count_of
side_is m e t h = go t (λ k. eqb-true (suc m * up e * 32 % down e) 0 (sym h ∙ k)) ∙ ap (λ (b : Bool). on_grid (cond b (at (signed true (suc m * up e * 32 / down e))) off) side_at) h
  where
    go : (b : Bool) → (b ≡ true → suc m * up e * 32 % down e ≡ 0) → cond b 4 3 ≡ on_grid (cond b (at (signed true (suc m * up e * 32 / down e))) off) side_at
    go true z =
        sym
        (negative_steps (suc m * up e * 32 / down e)
        (some_steps (suc m * up e * 32) (down e) (suc m * up e * 32 / down e) (suc m * up e * 32 % down e) (mul-pos (mul-pos (zero-lt-suc m) (up_pos e)) (zero-lt-suc 31)) (div-add-mod' (suc m * up e * 32) (down e)) (z refl)))
    go false z = refl

-- ---- a float below zero is an infinity or has digits
on_negative : (P : Float → Type 0) → P (inf true) → ((m : ℕ) (e : ℤ) → T (fits binary32 (fin true (suc m) e)) → P (fin true (suc m) e)) → (x : Float) → T (fits binary32 x) → lt x nil ≡ true → P x
on_negative P i law nan f h = absurd (false≢true (unfold lt in h))
on_negative P i law (inf true) f h = i
on_negative P i law (inf false) f h = absurd (false≢true (unfold lt in h))
on_negative P i law (fin false m e) f h = absurd (false≢true (sym (not_below_nil m e) ∙ h))
on_negative P i law (fin true zero e) f h = absurd (false≢true (unfold lt in (subst (λ (d : ℤ). lt (fin true 0 d) nil ≡ true) (zero_exponent true e f) h)))
on_negative P i law (fin true (suc m) e) f h = law m e f

pub near_side : (t : Bool) (x : Float) → T (fits binary32 x) → lt x nil ≡ true → le (neg x) (power 18) ≡ true → whole_f (mul binary32 (neg x) (power 5)) ≡ t → cond t 4 3 ≡ side_refusal x
near_side t =
    on_negative (λ (x : Float). le (neg x) (power 18) ≡ true → whole_f (mul binary32 (neg x) (power 5)) ≡ t → cond t 4 3 ≡ side_refusal x) (λ k. absurd (false≢true (unfold le neg in k)))
    (λ m e f. unfold neg in
    (λ k l. side_is m e t (sym l ∙ test 5 18 (lit≤ tt) (suc m) e (unsigned true false (suc m) e f) (leb-true (suc m * up e) (2 ^ 18 * down e) (sym (le_power (suc m) e 18) ∙ k)))))

pub far_side : (t : Bool) (x : Float) → T (fits binary32 x) → lt x nil ≡ true → le (neg x) (power 18) ≡ false → lt (neg x) (inf false) ≡ t → cond t 4 3 ≡ side_refusal x
far_side t =
    on_negative (λ (x : Float). le (neg x) (power 18) ≡ false → lt (neg x) (inf false) ≡ t → cond t 4 3 ≡ side_refusal x)
    (λ k l. unfold side_refusal count_of neg lt in (ap (λ (b : Bool). cond b 4 3) (sym l)))
    (λ m e f. unfold neg lt in
    (λ k l. side_is m e t (sym l ∙ sym (eq-eqb (suc m * up e * 32 % down e) 0 (coarse true (suc m) e f (leb-false (suc m * up e) (2 ^ 18 * down e) (sym (le_power (suc m) e 18) ∙ k)))))))

-- ---- any other float: as a corner
pub other_side : (x : Float) → T (fits binary32 x) → lt x nil ≡ false → within 32 16384 x ≡ side_refusal x
unfolding within side_refusal count_of
other_side nan f h = refl
other_side (inf true) f h = absurd (true≢false (unfold lt in h))
other_side (inf false) f h = refl
other_side (fin true zero e) f h = subst (λ (d : ℤ). within 32 16384 (fin true 0 d) ≡ side_refusal (fin true 0 d)) (sym (zero_exponent true e f)) refl
other_side (fin true (suc m) e) f h = absurd (true≢false (sym (some_digits m e) ∙ sym (below_nil (suc m) e) ∙ h))
other_side (fin false m e) f h = go (eqb (m * up e * 32 % down e) 0)
  where
    go : (t : Bool) → on_grid (cond t (at (pos (m * up e * 32 / down e))) off) (λ z. cond (leb (nat_abs z) (16384 * 32)) 0 3) ≡ on_grid (cond t (at (pos (m * up e * 32 / down e))) off) side_at
    go true = refl
    go false = refl
