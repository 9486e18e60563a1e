-- Sums, differences, halves and comparisons of f32 that are whole numbers of 1 / c are those of the whole numbers. Assumes nothing.
use mathlib.Core.Path.{◌≡◌, refl, sym, ap, ◌∙◌, subst}
use Prim.Native.Nat.{ℕ, suc, ◌+◌, ◌-◌, ◌*◌, ◌/◌, ◌%◌, ◌^◌, ◌≤◌, ◌<◌}
use native.Mathlib.Nat.{mul-div_cancel, mul-mod_left, div-add-mod', add-zero}
use native.Mathlib.Omega.{arith}
use mathlib.Core.Bool.{Bool, true, false, not, ◌&&◌, cond}
use lib.IntN.{ℤ, pos, negsuc, neg_ℤ, nat_abs, sub_ℕ, ◌+ℤ◌, ◌-ℤ◌}
use lib.Signed.{lt_z, le_z}
use lib.Dec.{T, ltb, eqb, ltb→lt, nltb→le}
use lib.Pow.{pow_pos}
use lib.Ieee.{Float, nan, inf, fin, binary32, up, down, round, sum, add, sub, neg, lt, le}
use lib.Ieee.Fits.{down_pos}
use lib.Ieee.Exact.{HasValue}
use borrow.Author.Tests.{eqb-true}
use Rattle.floats.specs.Count.{signed, off, at, count_of}
use Rattle.floats.proofs.Value.{add_at, neg_at, lt_at, le_at, exact}
use Rattle.floats.proofs.Sign.{size_signed, signed_not, pos_less, less_pos, both_below, below_signed, at_most_signed}

-- ---- a count and a value say the same
pub value_count : (x : Float) (s : Bool) (n c : ℕ) → HasValue x s n c → count_of c x ≡ at (signed s n)
unfolding count_of
value_count nan s n c v = absurd v
value_count (inf t) s n c v = absurd v
value_count (fin t m e) s n c v =
    (λ i. cond (eqb (v.1 i % down e) 0) (at (signed (v.0 i) (v.1 i / down e))) off)
    ∙ (λ i. cond (eqb (mul-mod_left n (down e) i) 0) (at (signed s (mul-div_cancel n (down_pos e) i))) off)

-- the value behind a count: its sign and its size
pub record Valued (c : ℕ) (x : Float) (z : ℤ) : Type 0 where
  pub sign : Bool
  pub steps : ℕ
  pub value : HasValue x sign steps c
  pub is : z ≡ signed sign steps

at_is : {a b : ℤ} → at a ≡ at b → a ≡ b
at_is e = cc

off_not_at : {A : Type 0} (z : ℤ) → off ≡ at z → A
off_not_at z e = absurd (let k : ◌≡◌ {A = ℕ} 0 1 = cc in omega arith)

pub count_value : (c : ℕ) (x : Float) (z : ℤ) → count_of c x ≡ at z → Valued c x z
unfolding count_of
count_value c nan z e = off_not_at z e
count_value c (inf s) z e = off_not_at z e
count_value c (fin s m e) z h = go (eqb (m * up e * c % down e) 0) (eqb-true (m * up e * c % down e) 0) h
  where
    q : ℕ
    q = m * up e * c / down e

    go : (t : Bool) → (t ≡ true → m * up e * c % down e ≡ 0) → cond t (at (signed s q)) off ≡ at z → Valued c (fin s m e) z
    go false f h = off_not_at z h
    go true f h = record {
      sign = s;
      steps = q;
      value = (refl, sym (div-add-mod' (m * up e * c) (down e)) ∙ ap (λ (r : ℕ). q * down e + r) (f refl) ∙ add-zero (q * down e));
      is = sym (at_is h);
    }

-- the size of the whole number is the size of the value
pub sized : (c : ℕ) (x : Float) (z : ℤ) (v : Valued c x z) → nat_abs z ≡ v.steps
sized c x z v = ap nat_abs v.is ∙ size_signed v.sign v.steps

-- ---- a count of at most 24 digits is an f32
pub round_count : (s : Bool) (n d : ℕ) → d ≤ 149 → n < 2 ^ 24 → count_of (2 ^ d) (round binary32 s n (2 ^ d)) ≡ at (signed s n)
round_count s n d h k = value_count (round binary32 s n (2 ^ d)) s n (2 ^ d) (exact s n d h k)

-- ---- sums
step : (a b : ℕ) → a < b → b - a ≡ suc (b - suc a)
step a b h = omega arith

module _ (d : ℕ) (D : d ≤ 149) where
  -- a difference, rounded with the sign that it has
  difference : (n k : ℕ) → nat_abs (sub_ℕ n k) < 2 ^ 24 → (t : Bool) → (T t → n < k) → (T (not t) → k ≤ n) → sub_ℕ n k ≡ cond t (negsuc (k - suc n)) (pos (n - k))
      → count_of (2 ^ d) (cond t (round binary32 true (k - n) (2 ^ d)) (round binary32 false (n - k) (2 ^ d))) ≡ at (sub_ℕ n k)
  difference n k h true f g e =
      round_count true (k - n) d D (subst (λ (x : ℕ). x < 2 ^ 24) (ap nat_abs e ∙ sym (step n k (f tt))) h) ∙ ap (λ (x : ℕ). at (signed true x)) (step n k (f tt)) ∙ ap at (sym e)
  difference n k h false f g e = round_count false (n - k) d D (subst (λ (x : ℕ). x < 2 ^ 24) (ap nat_abs e) h) ∙ ap at (sym e)

  turned : (n k : ℕ) (u t : Bool) → (T u → n < k) → (T t → k < n) → (T (not u) → k ≤ n) → (T (not t) → n ≤ k)
      → cond u (round binary32 false (k - n) (2 ^ d)) (round binary32 (true && t) (n - k) (2 ^ d)) ≡ cond t (round binary32 true (n - k) (2 ^ d)) (round binary32 false (k - n) (2 ^ d))
  turned n k true true f g p q = absurd (clash (f tt) (g tt))
    where
      clash : {n k : ℕ} → n < k → k < n → ⊥
      clash h l = omega arith
  turned n k true false f g p q = refl
  turned n k false true f g p q = refl
  turned n k false false f g p q = ap (λ (x : ℕ). round binary32 false x (2 ^ d)) (level (p tt) (q tt))
    where
      level : {n k : ℕ} → k ≤ n → n ≤ k → n - k ≡ k - n
      level h l = omega arith

  sum_count : (s t : Bool) (n k : ℕ) → nat_abs (signed s n +ℤ signed t k) < 2 ^ 24 → count_of (2 ^ d) (sum binary32 s n t k (2 ^ d)) ≡ at (signed s n +ℤ signed t k)
  unfolding sum
  sum_count false false n k h = round_count false (n + k) d D h
  sum_count true true n k h =
      round_count true (n + k) d D (subst (λ (x : ℕ). x < 2 ^ 24) (ap nat_abs (both_below n k) ∙ size_signed true (n + k)) h) ∙ ap at (sym (both_below n k))
  sum_count false true n k h =
      difference n k (subst (λ (z : ℤ). nat_abs z < 2 ^ 24) (pos_less n k) h) (ltb n k) (ltb→lt n k) (nltb→le n k) refl ∙ ap at (sym (pos_less n k))
  sum_count true false n k h =
      ap (count_of (2 ^ d)) (turned n k (ltb n k) (ltb k n) (ltb→lt n k) (ltb→lt k n) (nltb→le n k) (nltb→le k n))
      ∙ difference k n (subst (λ (z : ℤ). nat_abs z < 2 ^ 24) (less_pos n k) h) (ltb k n) (ltb→lt k n) (nltb→le k n) refl
      ∙ ap at (sym (less_pos n k))

  -- the sum, where it has at most 24 digits
  pub add_count : (x y : Float) (a b : ℤ) → count_of (2 ^ d) x ≡ at a → count_of (2 ^ d) y ≡ at b → nat_abs (a +ℤ b) < 2 ^ 24 → count_of (2 ^ d) (add binary32 x y) ≡ at (a +ℤ b)
  add_count x y a b p q h =
      let v = count_value (2 ^ d) x a p in
      let w = count_value (2 ^ d) y b q in
      let e : a +ℤ b ≡ signed v.sign v.steps +ℤ signed w.sign w.steps = λ i. v.is i +ℤ w.is i in
      ap (count_of (2 ^ d)) (add_at x y v.sign w.sign v.steps w.steps (2 ^ d) (pow_pos d) v.value w.value)
      ∙ sum_count v.sign w.sign v.steps w.steps (subst (λ (z : ℤ). nat_abs z < 2 ^ 24) e h)
      ∙ ap at (sym e)

pub neg_count : (c : ℕ) (x : Float) (z : ℤ) → count_of c x ≡ at z → count_of c (neg x) ≡ at (neg_ℤ z)
neg_count c x z p =
    let v = count_value c x z p in
    value_count (neg x) (not v.sign) v.steps c (neg_at x v.sign v.steps c v.value) ∙ ap at (signed_not v.sign v.steps ∙ ap neg_ℤ (sym v.is))

pub sub_count : (d : ℕ) → d ≤ 149 → (x y : Float) (a b : ℤ) → count_of (2 ^ d) x ≡ at a → count_of (2 ^ d) y ≡ at b → nat_abs (a -ℤ b) < 2 ^ 24 → count_of (2 ^ d) (sub binary32 x y) ≡ at (a -ℤ b)
unfolding sub
sub_count d D x y a b p q h = add_count d D x (neg y) a (neg_ℤ b) p (neg_count (2 ^ d) y b q) h

-- ---- order
pub lt_count : (c : ℕ) → 0 < c → (x y : Float) (a b : ℤ) → count_of c x ≡ at a → count_of c y ≡ at b → lt x y ≡ lt_z a b
lt_count c h x y a b p q =
    let v = count_value c x a p in
    let w = count_value c y b q in
    lt_at x y v.sign w.sign v.steps w.steps c h v.value w.value ∙ below_signed v.sign w.sign v.steps w.steps ∙ λ i. lt_z (sym v.is i) (sym w.is i)

pub le_count : (c : ℕ) → 0 < c → (x y : Float) (a b : ℤ) → count_of c x ≡ at a → count_of c y ≡ at b → le x y ≡ le_z a b
le_count c h x y a b p q =
    let v = count_value c x a p in
    let w = count_value c y b q in
    le_at x y v.sign w.sign v.steps w.steps c h v.value w.value ∙ at_most_signed v.sign w.sign v.steps w.steps ∙ λ i. le_z (sym v.is i) (sym w.is i)

-- ---- the lower and the higher of two
pub pick_count : (c : ℕ) (t : Bool) (x y : Float) (a b : ℤ) → count_of c x ≡ at a → count_of c y ≡ at b → count_of c (cond t x y) ≡ at (cond t a b)
pick_count c true x y a b p q = p
pick_count c false x y a b p q = q
