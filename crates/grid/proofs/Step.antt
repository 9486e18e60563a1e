-- x + 393,216 - 393,216 is x exactly where x, within ±16,384, is a multiple of 1 / 32: from 2 ^ 18 to 2 ^ 19 an f32 has steps of 1 / 32. Assumes nothing.
use mathlib.Core.Path.{◌≡◌, refl, sym, ap, ◌∙◌, subst}
use Prim.Native.Nat.{ℕ, zero, suc, ◌+◌, ◌-◌, ◌*◌, ◌/◌, ◌^◌, ◌≤◌, ◌<◌}
use native.Mathlib.Nat.{mul-one, mul_right_comm, div-add-mod', add-zero, eq_of_mul-eq-mul_right, le_of_mul-le-mul_right, lt_of_le_of_lt}
use native.Mathlib.Omega.{arith}
use mathlib.Core.Bool.{Bool, true, false, ◌&&◌, cond, false≢true}
use lib.IntN.{ℤ, pos, negsuc, nat_abs, sub_ℕ, ◌+ℤ◌, ◌-ℤ◌, pos-ne-negsuc, +ℤ-neg_ℤ_cancel}
use lib.Dec.{T, ltb, ltb→lt, lit<, lit≤}
use lib.Ieee.{Float, nan, inf, fin, binary32, up, down, round, sum, add, sub, eq, level, le, fits}
use lib.Ieee.Fits.{down_pos, round-fits}
use lib.Ieee.Exact.{HasValue}
use lib.Ieee.Back.{round_whole}
use lib.Ieee.Order.{round_mono}
use lib.Ieee.Positive.{num, den, positive, own_value, values_of_le, between}
use borrow.Author.Tests.{eqb-true, eq-eqb, lt-ltb}
use Rattle.floats.specs.Count.{signed, at, count_of}
use Rattle.floats.proofs.Counts.{value_count, count_value, add_count, sub_count}
use Rattle.floats.proofs.Plain.{joined}
use Rattle.floats.proofs.Sign.{size_signed, size_add}
use Rattle.floats.proofs.Value.{add_at, eq_at}
use Rattle.grid.specs.Grid.{corner_refusal}
use Rattle.grid.proofs.Accepted.{within_count, count_within}
use Rattle.grid.proofs.Negative.{coarse}

-- 393,216, and the test of `on_step`
abbrev pub middle : Float
middle = fin false 3 (pos 17)

abbrev pub step_f : Float → Bool
step_f x = eq (sub binary32 (add binary32 x middle) middle) x

middle_value : (d : ℕ) → HasValue middle false (393216 * d) d
middle_value d = (refl, sym (mul-one (393216 * d)))

middle_count : count_of 32 middle ≡ at (pos 12582912)
unfolding count_of
middle_count = refl

-- ---- two floats that are level
level_signed : (s t : Bool) (n k : ℕ) → signed s n ≡ signed t k → level s n t k ≡ true
level_signed s t n k h = go s t n k h (sym (size_signed s n) ∙ ap nat_abs h ∙ size_signed t k)
  where
    go : (s t : Bool) (n k : ℕ) → signed s n ≡ signed t k → n ≡ k → level s n t k ≡ true
    go false false n k h e = rw (eq-eqb n k e)
    go true true n k h e = rw (eq-eqb n k e)
    go false true n zero h e = rw (eq-eqb n 0 e)
    go false true n (suc k) h e = absurd (pos-ne-negsuc n k h)
    go true false zero k h e = rw (eq-eqb 0 k e)
    go true false (suc n) k h e = absurd (pos-ne-negsuc k n (sym h))

-- of one count
level_count : (c : ℕ) → 0 < c → (x y : Float) (z : ℤ) → count_of c x ≡ at z → count_of c y ≡ at z → eq x y ≡ true
level_count c C x y z p q =
    let v = count_value c x z p in
    let w = count_value c y z q in
    eq_at x y v.sign w.sign v.steps w.steps c C v.value w.value ∙ level_signed v.sign w.sign v.steps w.steps (sym v.is ∙ w.is)

both_left : (t u : Bool) → (t && u) ≡ true → t ≡ true
both_left true u h = refl
both_left false u h = h

-- they have one size
level_value : (x y : Float) (s : Bool) (n c : ℕ) → HasValue x s n c → eq x y ≡ true → (t : Bool) × HasValue y t n c
unfolding eq
level_value nan y s n c v h = absurd v
level_value (inf u) y s n c v h = absurd v
level_value (fin u m e) nan s n c v h = absurd (false≢true h)
level_value (fin u m e) (inf t) s n c v h = absurd (false≢true h)
level_value (fin u m e) (fin t k d) s n c v h =
    let same : m * up e * down d ≡ k * up d * down e = eqb-true (m * up e * down d) (k * up d * down e) (both_left _ _ h) in (
      t,
      (
        refl,
        eq_of_mul-eq-mul_right (down e) (down_pos e) (k * up d * c) (n * down d)
            (mul_right_comm (k * up d) c (down e) ∙ ap (λ (x : ℕ). x * c) (sym same) ∙ mul_right_comm (m * up e) (down d) c ∙ ap (λ (x : ℕ). x * down d) v.1 ∙ mul_right_comm n (down e) (down d)),
      ),
    )

-- one float as two fractions
one_size : (x : Float) (s t : Bool) (a c b d : ℕ) → HasValue x s a c → HasValue x t b d → a * d ≡ b * c
one_size nan s t a c b d v w = absurd v
one_size (inf u) s t a c b d v w = absurd v
one_size (fin u m e) s t a c b d v w =
    eq_of_mul-eq-mul_right (down e) (down_pos e) (a * d) (b * c)
    (mul_right_comm a d (down e) ∙ ap (λ (x : ℕ). x * d) (sym v.1) ∙ mul_right_comm (m * up e) c d ∙ ap (λ (x : ℕ). x * c) w.1 ∙ mul_right_comm b (down e) c)

-- ---- from 393,216 - 16,384 to 393,216 + 16,384: a whole number of 1 / 32
record Steps (x : Float) : Type 0 where
  steps : ℕ
  value : HasValue x false steps 32

in_steps : (x : Float) → T (fits binary32 x) → T (positive x) → 376832 * den x ≤ num x * 1 → Steps x
in_steps nan f p h = absurd p
in_steps (inf s) f p h = absurd p
in_steps (fin true m e) f p h = absurd p
in_steps (fin false m e) f p h =
    let q = m * up e * 32 / down e in
    record {
      steps = q;
      value = (refl, sym (div-add-mod' (m * up e * 32) (down e)) ∙ ap (λ (r : ℕ). q * down e + r) (coarse false m e f (past (m * up e) (down e) (down_pos e) h)) ∙ add-zero (q * down e));
    }
  where
    past : (a d : ℕ) → 0 < d → 376832 * d ≤ a * 1 → 2 ^ 18 * d < a
    past a d p h = omega arith

positive_low : T (positive (round binary32 false 376832 1))
unfolding round
positive_low = tt

positive_high : T (positive (round binary32 false 409600 1))
unfolding round
positive_high = tt

small : (n k : ℕ) → n < 2 ^ 24 → k < 2 ^ 24 → nat_abs (sub_ℕ n k) < 2 ^ 24
small n k h l = go (ltb n k) (ltb→lt n k)
  where
    under : (n k : ℕ) → k < 2 ^ 24 → n < k → suc (k - suc n) < 2 ^ 24
    under n k l m = omega arith

    over : (n k : ℕ) → n < 2 ^ 24 → n - k < 2 ^ 24
    over n k h = omega arith

    go : (t : Bool) → (T t → n < k) → nat_abs (cond t (negsuc (k - suc n)) (pos (n - k))) < 2 ^ 24
    go true m = under n k l (m tt)
    go false m = over n k h

module _ (P D : ℕ) (p : 0 < D) (l : 376832 * D ≤ P) (h : P ≤ 409600 * D) where
  S : Float
  S = round binary32 false P D

  at_least : T (le (round binary32 false 376832 1) S)
  unfolding S
  at_least = round_mono binary32 376832 1 P D (lit< tt) p (omega arith)

  at_most : T (le S (round binary32 false 409600 1))
  unfolding S
  at_most = round_mono binary32 P D 409600 1 p (lit< tt) (omega arith)

  above : T (positive S)
  above = between (round binary32 false 376832 1) S (round binary32 false 409600 1) positive_low positive_high at_least at_most

  rounded : Steps S
  unfolding S
  rounded =
      in_steps S (round-fits binary32 false P D) above
      (values_of_le (round binary32 false 376832 1) S 376832 1 (num S) (den S) positive_low above (round_whole binary32 false 376832 (lit≤ tt)) (own_value S above) at_least)

  few : rounded.steps < 2 ^ 24
  few = omega (arith, values_of_le S (round binary32 false 409600 1) rounded.steps 32 409600 1 above positive_high rounded.value (round_whole binary32 false 409600 (lit≤ tt)) at_most)

  back_count : (z : ℤ) × (count_of 32 (sub binary32 (round binary32 false P D) middle) ≡ at z)
  unfolding S
  back_count = (
    pos rounded.steps -ℤ pos 12582912,
    sub_count 5 (lit≤ tt) S middle (pos rounded.steps) (pos 12582912) (value_count S false rounded.steps 32 rounded.value) middle_count (small rounded.steps 12582912 few (lit< tt)),
  )

-- ---- x is A / D, with the sign s
turned : (A B D : ℕ) → A < B → sum binary32 true A false B D ≡ round binary32 false (B - A) D
unfolding sum
turned A B D h = ap (λ (t : Bool). cond t (round binary32 false (B - A) D) (round binary32 (true && ltb B A) (A - B) D)) (lt-ltb A B h)

module _ (x : Float) (A D : ℕ) (p : 0 < D) (h : A ≤ 16384 * D) where
  sum_count : (s : Bool) → HasValue x s A D → (z : ℤ) × (count_of 32 (sub binary32 (add binary32 x middle) middle) ≡ at z)
  sum_count false v =
      subst (λ (y : Float). (z : ℤ) × (count_of 32 (sub binary32 y middle) ≡ at z))
      (sym (add_at x middle false false A (393216 * D) D p v (middle_value D) ∙ joined A (393216 * D) D))
      (back_count (A + 393216 * D) D p (omega arith) (omega arith))
  sum_count true v =
      subst (λ (y : Float). (z : ℤ) × (count_of 32 (sub binary32 y middle) ≡ at z))
      (sym (add_at x middle true false A (393216 * D) D p v (middle_value D) ∙ turned A (393216 * D) D (omega arith)))
      (back_count (393216 * D - A) D p (omega arith) (omega arith))

  pub step_taken : (s : Bool) → HasValue x s A D → step_f x ≡ true → corner_refusal x ≡ 0
  step_taken s v t =
      let b = sum_count s v in
      let y = sub binary32 (add binary32 x middle) middle in
      let w = count_value 32 y b.0 b.1 in
      let u = level_value y x w.sign w.steps 32 w.value t in
      let bound : w.steps ≤ 16384 * 32 = le_of_mul-le-mul_right (no_more w.steps (one_size x s u.0 A D w.steps 32 v u.1)) p in
      count_within 32 16384 x (signed u.0 w.steps) (value_count x u.0 w.steps 32 u.1) (subst (λ (n : ℕ). n ≤ 16384 * 32) (sym (size_signed u.0 w.steps)) bound)
    where
      no_more : (n : ℕ) → A * 32 ≡ n * D → n * D ≤ 16384 * 32 * D
      no_more n e = omega arith

-- ---- and back: what is on the grid is moved and moved back exactly
pub taken_step : (x : Float) → corner_refusal x ≡ 0 → step_f x ≡ true
taken_step x h =
    let n = within_count 32 16384 x h in
    let z = n.0 in
    let there = add_count 5 (lit≤ tt) x middle z (pos 12582912) n.1 middle_count (lt_of_le_of_lt (size_add z (pos 12582912)) (room (nat_abs z) n.2)) in
    let home : z +ℤ pos 12582912 -ℤ pos 12582912 ≡ z = +ℤ-neg_ℤ_cancel z (pos 12582912) in
    let again = sub_count 5 (lit≤ tt) (add binary32 x middle) middle (z +ℤ pos 12582912) (pos 12582912) there middle_count
    (subst (λ (y : ℤ). nat_abs y < 2 ^ 24) (sym home) (less (nat_abs z) n.2)) in
    level_count 32 (lit< tt) (sub binary32 (add binary32 x middle) middle) x z (again ∙ ap at home) n.1
  where
    room : (n : ℕ) → n ≤ 16384 * 32 → n + 12582912 < 2 ^ 24
    room n h = omega arith

    less : (n : ℕ) → n ≤ 16384 * 32 → n < 2 ^ 24
    less n h = omega arith
