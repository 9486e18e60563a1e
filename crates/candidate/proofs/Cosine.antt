-- The cosine: NaN off the grid; on it the part along the arrow divided by the length where that part is above zero, and below the bound of the cone where it is not.
-- Assumes nothing.
use mathlib.Core.Path.{◌≡◌, refl, sym, ap, ◌∙◌, subst}
use mathlib.Core.Logic.{inl, inr}
use Prim.Native.Nat.{ℕ, zero, suc, ◌+◌, ◌*◌, ◌^◌, ◌≤◌, ◌<◌}
use native.Mathlib.Nat.{eq-zero-or-pos, zero-mul, mul-pos, lt_irrefl, lt_of_lt_of_le, zero-lt-suc}
use native.Mathlib.Omega.{arith}
use mathlib.Core.Bool.{Bool, true, false, not, ◌&&◌, ◌||◌, cond, true≢false}
use lib.IntN.{ℤ, pos, nat_abs}
use lib.Dec.{T, ltb, eqb, lit<}
use lib.Ieee.{Float, nan, inf, fin, binary32, of_bits, round, add, mul, div, neg, le, unlike, fits, size}
use lib.Ieee.Fits.{div-fits}
use lib.Ieee.Exact.{HasValue}
use lib.Pow.{pow_pos}
use borrow.Author.Tests.{leb-true, leb-false, lt-leb, lt-ltb}
use Rattle.floats.specs.Count.{at, count_of}
use Rattle.floats.proofs.Value.{le_at, neg_at, mul_at, at_most}
use Rattle.floats.proofs.Counts.{count_value, sized}
use Rattle.floats.proofs.Held.{round_neg}
use Rattle.floats.proofs.Own.{round_zero, times_zero, plus_zero, zero_plus}
use Rattle.floats.proofs.Rounded.{Finite}
use Rattle.emath.specs.declared.Vec2.{Vec2}
use Rattle.vec2.specs.Length.{root_of, whole_nearest, digits_up, nearest_of, length_of}
use Rattle.vec2.specs.Vec2.{pick_vec, normalized_of, dot_of}
use Rattle.vec2.proofs.Laws.{rooted, length_value}
use Rattle.candidate.specs.Candidate as spec
use Rattle.candidate.specs.Candidate.{search_direction, along_of, acos_angle}
use Rattle.candidate.proofs.Arrow.{nil, part, turn, unit, Arrow, Still, arrow, dot_parts}
use Rattle.candidate.proofs.Bound.{bound, zero_under, negative_plus, plus_negative, zeros}
use Rattle.candidate.proofs.Quotient.{rooted_pos, quotient, quotient_finite}

-- ---- off the grid
nan_dot : (d : Vec2) → dot_of (record { x = nan; y = nan }) d ≡ nan
unfolding dot_of mul add
nan_dot d = refl

pub over_nan : (x : Float) → div binary32 x nan ≡ nan
unfolding div
over_nan nan = refl
over_nan (inf s) = refl
over_nan (fin s m e) = refl

nan_length : (v : Vec2) → length_of v ≡ nan → normalized_of v ≡ record { x = nan; y = nan }
unfolding normalized_of le
nan_length v h =
    (λ i. pick_vec (le (h i) spec.zero) v (record { x = div binary32 v.x (h i); y = div binary32 v.y (h i) })) ∙ (λ i. record { x = over_nan v.x i; y = over_nan v.y i })

pub no_cosine : (v : Vec2) (k : ℕ) → length_of v ≡ nan → acos_angle v k ≡ nan
unfolding acos_angle
no_cosine v k h = ap (λ (w : Vec2). dot_of w (search_direction k)) (nan_length v h) ∙ nan_dot (search_direction k)

-- ---- a part of the difference: p / 64 in size, its square at most n
pub record Part (n : ℕ) (x : Float) : Type 0 where
  pub sign : Bool
  pub steps : ℕ
  pub value : HasValue x sign steps 64
  pub within : steps * steps ≤ n

pub part_of : (n : ℕ) (x : Float) (z : ℤ) → count_of 64 x ≡ at z → nat_abs z * nat_abs z ≤ n → Part n x
part_of n x z p h =
    let v = count_value 64 x z p in
    record { sign = v.sign; steps = v.steps; value = v.value; within = subst (λ (m : ℕ). m * m ≤ n) (sized 64 x z v) h }

pub turned : (low : Bool) (n : ℕ) (x : Float) → Part n x → Part n (turn low x)
turned true n x p = record { sign = not p.sign; steps = p.steps; value = neg_at x p.sign p.steps 64 p.value; within = p.within }
turned false n x p = p

-- against zero
zero_value : HasValue spec.zero false 0 64
unfolding of_bits
zero_value = (refl, zero-mul 64)

at_most_zero : (x : Float) (s : Bool) (p : ℕ) → HasValue x s p 64 → le x spec.zero ≡ false → (s ≡ false) × (0 < p)
at_most_zero x true p v h = absurd (true≢false (sym (always p) ∙ sym (le_at x spec.zero true false p 0 64 (lit< tt) v zero_value) ∙ h))
  where
    always : (p : ℕ) → (ltb 0 (p + 0) || (eqb p 0 && (false || eqb p 0))) ≡ true
    always zero = refl
    always (suc p) = rw (lt-ltb 0 (suc p + 0) (omega arith))
at_most_zero x false p v h = (refl, omega (arith, leb-false p 0 (sym (at_most p 0) ∙ sym (le_at x spec.zero false false p 0 64 (lit< tt) v zero_value) ∙ h)))

pub above_zero : (x : Float) (p : ℕ) → HasValue x false p 64 → 0 < p → le x spec.zero ≡ false
above_zero x p v h = le_at x spec.zero false false p 0 64 (lit< tt) v zero_value ∙ at_most p 0 ∙ lt-leb p 0 h

past_zero : (x : Float) (p : ℕ) → HasValue x false p 64 → le x spec.zero ≡ true → p ≡ 0
past_zero x p v h = omega (arith, leb-true p 0 (sym (at_most p 0) ∙ sym (le_at x spec.zero false false p 0 64 (lit< tt) v zero_value) ∙ h))

-- ---- the parts of a vector, divided by its length L = nearest_of n
module _ (n : ℕ) (N : n < 2 ^ 48) (some : 0 < n) where
  abbrev L : Float
  L = nearest_of n

  long : le L spec.zero ≡ false
  unfolding of_bits
  long = le_at L nil false false (rooted n) 0 (64 * 2 ^ digits_up n) (mul-pos (lit< tt) (pow_pos (digits_up n))) (length_value n N) (refl, zero-mul (64 * 2 ^ digits_up n)) ∙ at_most (rooted n) 0 ∙ lt-leb (rooted n) 0 (rooted_pos n N some)

  turn_over : (low : Bool) (x : Float) → Part n x → turn low (div binary32 x L) ≡ div binary32 (turn low x) L
  turn_over false x p = refl
  turn_over true x p =
      ap neg (quotient n N some x p.sign p.steps p.value p.within) ∙ round_neg binary32 p.sign (p.steps * 2 ^ digits_up n) (rooted n)
      ∙ sym (quotient n N some (neg x) (not p.sign) p.steps (neg_at x p.sign p.steps 64 p.value) p.within)

  -- a zero from the other axis beside the part along the arrow
  module _ (x : Float) (p : Part n x) (z : Bool) where
    f : Finite p.sign (div binary32 x L)
    f = quotient_finite n N some x p.sign p.steps p.value p.within

    held : T (fits binary32 (fin p.sign f.digits f.exponent))
    held = subst (λ (y : Float). T (fits binary32 y)) f.is (div-fits binary32 x L)

    first : p.sign ≡ false → add binary32 (div binary32 x L) (fin z 0 (pos 0)) ≡ div binary32 x L
    first s =
        let e : div binary32 x L ≡ fin false f.digits f.exponent = f.is ∙ ap (λ (t : Bool). fin t f.digits f.exponent) s in
        ap (λ (y : Float). add binary32 y (fin z 0 (pos 0))) e ∙ plus_zero f.digits f.exponent (subst (λ (t : Bool). T (fits binary32 (fin t f.digits f.exponent))) s held) z ∙ sym e

    second : p.sign ≡ false → add binary32 (fin z 0 (pos 0)) (div binary32 x L) ≡ div binary32 x L
    second s =
        let e : div binary32 x L ≡ fin false f.digits f.exponent = f.is ∙ ap (λ (t : Bool). fin t f.digits f.exponent) s in
        ap (λ (y : Float). add binary32 (fin z 0 (pos 0)) y) e ∙ zero_plus f.digits f.exponent (subst (λ (t : Bool). T (fits binary32 (fin t f.digits f.exponent))) s held) z ∙ sym e

    first_under : p.sign ≡ true → le bound (add binary32 (div binary32 x L) (fin z 0 (pos 0))) ≡ false
    first_under s = (λ i. le bound (add binary32 ((f.is ∙ ap (λ (t : Bool). fin t f.digits f.exponent) s) i) (fin z 0 (pos 0)))) ∙ negative_plus f.digits f.exponent z

    second_under : p.sign ≡ true → le bound (add binary32 (fin z 0 (pos 0)) (div binary32 x L)) ≡ false
    second_under s = (λ i. le bound (add binary32 (fin z 0 (pos 0)) ((f.is ∙ ap (λ (t : Bool). fin t f.digits f.exponent) s) i))) ∙ plus_negative f.digits f.exponent z

  -- ---- the product with an arrow's direction
  module _ (v : Vec2) (X : Part n v.x) (Y : Part n v.y) where
    parts : (axis : Bool) → Part n (part axis v)
    parts true = Y
    parts false = X

    abbrev quotients : Vec2
    quotients = record { x = div binary32 v.x L; y = div binary32 v.y L }

    dot_arrow : (axis low : Bool)
        → dot_of quotients (unit axis low)
        ≡ cond axis (add binary32 (fin (unlike X.sign false) 0 (pos 0)) (div binary32 (turn low v.y) L)) (add binary32 (div binary32 (turn low v.x) L) (fin (unlike Y.sign false) 0 (pos 0)))
    dot_arrow axis low =
        let a = f v.x X false in
        let b = f v.y Y false in
        (λ i. dot_of (record { x = a.is i; y = b.is i }) (unit axis low))
        ∙ dot_parts axis low X.sign Y.sign a.digits b.digits a.exponent b.exponent (held v.x X false) (held v.y Y false)
        ∙ (λ i. cond axis (add binary32 (fin (unlike X.sign false) 0 (pos 0)) (turn low (sym b.is i))) (add binary32 (turn low (sym a.is i)) (fin (unlike Y.sign false) 0 (pos 0))))
        ∙ λ i. cond axis (add binary32 (fin (unlike X.sign false) 0 (pos 0)) (turn_over low v.y Y i)) (add binary32 (turn_over low v.x X i) (fin (unlike Y.sign false) 0 (pos 0)))

    dot_ahead : (axis low : Bool) (s : Part n (turn low (part axis v))) → s.sign ≡ false → dot_of quotients (unit axis low) ≡ div binary32 (turn low (part axis v)) L
    dot_ahead true low s h = dot_arrow true low ∙ second (turn low v.y) s (unlike X.sign false) h
    dot_ahead false low s h = dot_arrow false low ∙ first (turn low v.x) s (unlike Y.sign false) h

    dot_behind : (axis low : Bool) (s : Part n (turn low (part axis v))) → s.sign ≡ true → le bound (dot_of quotients (unit axis low)) ≡ false
    dot_behind true low s h = ap (le bound) (dot_arrow true low) ∙ second_under (turn low v.y) s (unlike X.sign false) h
    dot_behind false low s h = ap (le bound) (dot_arrow false low) ∙ first_under (turn low v.x) s (unlike Y.sign false) h

    -- no arrow: two zeros
    dot_still : le bound (dot_of quotients (record { x = nil; y = nil })) ≡ false
    unfolding dot_of
    dot_still =
        let a = f v.x X false in
        let b = f v.y Y false in
        ap (le bound) ((λ i. add binary32 (mul binary32 (a.is i) nil) (mul binary32 (b.is i) nil)) ∙ (λ i. add binary32 (times_zero X.sign a.digits a.exponent false i) (times_zero Y.sign b.digits b.exponent false i)))
        ∙ zeros (unlike X.sign false) (unlike Y.sign false)

-- ---- a difference of no length
no_steps : (p : ℕ) → p * p ≤ 0 → p ≡ 0
no_steps zero h = refl
no_steps (suc p) h = absurd (lt_irrefl 0 (lt_of_lt_of_le (mul-pos (zero-lt-suc p) (zero-lt-suc p)) h))

zero_times : (x : Float) (p : Part 0 x) (t : Bool) (j : ℕ) → mul binary32 x (fin t j (pos 0)) ≡ fin (unlike p.sign t) 0 (pos 0)
zero_times x p t j =
    mul_at x (fin t j (pos 0)) p.sign t p.steps 64 (j * 1) 1 (lit< tt) (lit< tt) p.value (refl, refl)
    ∙ ap (λ (a : ℕ). round binary32 (unlike p.sign t) a 64) (ap (λ (s : ℕ). s * (j * 1)) (no_steps p.steps p.within) ∙ zero-mul (j * 1))
    ∙ round_zero (unlike p.sign t) 64 (lit< tt)

zero_dot : (v : Vec2) → Part 0 v.x → Part 0 v.y → (k : ℕ) → le bound (dot_of v (search_direction k)) ≡ false
unfolding dot_of
zero_dot v X Y k = elim (arrow k) [ inl a ↦ ap (λ (d : Vec2). le bound (dot_of v d)) a.towards ∙ toward a.axis a.low | inr s ↦ ap (λ (d : Vec2). le bound (dot_of v d)) s.nowhere ∙ both false 0 false 0 ]
  where
    both : (t : Bool) (i : ℕ) (u : Bool) (j : ℕ) → le bound (add binary32 (mul binary32 v.x (fin t i (pos 0))) (mul binary32 v.y (fin u j (pos 0)))) ≡ false
    both t i u j = (λ l. le bound (add binary32 (zero_times v.x X t i l) (zero_times v.y Y u j l))) ∙ zeros (unlike X.sign t) (unlike Y.sign u)

    toward : (axis low : Bool) → le bound (dot_of v (unit axis low)) ≡ false
    toward true low = both false 0 low 1
    toward false low = both low 1 false 0

short : le (nearest_of 0) spec.zero ≡ true
unfolding nearest_of whole_nearest root_of round size of_bits le
short = refl

nil_level : le nil spec.zero ≡ true
unfolding of_bits le
nil_level = refl

-- ---- every direction
pub record Ahead (n : ℕ) (v : Vec2) (k : ℕ) : Type 0 where
  pub steps : ℕ
  pub value : HasValue (along_of v k) false steps 64
  pub some : 0 < steps
  pub within : steps * steps ≤ n
  pub cosine : acos_angle v k ≡ div binary32 (along_of v k) (nearest_of n)

module _ (n : ℕ) (N : n < 2 ^ 48) (v : Vec2) (X : Part n v.x) (Y : Part n v.y) (l : length_of v ≡ nearest_of n) where
  direct : (some : 0 < n) (d : Vec2) → dot_of (normalized_of v) d ≡ dot_of (quotients n N some v X Y) d
  unfolding normalized_of
  direct some d =
      (λ i. dot_of (pick_vec (le (l i) spec.zero) v (record { x = div binary32 v.x (l i); y = div binary32 v.y (l i) })) d)
      ∙ (λ i. dot_of (pick_vec (long n N some i) v (record { x = div binary32 v.x (nearest_of n); y = div binary32 v.y (nearest_of n) })) d)

  module _ (k : ℕ) where
    arrow_cosine : (a : Arrow k) (some : 0 < n) → acos_angle v k ≡ dot_of (quotients n N some v X Y) (unit a.axis a.low)
    unfolding acos_angle
    arrow_cosine a some = direct some (search_direction k) ∙ ap (dot_of (quotients n N some v X Y)) a.towards

    still_cosine : Still k → (some : 0 < n) → acos_angle v k ≡ dot_of (quotients n N some v X Y) (record { x = nil; y = nil })
    unfolding acos_angle
    still_cosine s some = direct some (search_direction k) ∙ ap (dot_of (quotients n N some v X Y)) s.nowhere

    at_rest : n ≡ 0 → acos_angle v k ≡ dot_of v (search_direction k)
    unfolding acos_angle normalized_of
    at_rest z =
        (λ i. dot_of (pick_vec (le ((l ∙ ap nearest_of z) i) spec.zero) v (record { x = div binary32 v.x (length_of v); y = div binary32 v.y (length_of v) })) (search_direction k))
        ∙ (λ i. dot_of (pick_vec (short i) v (record { x = div binary32 v.x (length_of v); y = div binary32 v.y (length_of v) })) (search_direction k))

    part_along : (a : Arrow k) → Part n (turn a.low (part a.axis v))
    part_along a = turned a.low n (part a.axis v) (pick_part a.axis)
      where
        pick_part : (axis : Bool) → Part n (part axis v)
        pick_part true = Y
        pick_part false = X

    -- a part along the arrow that is above zero
    pub ahead : le (along_of v k) spec.zero ≡ false → Ahead n v k
    ahead h = elim (arrow k) [ inl a ↦ found a | inr s ↦ absurd (true≢false (sym (level s) ∙ h)) ]
      where
        level : Still k → le (along_of v k) spec.zero ≡ true
        level s = ap (λ (x : Float). le x spec.zero) (s.level v) ∙ nil_level

        found : (a : Arrow k) → Ahead n v k
        found a =
            let p = part_along a in
            let e = at_most_zero (turn a.low (part a.axis v)) p.sign p.steps p.value (ap (λ (x : Float). le x spec.zero) (sym (a.ahead v)) ∙ h) in
            let some = lt_of_lt_of_le (mul-pos e.1 e.1) p.within in
            record {
              steps = p.steps;
              value = subst (λ (x : Float). HasValue x false p.steps 64) (sym (a.ahead v)) (subst (λ (s : Bool). HasValue (turn a.low (part a.axis v)) s p.steps 64) e.0 p.value);
              some = e.1;
              within = p.within;
              cosine = arrow_cosine a some ∙ dot_ahead n N some v X Y a.axis a.low p e.0 ∙ ap (λ (x : Float). div binary32 x (nearest_of n)) (sym (a.ahead v));
            }

    -- one that is not: outside the cone
    pub behind : le (along_of v k) spec.zero ≡ true → le bound (acos_angle v k) ≡ false
    behind h = elim (eq-zero-or-pos n) [ inl z ↦ nowhere z | inr some ↦ elim (arrow k) [ inl a ↦ back a some | inr s ↦ still s some ] ]
      where
        nowhere : n ≡ 0 → le bound (acos_angle v k) ≡ false
        nowhere z = ap (le bound) (at_rest z) ∙ zero_dot v (subst (λ (m : ℕ). Part m v.x) z X) (subst (λ (m : ℕ). Part m v.y) z Y) k

        back : Arrow k → 0 < n → le bound (acos_angle v k) ≡ false
        back a some = ap (le bound) (arrow_cosine a some) ∙ by_sign (part_along a).sign refl
          where
            by_sign : (s : Bool) → (part_along a).sign ≡ s → le bound (dot_of (quotients n N some v X Y) (unit a.axis a.low)) ≡ false
            by_sign true e = dot_behind n N some v X Y a.axis a.low (part_along a) e
            by_sign false e =
                let x = turn a.low (part a.axis v) in
                let p = part_along a in
                let value : HasValue x false p.steps 64 = subst (λ (s : Bool). HasValue x s p.steps 64) e p.value in
                let none : p.steps ≡ 0 = past_zero x p.steps value (ap (λ (y : Float). le y spec.zero) (sym (a.ahead v)) ∙ h) in
                ap (le bound) (dot_ahead n N some v X Y a.axis a.low p e
                ∙ quotient n N some x false p.steps value p.within
                ∙ ap (λ (m : ℕ). round binary32 false m (rooted n)) (ap (λ (m : ℕ). m * 2 ^ digits_up n) none ∙ zero-mul (2 ^ digits_up n))
                ∙ round_zero false (rooted n) (rooted_pos n N some))
                ∙ zero_under false

        still : Still k → 0 < n → le bound (acos_angle v k) ≡ false
        still s some = ap (le bound) (still_cosine s some) ∙ dot_still n N some v X Y
