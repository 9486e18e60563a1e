-- What the code may skip: a candidate that is not ahead or far to a side is outside the cone, and a score is no less than either part of the difference.
-- Assumes nothing.
use mathlib.Core.Path.{◌≡◌, refl, sym, ap, ◌∙◌, subst}
use mathlib.Core.Logic.{inl, inr}
use Prim.Native.Nat.{ℕ, zero, suc, ◌+◌, ◌*◌, ◌^◌, ◌≤◌, ◌<◌, zero-le}
use native.Mathlib.Nat.{lt_of_lt_of_le, lt_of_not-le, mul-le-mul, zero-mul, mul-pos, mul_comm, mul_assoc, zero-lt-suc, lt_irrefl}
use native.Mathlib.Omega.{arith}
use mathlib.Core.Bool.{Bool, true, false, ◌||◌, cond, false≢true, true≢false}
use lib.IntN.{ℤ, pos, nat_abs}
use lib.Dec.{T, ltb, lit<, lit≤}
use lib.Pow.{pow_pos}
use lib.Ieee.{Float, nan, inf, fin, binary32, of_bits, up, down, round, mul, div, neg, lt, le, below}
use lib.Ieee.Fits.{up_pos, down_pos}
use lib.Ieee.Exact.{HasValue}
use borrow.Author.Tests.{le-ltb, lt-ltb}
use Rattle.refusal.specs.Refusal.{none}
use Rattle.floats.specs.Count.{at, count_of}
use Rattle.floats.proofs.Value.{lt_at, mul_at, rescaled, exact}
use Rattle.floats.proofs.Order.{plain, not_below}
use Rattle.floats.proofs.Rounded.{plain_round, lt_through}
use Rattle.emath.specs.declared.Vec2.{Vec2}
use Rattle.grid.specs.Grid.{magnitude_of, pivot_pos_refusal}
use Rattle.vec2.specs.Length.{digits_up, nearest_of, length_of}
use Rattle.vec2.proofs.Laws.{OnGrid, on_grid_lem, off_grid_lem, grid_or_not, rooted, nearest_is, length_value}
use Rattle.std.specs.Prelude.{None, Some}
use Rattle.std.specs.Bool.{then_some}
use Rattle.candidate.specs.Candidate as spec
use Rattle.candidate.specs.Candidate.{along_of, acos_angle, cone_bound, is_in_search_cone, score_of, verdict, judge_of, is_farther}
use Rattle.candidate.proofs.Bound.{bound, bound_is}
use Rattle.candidate.proofs.Quotient.{squares_below, up_to, quotient}
use Rattle.candidate.proofs.Cosine.{over_nan, no_cosine, above_zero, Part, part_of, Ahead, ahead, behind}
use Rattle.candidate.proofs.Score.{beside, score_plain, score_finite, score_long}

-- ---- a vector on the grid
module _ (v : Vec2) (g : OnGrid v) where
  abbrev pub n : ℕ
  n = nat_abs g.a * nat_abs g.a + nat_abs g.b * nat_abs g.b

  n_small : n < 2 ^ 44
  n_small = squares_below (nat_abs g.a) (nat_abs g.b) g.a_most g.b_most

  pub n_below : n < 2 ^ 48
  n_below = lt_of_lt_of_le n_small (lit≤ tt)

  pub part_x : Part n v.x
  part_x = part_of n v.x g.a g.across (omega arith)

  pub part_y : Part n v.y
  part_y = part_of n v.y g.b g.along (omega arith)

  pub length_is : length_of v ≡ nearest_of n
  length_is = on_grid_lem v g.a g.b g.across g.along g.a_most g.b_most

-- ---- in the cone
pub record Inside (v : Vec2) (k : ℕ) : Type 0 where
  pub grid : OnGrid v
  pub front : Ahead (n v grid) v k
  pub cosine : acos_angle v k ≡ round binary32 false (front.steps * 2 ^ digits_up (n v grid)) (rooted (n v grid))
  pub reached : T (le bound (round binary32 false (front.steps * 2 ^ digits_up (n v grid)) (rooted (n v grid))))

cone_test : (v : Vec2) (k : ℕ) → is_in_search_cone v k ≡ le cone_bound (acos_angle v k)
unfolding is_in_search_cone
cone_test v k = refl

no_bound : le cone_bound nan ≡ false
unfolding le of_bits
no_bound = refl

pub inside : (v : Vec2) (k : ℕ) → is_in_search_cone v k ≡ true → Inside v k
unfolding is_in_search_cone
inside v k h = elim (grid_or_not v) [ inl g ↦ at_grid g (le (along_of v k) spec.zero) refl | inr o ↦ absurd (false≢true (sym (ap (le cone_bound) (no_cosine v k (off_grid_lem v o)) ∙ no_bound) ∙ h)) ]
  where
    reaches : le bound (acos_angle v k) ≡ true
    reaches = ap (λ (x : Float). le x (acos_angle v k)) (sym bound_is) ∙ h

    at_grid : (g : OnGrid v) (t : Bool) → le (along_of v k) spec.zero ≡ t → Inside v k
    at_grid g true e = absurd (false≢true (sym (behind (n v g) (n_below v g) v (part_x v g) (part_y v g) (length_is v g) k e) ∙ reaches))
    at_grid g false e =
        let f = ahead (n v g) (n_below v g) v (part_x v g) (part_y v g) (length_is v g) k e in
        let c = f.cosine ∙ quotient (n v g) (n_below v g) (lt_of_lt_of_le (mul-pos f.some f.some) f.within) (along_of v k) false f.steps f.value f.within in
        record { grid = g; front = f; cosine = c; reached = subst T (sym (ap (le bound) (sym c) ∙ reaches)) tt }

-- ---- the size of a part, -0.0 taken for +0.0
right_zero : (l : Float) (e : ℤ) → lt l (fin true 0 e) ≡ lt l (fin false 0 e)
unfolding lt
right_zero nan e = refl
right_zero (inf s) e = refl
right_zero (fin s m d) e = go s (m * up d * down e) (zero * up e * down d) (ap (λ (x : ℕ). x * down d) (zero-mul (up e)) ∙ zero-mul (down d))
  where
    go : (s : Bool) (a z : ℕ) → z ≡ 0 → below s a true z ≡ below s a false z
    go true a z h = ap (λ (x : ℕ). ltb x a) h ∙ ap (λ (x : ℕ). ltb 0 x) (same a z h)
      where
        same : (a z : ℕ) → z ≡ 0 → a ≡ a + z
        same a z h = omega arith
    go false a z h = sym (le-ltb a z (small a z h))
      where
        small : (a z : ℕ) → z ≡ 0 → z ≤ a
        small a z h = omega arith

turn : (m : ℕ) (e : ℤ) → neg (fin true m e) ≡ fin false m e
unfolding neg
turn m e = refl

pub record Size (x : Float) (p : ℕ) : Type 0 where
  pub y : Float
  pub plainly : T (plain y)
  pub value : HasValue y false p 64
  pub same : (l : Float) → lt l (magnitude_of x) ≡ lt l y

zero_value : (c : ℕ) → HasValue spec.zero false 0 c
unfolding of_bits
zero_value c = (refl, zero-mul c)

pub size_of : (x : Float) (s : Bool) (p : ℕ) → HasValue x s p 64 → Size x p
size_of nan s p v = absurd v
size_of (inf u) s p v = absurd v
size_of (fin false m e) s p v =
    record { y = fin false m e; plainly = tt; value = (refl, v.1); same = λ l. ap (λ (b : Bool). lt l (cond b (neg (fin false m e)) (fin false m e))) (upright m e) }
  where
    upright : (m : ℕ) (e : ℤ) → lt (fin false m e) spec.zero ≡ false
    upright m e = lt_at (fin false m e) spec.zero false false (m * up e) 0 (down e) (down_pos e) (refl, refl) (zero_value (down e)) ∙ le-ltb (m * up e) 0 zero-le
size_of (fin true zero e) s p v =
    record { y = fin false 0 e; plainly = tt; value = (refl, v.1); same = λ l. ap (λ (b : Bool). lt l (cond b (neg (fin true 0 e)) (fin true 0 e))) level ∙ right_zero l e }
  where
    level : lt (fin true 0 e) spec.zero ≡ false
    level = lt_at (fin true 0 e) spec.zero true false 0 0 (down e) (down_pos e) (refl, ap (λ (x : ℕ). x * down e) (zero-mul (up e))) (zero_value (down e))
size_of (fin true (suc m) e) s p v =
    record { y = fin false (suc m) e; plainly = tt; value = (refl, v.1); same = λ l. ap (λ (b : Bool). lt l (cond b (neg (fin true (suc m) e)) (fin true (suc m) e))) under ∙ ap (lt l) (turn (suc m) e) }
  where
    under : lt (fin true (suc m) e) spec.zero ≡ true
    under = lt_at (fin true (suc m) e) spec.zero true false (suc m * up e) 0 (down e) (down_pos e) (refl, refl) (zero_value (down e)) ∙ lt-ltb 0 (suc m * up e + 0) (more (suc m * up e) (mul-pos (zero-lt-suc m) (up_pos e)))
      where
        more : (x : ℕ) → 0 < x → 0 < x + 0
        more x h = omega arith

two_is : of_bits binary32 0x4000_0000 ≡ fin false 1 (pos 1)
unfolding of_bits
two_is = refl

-- ---- what a candidate in the cone meets
module _ (v : Vec2) (k : ℕ) (i : Inside v k) where
  some : 0 < n v i.grid
  some = lt_of_lt_of_le (mul-pos i.front.some i.front.some) i.front.within

  -- twice the part ahead is as many steps
  doubled : HasValue (mul binary32 (of_bits binary32 0x4000_0000) (along_of v k)) false (2 * i.front.steps) 64
  doubled =
      subst (λ (x : Float). HasValue x false (2 * i.front.steps) 64)
      (sym (ap (λ (x : Float). mul binary32 x (along_of v k)) two_is ∙ mul_at (fin false 1 (pos 1)) (along_of v k) false false 2 1 i.front.steps 64 (lit< tt) (lit< tt) (refl, refl) i.front.value))
      (exact false (2 * i.front.steps) 6 (lit≤ tt) (short i.front.steps (n v i.grid) i.front.within (n_small v i.grid)))
    where
      short : (p n : ℕ) → p * p ≤ n → n < 2 ^ 44 → 2 * p < 2 ^ 24
      short p n h l = twice (lt_of_not-le (λ (g : 2 ^ 22 ≤ p). clash (mul-le-mul g g)))
        where
          clash : 2 ^ 22 * 2 ^ 22 ≤ p * p → ⊥
          clash g = omega arith

          twice : p < 2 ^ 22 → 2 * p < 2 ^ 24
          twice h = omega arith

  module _ (x : Float) (part : Part (n v i.grid) x) where
    size : Size x part.steps
    size = size_of x part.sign part.steps part.value

    -- at most twice the part ahead
    not_far : lt (mul binary32 (of_bits binary32 0x4000_0000) (along_of v k)) (magnitude_of x) ≡ false
    not_far =
        size.same (mul binary32 (of_bits binary32 0x4000_0000) (along_of v k))
        ∙ lt_at (mul binary32 (of_bits binary32 0x4000_0000) (along_of v k)) size.y false false (2 * i.front.steps) part.steps 64 (lit< tt) doubled size.value
        ∙ le-ltb (2 * i.front.steps) part.steps (beside (n v i.grid) (n_below v i.grid) some i.front.steps i.front.within i.reached i.front.some part.steps part.within)

    -- at most the length, and so at most the score
    in_length : lt (nearest_of (n v i.grid)) size.y ≡ false
    in_length =
        let N = n v i.grid in
        let t = digits_up N in
        lt_at (nearest_of N) size.y false false (rooted N) (part.steps * 2 ^ t) (64 * 2 ^ t) (mul-pos (lit< tt) (pow_pos t)) (length_value N (n_below v i.grid))
        (rescaled size.y false part.steps 64 (part.steps * 2 ^ t) (64 * 2 ^ t) (lit< tt) (fine part.steps (2 ^ t)) size.value)
        ∙ le-ltb (rooted N) (part.steps * 2 ^ t) (up_to N (n_below v i.grid) part.steps part.within)
      where
        fine : (x u : ℕ) → x * u * 64 ≡ x * (64 * u)
        fine x u = mul_assoc x u 64 ∙ ap (λ (y : ℕ). x * y) (mul_comm u 64)

    past : (limit s : Float) → T (plain s) → lt s (nearest_of (n v i.grid)) ≡ false → lt limit (magnitude_of x) ≡ true → lt limit s ≡ true
    past limit s q h l =
        lt_through limit size.y s size.plainly q (sym (size.same limit) ∙ l) (not_below s (nearest_of (n v i.grid)) size.y q length_plain size.plainly h in_length)
      where
        length_plain : T (plain (nearest_of (n v i.grid)))
        length_plain = subst (λ (y : Float). T (plain y)) (sym (nearest_is (n v i.grid))) (plain_round _ _)

  abbrev cosine : Float
  cosine = round binary32 false (i.front.steps * 2 ^ digits_up (n v i.grid)) (rooted (n v i.grid))

  score_is : score_of v k ≡ div binary32 (nearest_of (n v i.grid)) (mul binary32 cosine cosine)
  unfolding score_of
  score_is = λ j. div binary32 (length_is v i.grid j) (mul binary32 (i.cosine j) (i.cosine j))

  plain_score : T (plain (score_of v k))
  plain_score = subst (λ (x : Float). T (plain x)) (sym score_is) (score_plain (n v i.grid) (n_below v i.grid) some i.front.steps i.front.within i.reached)

  finite_score : lt (score_of v k) (inf false) ≡ true
  finite_score = ap (λ (x : Float). lt x (inf false)) score_is ∙ score_finite (n v i.grid) (n_below v i.grid) some i.front.steps i.front.within i.reached

  long_score : lt (score_of v k) (nearest_of (n v i.grid)) ≡ false
  long_score = ap (λ (x : Float). lt x (nearest_of (n v i.grid))) score_is ∙ score_long (n v i.grid) (n_below v i.grid) some i.front.steps i.front.within i.reached

  -- a part past a limit
  far_score : (limit : Float) → is_farther v limit ≡ true → lt limit (score_of v k) ≡ true
  unfolding is_farther
  far_score limit h = either (lt limit (magnitude_of v.x)) (lt limit (magnitude_of v.y)) h (λ e. past v.x (part_x v i.grid) limit (score_of v k) plain_score long_score e) (λ e. past v.y (part_y v i.grid) limit (score_of v k) plain_score long_score e)
    where
      either : (a b : Bool) → (a || b) ≡ true → (a ≡ true → lt limit (score_of v k) ≡ true) → (b ≡ true → lt limit (score_of v k) ≡ true) → lt limit (score_of v k) ≡ true
      either true b h f g = f refl
      either false b h f g = g h

  near : is_farther v (mul binary32 (of_bits binary32 0x4000_0000) (along_of v k)) ≡ false
  unfolding is_farther
  near = λ j. not_far v.x (part_x v i.grid) j || not_far v.y (part_y v i.grid) j

-- ---- the laws that the code and the search lean on
scored : (t : Bool) (x s : Float) → verdict t x ≡ Some s → (t ≡ true) × (x ≡ s)
scored true x s e = (refl, same e)
  where
    same : Some x ≡ Some s → x ≡ s
    same e = cc
scored false x s e = absurd (never e)
  where
    never : None ≡ Some s → ⊥
    never e = let k : ◌≡◌ {A = ℕ} 0 1 = cc in omega arith

taken : (v : Vec2) (k : ℕ) (s : Float) → judge_of v k ≡ Some s → (is_in_search_cone v k ≡ true) × (score_of v k ≡ s)
unfolding judge_of
taken v k s e = scored (is_in_search_cone v k) (score_of v k) s e

-- a score is no NaN and not below zero
pub scored_plain : (v : Vec2) (k : ℕ) (s : Float) → judge_of v k ≡ Some s → T (plain s)
scored_plain v k s e = let t = taken v k s e in subst (λ (x : Float). T (plain x)) t.1 (plain_score v k (inside v k t.0))

-- and below infinity
pub scored_finite : (v : Vec2) (k : ℕ) (s : Float) → judge_of v k ≡ Some s → lt s (inf false) ≡ true
scored_finite v k s e = let t = taken v k s e in ap (λ (x : Float). lt x (inf false)) (sym t.1) ∙ finite_score v k (inside v k t.0)

-- where a part of the difference is past a limit, so is the score
pub farther_loses : (v : Vec2) (k : ℕ) (s limit : Float) → judge_of v k ≡ Some s → is_farther v limit ≡ true → lt limit s ≡ true
farther_loses v k s limit e h = let t = taken v k s e in ap (lt limit) (sym t.1) ∙ far_score v k (inside v k t.0) limit h

-- not in the cone unless something follows
not_inside : (v : Vec2) (k : ℕ) → (Inside v k → ⊥) → is_in_search_cone v k ≡ false
not_inside v k h = go (is_in_search_cone v k) (inside v k)
  where
    go : (t : Bool) → (t ≡ true → Inside v k) → t ≡ false
    go true f = absurd (h (f refl))
    go false f = refl

outside : (v : Vec2) (k : ℕ) → is_in_search_cone v k ≡ false → None ≡ judge_of v k
unfolding judge_of
outside v k h = ap (λ (t : Bool). verdict t (score_of v k)) (sym h)

-- ---- `judge`, return by return: a is the part ahead, l the length
module _ (v : Vec2) (k : ℕ) (a : Float) (A : a ≡ along_of v k) where
  pub not_ahead : le a spec.zero ≡ true → None ≡ judge_of v k
  not_ahead h = outside v k (not_inside v k (λ i. true≢false (sym (ap (λ (x : Float). le x spec.zero) (sym A) ∙ h) ∙ above_zero (along_of v k) i.front.steps i.front.value i.front.some)))

  pub aside : (t : Bool) → t ≡ is_farther v (mul binary32 (of_bits binary32 0x4000_0000) a) → t ≡ true → None ≡ judge_of v k
  aside t T h = outside v k (not_inside v k (λ i. false≢true (sym (near v k i) ∙ ap (λ (x : Float). is_farther v (mul binary32 (of_bits binary32 0x4000_0000) x)) (sym A) ∙ sym T ∙ h)))

  module _ (h : le a spec.zero ≡ false) (l : Float) (L : l ≡ length_of v) where
    cosine_is : acos_angle v k ≡ div binary32 a l
    cosine_is = elim (grid_or_not v) [
      | inl g ↦ (ahead (n v g) (n_below v g) v (part_x v g) (part_y v g) (length_is v g) k (ap (λ (x : Float). le x spec.zero) (sym A) ∙ h)).cosine ∙ λ i. div binary32 (sym A i) ((sym (length_is v g) ∙ sym L) i)
      | inr o ↦ no_cosine v k (off_grid_lem v o) ∙ sym (ap (div binary32 a) (L ∙ off_grid_lem v o) ∙ over_nan a)
    ]

    in_cone_lem : le cone_bound (div binary32 a l) ≡ true → Some (div binary32 l (mul binary32 (div binary32 a l) (div binary32 a l))) ≡ judge_of v k
    unfolding judge_of is_in_search_cone score_of
    in_cone_lem t =
        (λ i. Some (div binary32 (L i) (mul binary32 (sym cosine_is i) (sym cosine_is i))))
        ∙ ap (λ (b : Bool). verdict b (score_of v k)) (sym (ap (le cone_bound) cosine_is ∙ t))

    out_of_cone : le cone_bound (div binary32 a l) ≡ false → None ≡ judge_of v k
    out_of_cone t = outside v k (test t)
      where
        test : le cone_bound (div binary32 a l) ≡ false → is_in_search_cone v k ≡ false
        test t = cone_test v k ∙ ap (le cone_bound) cosine_is ∙ t

    pub by_cone : then_some (le cone_bound (div binary32 a l)) (div binary32 l (mul binary32 (div binary32 a l) (div binary32 a l))) ≡ judge_of v k
    by_cone = go (le cone_bound (div binary32 a l)) refl
      where
        go : (t : Bool) → le cone_bound (div binary32 a l) ≡ t → then_some t (div binary32 l (mul binary32 (div binary32 a l) (div binary32 a l))) ≡ judge_of v k
        go true t = in_cone_lem t
        go false t = out_of_cone t

-- ---- in no cone
pub zero_outside : (v : Vec2) (k : ℕ) → count_of 64 v.x ≡ at (pos 0) → count_of 64 v.y ≡ at (pos 0) → is_in_search_cone v k ≡ false
zero_outside v k p q = not_inside v k (λ i. clash (nat_abs i.grid.a) (nat_abs i.grid.b) (ap nat_abs (at_is (sym i.grid.across ∙ p))) (ap nat_abs (at_is (sym i.grid.along ∙ q))) (some v k i))
  where
    at_is : {a b : ℤ} → at a ≡ at b → a ≡ b
    at_is e = cc

    clash : (a b : ℕ) → a ≡ 0 → b ≡ 0 → 0 < a * a + b * b → ⊥
    clash a b x y h = lt_irrefl 0 (subst (λ (c : ℕ). 0 < c) (λ i. x i * x i + y i * y i) h)

pub off_outside : (v : Vec2) (k : ℕ) → (pivot_pos_refusal v.x v.y ≡ none → ⊥) → is_in_search_cone v k ≡ false
off_outside v k h = cone_test v k ∙ ap (le cone_bound) (no_cosine v k (off_grid_lem v h)) ∙ no_bound
