-- What lies in the cone: how far to the side it can be, and that its score is no less than its length, and finite. Assumes nothing.
use mathlib.Core.Path.{◌≡◌, refl, sym, ap, ◌∙◌, subst}
use Prim.Native.Nat.{ℕ, suc, ◌+◌, ◌*◌, ◌^◌, ◌≤◌, ◌<◌}
use native.Mathlib.Nat.{le_refl, le_trans, le_of_eq, le_of_lt, lt_of_not-le, le_of_suc-le-suc, le_of_mul-le-mul_right, mul-one, one-mul, mul_assoc, mul_right_comm, mul-le-mul, mul-le-mul_right, mul-pos}
use native.Mathlib.Omega.{arith}
use mathlib.Core.Bool.{true, false, true≢false}
use lib.IntN.{ℤ, pos, negsuc}
use lib.Dec.{T, ltb→lt, lit<}
use lib.Pow.{pow_pos}
use lib.Ieee.{Float, nan, inf, fin, binary32, up, down, round, mul, div, lt, le}
use lib.Ieee.Fits.{up_pos, down_pos}
use lib.Ieee.Exact.{HasValue}
use lib.Ieee.Order.{round_mono}
use lib.Ieee.Positive.{positive, above, above_of_le, values_of_le}
use borrow.Author.Tests.{ltb-false}
use Rattle.floats.proofs.Value.{mul_at, div_at}
use Rattle.floats.proofs.Order.{plain}
use Rattle.floats.proofs.Rounded.{Finite, plain_round, at_most_one, finite_round, round_not_above}
use Rattle.vec2.specs.Length.{digits_up, nearest_of}
use Rattle.vec2.proofs.Digits.{four}
use Rattle.vec2.proofs.Laws.{scaled, rooted, rooted_near, rooted_most, rooted_least, nearest_is, length_value}
use Rattle.candidate.proofs.Bound.{bound, reached}
use Rattle.candidate.proofs.Quotient.{up_to, rooted_pos}

-- ---- how wide the cone is: X = p * 2 ^ t is the part ahead and S = n * 4 ^ t the sum of the squares, both scaled, q the root of S
narrow : (q X S : ℕ) → 23726565 * q * (23726565 * q) ≤ X * 2 ^ 25 * (X * 2 ^ 25) → 8388608 * q ≤ q * q → S ≤ q * q + q → S * 1048575 ≤ 2 * (X * X) * 1048576
narrow q X S a b c = omega arith

-- a finite number that 1 is not below
below : (m : ℕ) (e : ℤ) → lt (fin false 1 (pos 0)) (fin false m e) ≡ false → m * up e ≤ down e
unfolding lt
below m e h = flat (m * up e) (down e) (ltb-false (1 * 1 * down e) (m * up e * 1) h)
  where
    flat : (x y : ℕ) → x * 1 ≤ 1 * 1 * y → x ≤ y
    flat x y h = omega arith

quarter : round binary32 false 1 4 ≡ fin false 1 (negsuc 1)
unfolding round
quarter = refl

most : round binary32 false (2 ^ 24) 1 ≡ fin false 1 (pos 24)
unfolding round
most = refl

-- what a finite number is not below is no infinity
below_infinity : (m : ℕ) (e : ℤ) (x : Float) → T (plain x) → lt (fin false m e) x ≡ false → lt x (inf false) ≡ true
unfolding lt
below_infinity m e nan p h = absurd p
below_infinity m e (inf true) p h = absurd p
below_infinity m e (inf false) p h = absurd (true≢false h)
below_infinity m e (fin s n d) p h = refl

bound_value : HasValue bound false 11863283 (2 ^ 24)
bound_value = (refl, refl)

digits_above : (m : ℕ) (e : ℤ) → T (above (fin false m e)) → 0 < m * up e
digits_above m e h = mul-pos (ltb→lt 0 m h) (up_pos e)

module _ (n : ℕ) (N : n < 2 ^ 48) (some : 0 < n) (p : ℕ) (within : p * p ≤ n) (inside : T (le bound (round binary32 false (p * 2 ^ digits_up n) (rooted n)))) where
  abbrev t : ℕ
  t = digits_up n

  abbrev q : ℕ
  q = rooted n

  q_pos : 0 < q
  q_pos = rooted_pos n N some

  pub not_wide : n * 1048575 ≤ 2 * p * p * 1048576
  not_wide =
      let k = le_of_lt (reached (p * 2 ^ t) q q_pos inside) in
      le_of_mul-le-mul_right
      (le_trans (le_of_eq (mul_right_comm n 1048575 (4 ^ t)))
      (le_trans (narrow q (p * 2 ^ t) (scaled n) (mul-le-mul k k) (mul-le-mul_right q (rooted_least n N some)) (rooted_near n N).1) (le_of_eq (unscaled p t))))
      (subst (λ (x : ℕ). 0 < x) (sym (four t)) (mul-pos (pow_pos t) (pow_pos t)))
    where
      sorted : (p u : ℕ) → 2 * (p * u * (p * u)) * 1048576 ≡ 2 * p * p * 1048576 * (u * u)
      sorted p u = omega arith

      unscaled : (p t : ℕ) → 2 * (p * 2 ^ t * (p * 2 ^ t)) * 1048576 ≡ 2 * p * p * 1048576 * 4 ^ t
      unscaled p t = sorted p (2 ^ t) ∙ ap (λ (x : ℕ). 2 * p * p * 1048576 * x) (sym (four t))

  -- a part of x steps is at most twice the part ahead
  pub beside : 0 < p → (x : ℕ) → x * x ≤ n → x ≤ 2 * p
  beside P x h = le_of_suc-le-suc (lt_of_not-le (λ (g : suc (2 * p) ≤ x). clash p n P (le_trans (mul-le-mul g g) h) not_wide))
    where
      clash : (p n : ℕ) → 0 < p → suc (2 * p) * suc (2 * p) ≤ n → n * 1048575 ≤ 2 * p * p * 1048576 → ⊥
      clash p n P h k = far (p * p) n (more p P h) (le_trans k (le_of_eq (grouped p)))
        where
          more : (p : ℕ) → 0 < p → suc (2 * p) * suc (2 * p) ≤ n → 4 * (p * p) < n
          more p P h = omega arith

          grouped : (p : ℕ) → 2 * p * p * 1048576 ≡ 2 * (p * p) * 1048576
          grouped p = omega arith

          far : (s n : ℕ) → 4 * s < n → n * 1048575 ≤ 2 * s * 1048576 → ⊥
          far s n h k = omega arith

  -- ---- the cosine, c, and its square: both at most 1, and the square at least 1/4
  abbrev c : Float
  c = round binary32 false (p * 2 ^ t) q

  cosine : Finite false c
  cosine = finite_round false (p * 2 ^ t) q q_pos (up_to n N p within)

  abbrev a : ℕ
  a = cosine.digits * up cosine.exponent

  abbrev b : ℕ
  b = down cosine.exponent

  value : HasValue c false a b
  value = subst (λ (x : Float). HasValue x false a b) (sym cosine.is) (refl, refl)

  at_most : a ≤ b
  at_most = below cosine.digits cosine.exponent (subst (λ (x : Float). lt (fin false 1 (pos 0)) x ≡ false) cosine.is (at_most_one (p * 2 ^ t) q q_pos (up_to n N p within)))

  squared : mul binary32 c c ≡ round binary32 false (a * a) (b * b)
  squared = mul_at c c false false a b a b (down_pos cosine.exponent) (down_pos cosine.exponent) value value

  square : Finite false (mul binary32 c c)
  square = subst (Finite false) (sym squared) (finite_round false (a * a) (b * b) (mul-pos (down_pos cosine.exponent) (down_pos cosine.exponent)) (mul-le-mul at_most at_most))

  abbrev u : ℕ
  u = square.digits * up square.exponent

  abbrev d : ℕ
  d = down square.exponent

  square_most : u ≤ d
  square_most =
      below square.digits square.exponent
      (subst (λ (x : Float). lt (fin false 1 (pos 0)) x ≡ false) (sym squared ∙ square.is) (at_most_one (a * a) (b * b) (mul-pos (down_pos cosine.exponent) (down_pos cosine.exponent)) (mul-le-mul at_most at_most)))

  at_least : 11863283 * b ≤ a * 2 ^ 24
  at_least =
      let up = above_of_le bound c tt inside in
      values_of_le bound c 11863283 (2 ^ 24) a b tt (subst (λ (x : Float). T (positive x)) (sym cosine.is) (subst (λ (x : Float). T (above x)) cosine.is up)) bound_value value inside

  from_quarter : T (le (fin false 1 (negsuc 1)) (fin false square.digits square.exponent))
  from_quarter =
      subst T (λ i. le (quarter i) ((sym squared ∙ square.is) i))
      (round_mono binary32 1 4 (a * a) (b * b) (lit< tt) (mul-pos (down_pos cosine.exponent) (down_pos cosine.exponent)) (squares a b (half a b at_least)))
    where
      half : (a b : ℕ) → 11863283 * b ≤ a * 2 ^ 24 → b ≤ 2 * a
      half a b h = omega arith

      squares : (a b : ℕ) → b ≤ 2 * a → 1 * (b * b) ≤ a * a * 4
      squares a b h = le_trans (le_of_eq (one-mul (b * b))) (le_trans (mul-le-mul h h) (le_of_eq (right a)))
        where
          right : (a : ℕ) → 2 * a * (2 * a) ≡ a * a * 4
          right a = omega arith

  square_above : T (above (fin false square.digits square.exponent))
  square_above = above_of_le (fin false 1 (negsuc 1)) (fin false square.digits square.exponent) tt from_quarter

  square_some : 0 < u
  square_some = digits_above square.digits square.exponent square_above

  square_least : 1 * d ≤ u * 4
  square_least = values_of_le (fin false 1 (negsuc 1)) (fin false square.digits square.exponent) 1 4 u d tt square_above (refl, refl) (refl, refl) from_quarter

  -- ---- the score: the length divided by that square, so no less than the length
  abbrev score : Float
  score = div binary32 (nearest_of n) (mul binary32 c c)

  score_is : score ≡ round binary32 false (q * d) (u * (64 * 2 ^ t))
  score_is = div_at (nearest_of n) (mul binary32 c c) false false q (64 * 2 ^ t) u d (mul-pos (lit< tt) (pow_pos t)) (down_pos square.exponent) square_some (length_value n N)
      (subst (λ (x : Float). HasValue x false u d) (sym square.is) (refl, refl))

  pub score_plain : T (plain score)
  score_plain = subst (λ (x : Float). T (plain x)) (sym score_is) (plain_round (q * d) (u * (64 * 2 ^ t)))

  pub score_long : lt score (nearest_of n) ≡ false
  score_long =
      (λ i. lt (score_is i) (nearest_is n i))
      ∙ round_not_above q (64 * 2 ^ t) (q * d) (u * (64 * 2 ^ t)) (mul-pos (lit< tt) (pow_pos t)) (mul-pos square_some (mul-pos (lit< tt) (pow_pos t))) (le_trans (le_of_eq (grouped q u (64 * 2 ^ t))) (mul-le-mul_right (64 * 2 ^ t) (mul-le-mul (le_refl q) square_most)))
    where
      grouped : (q u l : ℕ) → q * (u * l) ≡ q * u * l
      grouped q u l = sym (mul_assoc q u l)

  -- and at most four times the length, so at most 2 ^ 24
  pub score_finite : lt score (inf false) ≡ true
  score_finite =
      below_infinity 1 (pos 24) score score_plain
      ((λ i. lt (sym most i) (score_is i))
      ∙ round_not_above (q * d) (u * (64 * 2 ^ t)) (2 ^ 24) 1 (mul-pos square_some (mul-pos (lit< tt) (pow_pos t))) (lit< tt)
      (le_trans (le_of_eq (mul-one (q * d))) (mul-le-mul (rooted_most n N) (le_trans (le_of_eq (sym (one-mul d))) (le_trans square_least (mul-le-mul (le_refl u) (four_most (2 ^ t) (pow_pos t))))))))
    where
      four_most : (l : ℕ) → 0 < l → 4 ≤ 64 * l
      four_most l h = omega arith
