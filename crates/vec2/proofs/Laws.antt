-- What a length is: the f32 `nearest_of` the sum of squares on the grid, NaN elsewhere; and its value there. Assumes nothing.
use Rattle.std.proofs.Common.{◌≡◌, ℕ, suc, ◌+◌, ◌*◌, ◌^◌, ◌<◌, ◌≤◌, Bool, true, false, cond, eqb, ◌⊎◌, ℤ, nat_abs, sym, refl, ap, ◌∙◌, subst, inl, inr, lt_of_lt_of_le, mul-le-mul, arith, lit≤, pow-add, ne_eqb, eqb-true}
use lib.Ieee.{Float, nan, binary32, round}
use lib.Ieee.Exact.{HasValue}
use borrow.Author.Tests.{eqb-false}
use Rattle.refusal.specs.Refusal.{none, lowest}
use Rattle.refusal.proofs.Laws.{both_none}
use Rattle.floats.specs.Count.{at, count_of}
use Rattle.grid.specs.Grid.{pivot_refusal, pivot_pos_refusal}
use Rattle.grid.proofs.Accepted.{within_count, count_within}
use Rattle.emath.specs.declared.Vec2.{Vec2}
use Rattle.vec2.specs.Length.{whole_nearest, digits_up, nearest_of, squares, length_of}
use Rattle.vec2.proofs.Whole.{nearest_near, near_most, near_least}
use Rattle.vec2.proofs.Digits.{digits_24, scaled_below, scaled_from, exact_24}

-- ---- on the grid, and off it
pub on_grid_lem : (v : Vec2) (a b : ℤ) → count_of 64 v.x ≡ at a → count_of 64 v.y ≡ at b → nat_abs a ≤ 32768 * 64 → nat_abs b ≤ 32768 * 64
    → length_of v ≡ nearest_of (nat_abs a * nat_abs a + nat_abs b * nat_abs b)
unfolding length_of lowest
on_grid_lem v a b p q h k =
    λ i. cond (eqb (lowest (count_within 64 32768 v.x a p h i) (count_within 64 32768 v.y b q k i)) none) (nearest_of (squares (p i) (q i))) nan

pub off_grid_lem : (v : Vec2) → (pivot_pos_refusal v.x v.y ≡ none → ⊥) → length_of v ≡ nan
unfolding length_of
off_grid_lem v h = ap (λ (t : Bool). cond t (nearest_of (squares (count_of 64 v.x) (count_of 64 v.y))) nan) (ne_eqb (pivot_pos_refusal v.x v.y) none h)

pub record OnGrid (v : Vec2) : Type 0 where
  pub a : ℤ
  pub b : ℤ
  pub across : count_of 64 v.x ≡ at a
  pub along : count_of 64 v.y ≡ at b
  pub a_most : nat_abs a ≤ 32768 * 64
  pub b_most : nat_abs b ≤ 32768 * 64

pub taken : (v : Vec2) → pivot_pos_refusal v.x v.y ≡ none → OnGrid v
taken v h =
    let both = both_none (pivot_refusal v.x) (pivot_refusal v.y) h in
    let x = within_count 64 32768 v.x both.0 in
    let y = within_count 64 32768 v.y both.1 in
    record { a = x.0; b = y.0; across = x.1; along = y.1; a_most = x.2; b_most = y.2 }

pub grid_or_not : (v : Vec2) → OnGrid v ⊎ (pivot_pos_refusal v.x v.y ≡ none → ⊥)
grid_or_not v = go (eqb (pivot_pos_refusal v.x v.y) none) (eqb-true (pivot_pos_refusal v.x v.y) none) (eqb-false (pivot_pos_refusal v.x v.y) none)
  where
    go : (t : Bool) → (t ≡ true → pivot_pos_refusal v.x v.y ≡ none) → (t ≡ false → pivot_pos_refusal v.x v.y ≡ none → ⊥) → OnGrid v ⊎ (pivot_pos_refusal v.x v.y ≡ none → ⊥)
    go true f g = inl (taken v (f refl))
    go false f g = inr (g refl)

-- the sum of squares has fewer than 48 digits
pub sum_48 : (x y : ℕ) → x ≤ 32768 * 64 → y ≤ 32768 * 64 → x * x + y * y < 2 ^ 48
sum_48 x y h k = both (x * x) (y * y) (mul-le-mul h h) (mul-le-mul k k)
  where
    both : (m n : ℕ) → m ≤ 2 ^ 42 → n ≤ 2 ^ 42 → m + n < 2 ^ 48
    both m n h k = omega arith

-- ---- the number that is rounded, and the whole number nearest to its root
abbrev pub scaled : ℕ → ℕ
scaled n = n * 4 ^ digits_up n

abbrev pub rooted : ℕ → ℕ
rooted n = whole_nearest (scaled n)

pub rooted_near : (n : ℕ) → n < 2 ^ 48 → (0 < rooted n → rooted n * rooted n < scaled n + rooted n) × (scaled n ≤ rooted n * rooted n + rooted n)
rooted_near n h = nearest_near (scaled n) (lt_of_lt_of_le (scaled_below n h) (lit≤ tt))

pub rooted_most : (n : ℕ) → n < 2 ^ 48 → rooted n ≤ 2 ^ 24
rooted_most n h = near_most (scaled n) (rooted n) (scaled_below n h) (rooted_near n h)

pub rooted_least : (n : ℕ) → n < 2 ^ 48 → 0 < n → 2 ^ 23 ≤ rooted n
rooted_least n h p = near_least (scaled n) (rooted n) (scaled_from n h p) (rooted_near n h)

-- the length is that whole number, divided again: nothing more is rounded
pub nearest_is : (n : ℕ) → nearest_of n ≡ round binary32 false (rooted n) (64 * 2 ^ digits_up n)
unfolding nearest_of
nearest_is n = refl

pub length_value : (n : ℕ) → n < 2 ^ 48 → HasValue (nearest_of n) false (rooted n) (64 * 2 ^ digits_up n)
length_value n h =
    let t = digits_up n in
    subst (λ (x : Float). HasValue x false (rooted n) (64 * 2 ^ t)) (sym (nearest_is n))
    (subst (λ (d : ℕ). HasValue (round binary32 false (rooted n) d) false (rooted n) d) (ap (λ (x : ℕ). 2 ^ x) (next t) ∙ pow-add 2 6 t) (exact_24 (rooted n) (5 + t) (room t (digits_24 n)) (rooted_most n h)))
  where
    next : (t : ℕ) → suc (5 + t) ≡ 6 + t
    next t = omega arith

    room : (t : ℕ) → t ≤ 24 → 5 + t ≤ 148
    room t h = omega arith
