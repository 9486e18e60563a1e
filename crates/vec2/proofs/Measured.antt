-- The answers of `nearest` and `length`, by the steps of a vector's two parts. Assumes nothing.
use Rattle.std.proofs.Common.{◌≡◌, ℕ, ◌+◌, ◌-◌, ◌*◌, ◌/◌, ◌%◌, ◌^◌, ◌<◌, ◌≤◌, false, ℤ, pos, nat_abs, sym, ap, ◌∙◌, subst, le_trans, lt_of_lt_of_le, lt_of_le_of_lt, mod-eq_of_lt, mul_assoc, mul_comm, mul-le-mul, mul-pos, one-mul, arith, lit<, lit≤, pow_pos, pow_mono}
use native.Mathlib.Nat.{mul-mul-mul_comm}
use lib.Count.{count_leading_zeros}
use lib.Ieee.{binary32, round, div, of_int, of_bits}
use lib.Ieee.Scale.{round_same}
use Rattle.refusal.specs.Refusal.{none}
use Rattle.floats.specs.Count.{at, count_of}
use Rattle.grid.specs.Grid.{pivot_pos_refusal}
use Rattle.emath.specs.declared.Vec2.{Vec2}
use Rattle.vec2.specs.Length.{whole_nearest, digits_up, nearest_of, length_of}
use Rattle.vec2.proofs.Whole.{nearest_square}
use Rattle.vec2.proofs.Digits.{four, four_two, digits_24, digits_by, scaled_below}
use Rattle.vec2.proofs.Laws.{taken, on_grid_lem, sum_48, scaled, rooted, rooted_most, nearest_is}
use Rattle.vec2.proofs.Quotients.{over_64, over_both}

-- ---- a square: y * 2 ^ t is the root of what y * y is scaled to, and the division takes the power out again
squared : (y : ℕ) → y * y < 2 ^ 48 → nearest_of (y * y) ≡ round binary32 false y 64
squared y h =
    nearest_is (y * y)
    ∙ ap (λ (q : ℕ). round binary32 false q (64 * 2 ^ t)) (ap whole_nearest square ∙ nearest_square (y * 2 ^ t) (subst (λ (n : ℕ). n < 2 ^ 64) square (lt_of_lt_of_le (scaled_below (y * y) h) (lit≤ tt))))
    ∙ round_same binary32 false (y * 2 ^ t) (64 * 2 ^ t) y 64 (mul-pos (lit< tt) (pow_pos t)) (lit< tt) (mul_assoc y (2 ^ t) 64 ∙ ap (λ (x : ℕ). y * x) (mul_comm (2 ^ t) 64))
  where
    t : ℕ
    t = digits_up (y * y)

    square : y * y * 4 ^ t ≡ y * 2 ^ t * (y * 2 ^ t)
    square = ap (λ (x : ℕ). y * y * x) (four t) ∙ mul-mul-mul_comm y y (2 ^ t) (2 ^ t)

-- ---- what the code of `nearest` computes
module _ (n : ℕ) (h : n < 2 ^ 48) where
  -- how far it shifts
  abbrev by : ℕ
  by = (count_leading_zeros 64 n - 16) / 2

  pub shift_24 : by ≤ 24
  shift_24 = subst (λ (t : ℕ). t ≤ 24) (sym (digits_by n h)) (digits_24 n)

  pub shifted : n * 2 ^ (2 * by) % 2 ^ 64 ≡ scaled n
  shifted =
      ap (λ (t : ℕ). n * 2 ^ (2 * t) % 2 ^ 64) (digits_by n h) ∙ ap (λ (x : ℕ). n * x % 2 ^ 64) (sym (four_two (digits_up n))) ∙ mod-eq_of_lt (lt_of_lt_of_le (scaled_below n h) (lit≤ tt))

  pub power_is : 1 * 2 ^ by % 2 ^ 64 ≡ 2 ^ digits_up n
  power_is =
      ap (λ (t : ℕ). 1 * 2 ^ t % 2 ^ 64) (digits_by n h) ∙ ap (λ (x : ℕ). x % 2 ^ 64) (one-mul (2 ^ digits_up n)) ∙ mod-eq_of_lt (lt_of_le_of_lt (pow_mono (digits_24 n)) (lit< tt))

  pub power_24 : 1 * 2 ^ by % 2 ^ 64 ≤ 2 ^ 24
  power_24 = subst (λ (x : ℕ). x ≤ 2 ^ 24) (sym power_is) (pow_mono (digits_24 n))

  -- q is what `whole_nearest` gave
  module _ (q : ℕ) (e : q ≡ whole_nearest (n * 2 ^ (2 * by) % 2 ^ 64)) where
    root_is : q ≡ rooted n
    root_is = e ∙ ap whole_nearest shifted

    pub root_24 : q ≤ 2 ^ 24
    root_24 = subst (λ (x : ℕ). x ≤ 2 ^ 24) (sym root_is) (rooted_most n h)

    pub nearest_gives : div binary32 (div binary32 (of_int binary32 (pos q)) (of_bits binary32 0x4280_0000)) (of_int binary32 (pos (1 * 2 ^ by % 2 ^ 64))) ≡ nearest_of n
    nearest_gives =
        (λ i. div binary32 (div binary32 (of_int binary32 (pos (root_is i))) (of_bits binary32 0x4280_0000)) (of_int binary32 (pos (power_is i))))
        ∙ over_both (rooted n) (digits_up n) (rooted_most n h) (digits_24 n)
        ∙ sym (nearest_is n)

-- ---- what the code of `length` computes: x and y are what `steps` gave
pub record Measured (v : Vec2) (x y : ℕ) : Type 0 where
  pub is : length_of v ≡ nearest_of (x * x + y * y)
  pub x_few : x ≤ 32768 * 64
  pub y_few : y ≤ 32768 * 64
  pub sum : x * x + y * y < 2 ^ 48

pub measured : (v : Vec2) → pivot_pos_refusal v.x v.y ≡ none → (x y : ℕ) → ((z : ℤ) → count_of 64 v.x ≡ at z → x ≡ nat_abs z) → ((z : ℤ) → count_of 64 v.y ≡ at z → y ≡ nat_abs z) → Measured v x y
measured v h x y f g =
    let o = taken v h in
    let a : x ≡ nat_abs o.a = f o.a o.across in
    let b : y ≡ nat_abs o.b = g o.b o.along in
    let p : x ≤ 32768 * 64 = subst (λ (n : ℕ). n ≤ 32768 * 64) (sym a) o.a_most in
    let q : y ≤ 32768 * 64 = subst (λ (n : ℕ). n ≤ 32768 * 64) (sym b) o.b_most in
    record {
      is = on_grid_lem v o.a o.b o.across o.along o.a_most o.b_most ∙ (λ i. nearest_of (sym a i * sym a i + sym b i * sym b i));
      x_few = p;
      y_few = q;
      sum = sum_48 x y p q;
    }

-- one part is zero
aligned : (v : Vec2) (n y : ℕ) → length_of v ≡ nearest_of n → n ≡ y * y → y ≤ 32768 * 64 → div binary32 (of_int binary32 (pos y)) (of_bits binary32 0x4280_0000) ≡ length_of v
aligned v n y e s h = over_64 y (le_trans h (lit≤ tt)) ∙ sym (e ∙ ap nearest_of s ∙ squared y (lt_of_le_of_lt (mul-le-mul h h) (lit< tt)))

module _ (v : Vec2) (x y : ℕ) (m : Measured v x y) where
  pub upright : x ≡ 0 → div binary32 (of_int binary32 (pos y)) (of_bits binary32 0x4280_0000) ≡ length_of v
  upright e = aligned v (x * x + y * y) y m.is (ap (λ (n : ℕ). n * n + y * y) e ∙ omega arith) m.y_few

  pub level : y ≡ 0 → div binary32 (of_int binary32 (pos x)) (of_bits binary32 0x4280_0000) ≡ length_of v
  level e = aligned v (x * x + y * y) x m.is (ap (λ (n : ℕ). x * x + n * n) e ∙ omega arith) m.x_few
