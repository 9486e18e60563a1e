-- The tests of `axis`: two floats in their order between -16,384 and 16,384, both on steps, are the two ends of an axis that is taken. Assumes nothing.
use mathlib.Core.Path.{◌≡◌, refl, sym, ap, ◌∙◌}
use Prim.Native.Nat.{ℕ, ◌*◌, ◌≤◌, ◌<◌}
use native.Mathlib.Nat.{mul_assoc, mul-one, mul_comm, mul-pos, le_trans, le_of_lt, le_of_eq}
use native.Mathlib.Omega.{arith}
use mathlib.Core.Bool.{Bool, true, false, not, ◌&&◌, ◌||◌, cond, false≢true}
use lib.IntN.{ℤ, pos, negsuc, nat_abs}
use lib.Signed.{lt_z, le_z}
use lib.Dec.{ltb, leb, eqb, lit<}
use lib.Ieee.{Float, nan, inf, fin, up, down, below, level, lt, le, eq}
use lib.Ieee.Fits.{down_pos}
use lib.Ieee.Exact.{HasValue}
use borrow.Author.Tests.{ltb-true, ltb-false, eqb-true, eq-eqb, le-leb, lt-leb, not-true}
use Rattle.refusal.specs.Refusal.{none, reversed, lowest}
use Rattle.emath.specs.declared.Rect.{Rect}
use Rattle.floats.specs.Count.{at, count_of}
use Rattle.floats.proofs.Counts.{lt_count, le_count}
use Rattle.floats.proofs.Plain.{power}
use Rattle.floats.proofs.Value.{le_at}
use Rattle.grid.specs.Grid.{corner_refusal, rect_refusal}
use Rattle.grid.specs.Steps.{axis_taken}
use Rattle.grid.proofs.Accepted.{within_count}
use Rattle.grid.proofs.Step.{step_f, step_taken, taken_step}

-- -16,384
abbrev pub least : Float
least = fin true 1 (pos 14)

-- ---- by sign and size: what lies in its order between -L and L is at most L in size
below_or_level : (a b : ℕ) (t u : Bool) → (t ≡ true → a ≤ b) → (ltb a b || (t && u)) ≡ true → a ≤ b
below_or_level a b t u f h = go (ltb a b) t (ltb-true a b) f h
  where
    go : (s t : Bool) → (s ≡ true → a < b) → (t ≡ true → a ≤ b) → (s || (t && u)) ≡ true → a ≤ b
    go true t g f h = le_of_lt (g refl)
    go false true g f h = f refl
    go false false g f h = absurd (false≢true h)

no_size : (a b : ℕ) → (eqb a b && eqb a 0) ≡ true → (a ≡ 0) × (b ≡ 0)
no_size a b h = go (eqb a b) (eqb a 0) (eqb-true a b) (eqb-true a 0) h
  where
    go : (s t : Bool) → (s ≡ true → a ≡ b) → (t ≡ true → a ≡ 0) → (s && t) ≡ true → (a ≡ 0) × (b ≡ 0)
    go true true f g h = (g refl, sym (f refl) ∙ g refl)
    go true false f g h = absurd (false≢true h)
    go false t f g h = absurd (false≢true h)

squeezed : (s t : Bool) (a b L : ℕ) → (below s a t b || level s a t b) ≡ true → (below true L s a || level true L s a) ≡ true → (below t b false L || level t b false L) ≡ true → (a ≤ L) × (b ≤ L)
squeezed false false a b L h k l =
    let u : a ≤ b = below_or_level a b (eqb a b) true (λ e. le_of_eq (eqb-true a b e)) h in
    let v : b ≤ L = below_or_level b L (eqb b L) true (λ e. le_of_eq (eqb-true b L e)) l in
    (le_trans u v, v)
squeezed false true a b L h k l = let z = no_size a b h in (omega arith, omega arith)
squeezed true false a b L h k l =
    (below_or_level a L (eqb L a) true (λ e. le_of_eq (sym (eqb-true L a e))) k, below_or_level b L (eqb b L) true (λ e. le_of_eq (eqb-true b L e)) l)
squeezed true true a b L h k l =
    let u : a ≤ L = below_or_level a L (eqb L a) true (λ e. le_of_eq (sym (eqb-true L a e))) k in
    let v : b ≤ a = below_or_level b a (eqb a b) true (λ e. le_of_eq (sym (eqb-true a b e))) h in
    (u, le_trans v u)

-- ---- a float that is at most 16,384 in size, as a fraction
record Near (x : Float) : Type 0 where
  sign : Bool
  over : ℕ
  under : ℕ
  some : 0 < under
  value : HasValue x sign over under
  bound : over ≤ 16384 * under

bound_value : (s : Bool) (c : ℕ) → HasValue (fin s 1 (pos 14)) s (16384 * c) c
bound_value s c = (refl, sym (mul-one (16384 * c)))

-- m * 2 ^ e over a denominator that is d times its own
wider : (s : Bool) (m : ℕ) (e : ℤ) (c d : ℕ) → c ≡ down e * d → HasValue (fin s m e) s (m * up e * d) c
wider s m e c d h = (refl, ap (λ (x : ℕ). m * up e * x) (h ∙ mul_comm (down e) d) ∙ sym (mul_assoc (m * up e) d (down e)))

both_near : (s t : Bool) (m n : ℕ) (e d : ℤ) → le (fin s m e) (fin t n d) ≡ true → le least (fin s m e) ≡ true → le (fin t n d) (power 14) ≡ true → Near (fin s m e) × Near (fin t n d)
both_near s t m n e d h k l =
    let c = down e * down d in
    let C : 0 < c = mul-pos (down_pos e) (down_pos d) in
    let a = m * up e * down d in
    let b = n * up d * down e in
    let v = wider s m e c (down d) refl in
    let w = wider t n d c (down e) (mul_comm (down e) (down d)) in
    let r = squeezed s t a b (16384 * c) (sym (le_at (fin s m e) (fin t n d) s t a b c C v w) ∙ h) (sym (le_at least (fin s m e) true s (16384 * c) a c C (bound_value true c) v) ∙ k)
    (sym (le_at (fin t n d) (power 14) t false b (16384 * c) c C w (bound_value false c)) ∙ l) in
    (record { sign = s; over = a; under = c; some = C; value = v; bound = r.0 }, record { sign = t; over = b; under = c; some = C; value = w; bound = r.1 })

near : (x y : Float) → le x y ≡ true → le least x ≡ true → le y (power 14) ≡ true → Near x × Near y
near nan y h k l = absurd (false≢true (unfold le lt eq in h))
near (inf true) y h k l = absurd (false≢true (unfold le lt eq in k))
near (inf false) nan h k l = absurd (false≢true (unfold le lt eq in h))
near (inf false) (inf true) h k l = absurd (false≢true (unfold le lt eq in h))
near (inf false) (inf false) h k l = absurd (false≢true (unfold le lt eq in l))
near (inf false) (fin t n d) h k l = absurd (false≢true (unfold le lt eq in h))
near (fin s m e) nan h k l = absurd (false≢true (unfold le lt eq in h))
near (fin s m e) (inf true) h k l = absurd (false≢true (unfold le lt eq in h))
near (fin s m e) (inf false) h k l = absurd (false≢true (unfold le lt eq in l))
near (fin s m e) (fin t n d) h k l = both_near s t m n e d h k l

-- ---- whole numbers: at most is not above, and the bounds of a size
at_most : (a b : ℕ) → leb a b ≡ not (ltb b a)
at_most a b = go (ltb b a) (ltb-true b a) (ltb-false b a)
  where
    go : (t : Bool) → (t ≡ true → b < a) → (t ≡ false → a ≤ b) → leb a b ≡ not t
    go true f g = lt-leb a b (f refl)
    go false f g = le-leb a b (g refl)

at_most_not_above : (a b : ℤ) → le_z a b ≡ not (lt_z b a)
at_most_not_above (pos a) (pos b) = at_most a b
at_most_not_above (pos a) (negsuc b) = refl
at_most_not_above (negsuc a) (pos b) = refl
at_most_not_above (negsuc a) (negsuc b) = at_most b a

from_least : (z : ℤ) → nat_abs z ≤ 524288 → le_z (negsuc 524287) z ≡ true
from_least (pos n) h = refl
from_least (negsuc n) h = le-leb n 524287 (omega arith)

to_most : (z : ℤ) → nat_abs z ≤ 524288 → le_z z (pos 524288) ≡ true
to_most (pos n) h = le-leb n 524288 h
to_most (negsuc n) h = refl

least_count : count_of 32 least ≡ at (negsuc 524287)
unfolding count_of
least_count = refl

most_count : count_of 32 (power 14) ≡ at (pos 524288)
unfolding count_of
most_count = refl

-- ---- the five tests pass exactly where the axis is taken
all : (a b c : Bool) → (a && (b && c)) ≡ true → (a ≡ true) × (b ≡ true) × (c ≡ true)
all true true c h = (refl, refl, h)
all true false c h = absurd (false≢true h)
all false b c h = absurd (false≢true h)

module _ (x y : Float) where
  record Passed : Type 0 where
    order : le x y ≡ true
    low : le least x ≡ true
    high : le y (power 14) ≡ true
    first : step_f x ≡ true
    second : step_f y ≡ true

  -- the order of two corners that are taken
  ordered : corner_refusal x ≡ 0 → corner_refusal y ≡ 0 → le x y ≡ not (lt y x)
  ordered h k =
      let a = within_count 32 16384 x h in
      let b = within_count 32 16384 y k in
      le_count 32 (lit< tt) x y a.0 b.0 a.1 b.1 ∙ at_most_not_above a.0 b.0 ∙ ap not (sym (lt_count 32 (lit< tt) y x b.0 a.0 b.1 a.1))

  -- what it means that an axis is taken
  corners : axis_taken x y ≡ true → (corner_refusal x ≡ 0) × (corner_refusal y ≡ 0) × (lt y x ≡ false)
  corners h =
      let e = all (eqb (corner_refusal x) 0) (eqb (corner_refusal y) 0) (not (lt y x)) h in
      (eqb-true (corner_refusal x) 0 e.0, eqb-true (corner_refusal y) 0 e.1, not-true (lt y x) e.2)

  passed : axis_taken x y ≡ true → Passed
  passed h =
      let e = corners h in
      let a = within_count 32 16384 x e.0 in
      let b = within_count 32 16384 y e.1 in
      record {
        order = ordered e.0 e.1 ∙ ap not e.2;
        low = le_count 32 (lit< tt) least x (negsuc 524287) a.0 least_count a.1 ∙ from_least a.0 a.2;
        high = le_count 32 (lit< tt) y (power 14) b.0 (pos 524288) b.1 most_count ∙ to_most b.0 b.2;
        first = taken_step x e.0;
        second = taken_step y e.1;
      }

  taken : Passed → axis_taken x y ≡ true
  taken t =
      let n = near x y t.order t.low t.high in
      let a = n.0 in
      let b = n.1 in
      let p : corner_refusal x ≡ 0 = step_taken x a.over a.under a.some a.bound a.sign a.value t.first in
      let q : corner_refusal y ≡ 0 = step_taken y b.over b.under b.some b.bound b.sign b.value t.second in
      λ i. eq-eqb (corner_refusal x) 0 p i && (eq-eqb (corner_refusal y) 0 q i && (sym (ordered p q) ∙ t.order) i)

  -- one test that fails
  refused : (t : Bool) → (axis_taken x y ≡ true → t ≡ true) → t ≡ false → false ≡ axis_taken x y
  refused t f h = go (axis_taken x y) f
    where
      go : (b : Bool) → (b ≡ true → t ≡ true) → false ≡ b
      go false f = refl
      go true f = sym h ∙ f refl

  -- ---- the answers
  pub wrong_order : le x y ≡ false → false ≡ axis_taken x y
  wrong_order = refused (le x y) (λ t. (passed t).order)

  pub too_low : le least x ≡ false → false ≡ axis_taken x y
  too_low = refused (le least x) (λ t. (passed t).low)

  pub too_high : le y (power 14) ≡ false → false ≡ axis_taken x y
  too_high = refused (le y (power 14)) (λ t. (passed t).high)

  pub first_off : (t : Bool) → t ≡ step_f x → t ≡ false → false ≡ axis_taken x y
  first_off t e h = refused (step_f x) (λ t. (passed t).first) (sym e ∙ h)

  pub by_second : le x y ≡ true → le least x ≡ true → le y (power 14) ≡ true → (t : Bool) → t ≡ step_f x → t ≡ true → (u : Bool) → u ≡ step_f y → u ≡ axis_taken x y
  by_second h k l t e f true g = sym (taken (record { order = h; low = k; high = l; first = sym e ∙ f; second = sym g }))
  by_second h k l t e f false g = refused (step_f y) (λ t. (passed t).second) (sym g)

-- ---- a rectangle of two axes that are taken
pub both_taken : (r : Rect) → axis_taken r.min.x r.max.x ≡ true → axis_taken r.min.y r.max.y ≡ true → 0 ≡ rect_refusal r
unfolding rect_refusal lowest
both_taken r h k =
    let a = corners r.min.x r.max.x h in
    let b = corners r.min.y r.max.y k in
    sym (λ i. lowest (lowest (lowest (a.0 i) (b.0 i)) (lowest (a.1 i) (b.1 i))) (cond (a.2 i || b.2 i) reversed none))
