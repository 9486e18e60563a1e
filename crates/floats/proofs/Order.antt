-- `<` and `=`: any two floats, and the plain ones, which are no NaN and have no sign set (the infinity is one). Assumes nothing.
use mathlib.Core.Path.{◌≡◌, refl, sym, ◌∙◌, subst}
use mathlib.Core.Logic.{◌⊎◌, inl, inr}
use Prim.Native.Nat.{ℕ, ◌+◌, ◌*◌, ◌≤◌, ◌<◌}
use native.Mathlib.Nat.{mul-pos, eq-zero-or-pos}
use native.Mathlib.Omega.{arith}
use mathlib.Core.Bool.{Bool, true, false, not, ◌&&◌, false≢true}
use lib.Dec.{T, ltb, eqb}
use lib.Ieee.{Float, nan, inf, fin, up, down, below, level, lt, eq}
use lib.Ieee.Fits.{down_pos}
use lib.Ieee.Positive.{through}
use borrow.Author.Tests.{ltb-true, ltb-false, eqb-true, lt-ltb, le-ltb, eq-eqb, ne_eqb, not-true}

abbrev pub plain : Float → Bool
plain nan = false
plain (inf s) = not s
plain (fin s m e) = not s

-- ---- any two floats: of x < y, y < x and y = x no two hold
apart : (s t : Bool) (a b : ℕ) → below s a t b ≡ true → (below t b s a ≡ false) × (level t b s a ≡ false)
apart false false a b h = (le-ltb b a (omega (arith, ltb-true a b h)), rw (ne_eqb b a (λ e. omega (arith, ltb-true a b h))))
apart false true a b h = absurd (false≢true h)
apart true false a b h = (refl, unlike (eqb b a) (eqb b 0) (eqb-true b a) (eqb-true b 0))
  where
    unlike : (p q : Bool) → (p ≡ true → b ≡ a) → (q ≡ true → b ≡ 0) → (p && q) ≡ false
    unlike false q f g = refl
    unlike true false f g = refl
    unlike true true f g = absurd (let k = f refl in let l = g refl in omega (arith, ltb-true 0 (a + b) h))
apart true true a b h = (le-ltb a b (omega (arith, ltb-true b a h)), rw (ne_eqb b a (λ e. omega (arith, ltb-true b a h))))

pub lt_apart : (x y : Float) → lt x y ≡ true → (lt y x ≡ false) × (eq y x ≡ false)
unfolding lt eq
lt_apart nan y h = absurd (false≢true h)
lt_apart (inf s) nan h = absurd (false≢true h)
lt_apart (inf true) (inf false) h = (refl, refl)
lt_apart (inf true) (inf true) h = absurd (false≢true h)
lt_apart (inf false) (inf t) h = absurd (false≢true h)
lt_apart (inf true) (fin t n d) h = (refl, refl)
lt_apart (inf false) (fin t n d) h = absurd (false≢true h)
lt_apart (fin s m e) nan h = absurd (false≢true h)
lt_apart (fin s m e) (inf t) h = (not-true t h, refl)
lt_apart (fin s m e) (fin t n d) h = apart s t (m * up e * down d) (n * up d * down e) h

-- ---- a plain float as a fraction, the infinity as 1 / 0: `<` and `=` are the fractions' own
abbrev pub over : Float → ℕ
over nan = 0
over (inf s) = 1
over (fin s m e) = m * up e

abbrev pub under : Float → ℕ
under nan = 0
under (inf s) = 0
under (fin s m e) = down e

finite : (m : ℕ) (c : ℕ) → 0 < c → m * 0 < 1 * c
finite m c h = omega arith

pub lt_cross : (x y : Float) → T (plain x) → T (plain y) → lt x y ≡ ltb (over x * under y) (over y * under x)
unfolding lt
lt_cross nan y p q = absurd p
lt_cross (inf true) y p q = absurd p
lt_cross (fin true m e) y p q = absurd p
lt_cross (inf false) nan p q = absurd q
lt_cross (inf false) (inf true) p q = absurd q
lt_cross (inf false) (inf false) p q = refl
lt_cross (inf false) (fin true n d) p q = absurd q
lt_cross (inf false) (fin false n d) p q = sym (le-ltb (1 * down d) (n * up d * 0) (omega (arith, finite (n * up d) (down d) (down_pos d))))
lt_cross (fin false m e) nan p q = absurd q
lt_cross (fin false m e) (inf true) p q = absurd q
lt_cross (fin false m e) (inf false) p q = sym (lt-ltb (m * up e * 0) (1 * down e) (finite (m * up e) (down e) (down_pos e)))
lt_cross (fin false m e) (fin true n d) p q = absurd q
lt_cross (fin false m e) (fin false n d) p q = refl

and_yes : (b : Bool) → (b && true) ≡ b
and_yes true = refl
and_yes false = refl

pub eq_cross : (x y : Float) → T (plain x) → T (plain y) → eq x y ≡ eqb (over x * under y) (over y * under x)
unfolding eq
eq_cross nan y p q = absurd p
eq_cross (inf true) y p q = absurd p
eq_cross (fin true m e) y p q = absurd p
eq_cross (inf false) nan p q = absurd q
eq_cross (inf false) (inf true) p q = absurd q
eq_cross (inf false) (inf false) p q = refl
eq_cross (inf false) (fin true n d) p q = absurd q
eq_cross (inf false) (fin false n d) p q = sym (ne_eqb (1 * down d) (n * up d * 0) (λ e. omega (arith, finite (n * up d) (down d) (down_pos d))))
eq_cross (fin false m e) nan p q = absurd q
eq_cross (fin false m e) (inf true) p q = absurd q
eq_cross (fin false m e) (inf false) p q = sym (ne_eqb (m * up e * 0) (1 * down e) (λ g. omega (arith, finite (m * up e) (down e) (down_pos e))))
eq_cross (fin false m e) (fin true n d) p q = absurd q
eq_cross (fin false m e) (fin false n d) p q = and_yes (eqb (m * up e * down d) (n * up d * down e))

-- no fraction is 0 / 0
some : (x : Float) → T (plain x) → 0 < over x + under x
some nan p = absurd p
some (inf s) p = omega arith
some (fin s m e) p = omega (arith, down_pos e)

-- x / p ≤ y / q ≤ z / r
across : (x y z p q r : ℕ) → 0 < y + q → x * q ≤ y * p → y * r ≤ z * q → x * r ≤ z * p
across x y z p q r h k l = go (eq-zero-or-pos q) (eq-zero-or-pos r)
  where
    go : (q ≡ 0) ⊎ (0 < q) → (r ≡ 0) ⊎ (0 < r) → x * r ≤ z * p
    go (inr Q) o = through x y z p q r Q k l
    go (inl e) (inl g) = subst (λ (n : ℕ). x * n ≤ z * p) (sym g) (omega arith)
    go (inl e) (inr R) =
        absurd (let a = mul-pos {m = y} {n = r} (omega arith) R in let b : y * r ≤ z * 0 = subst (λ (n : ℕ). y * r ≤ z * n) e l in omega arith)

-- ---- plain floats: where x is not below y, nor y below z, x is not below z
pub not_below : (x y z : Float) → T (plain x) → T (plain y) → T (plain z) → lt x y ≡ false → lt y z ≡ false → lt x z ≡ false
not_below x y z p q r h k =
    lt_cross x z p r
    ∙ le-ltb (over x * under z) (over z * under x)
    (across (over z) (over y) (over x) (under z) (under y) (under x) (some y q)
    (ltb-false (over y * under z) (over z * under y) (sym (lt_cross y z q r) ∙ k))
    (ltb-false (over x * under y) (over y * under x) (sym (lt_cross x y p q) ∙ h)))

-- ---- plain floats: level exactly where neither is below the other
module _ (x y : Float) (p : T (plain x)) (q : T (plain y)) where
  pub level_not_below : eq x y ≡ true → (lt x y ≡ false) × (lt y x ≡ false)
  level_not_below h =
      let e = eqb-true (over x * under y) (over y * under x) (sym (eq_cross x y p q) ∙ h) in
      (lt_cross x y p q ∙ le-ltb (over x * under y) (over y * under x) (omega arith), lt_cross y x q p ∙ le-ltb (over y * under x) (over x * under y) (omega arith))

  pub not_below_level : lt x y ≡ false → lt y x ≡ false → eq x y ≡ true
  not_below_level h k =
      let a = ltb-false (over x * under y) (over y * under x) (sym (lt_cross x y p q) ∙ h) in
      let b = ltb-false (over y * under x) (over x * under y) (sym (lt_cross y x q p) ∙ k) in
      eq_cross x y p q ∙ eq-eqb (over x * under y) (over y * under x) (omega arith)
