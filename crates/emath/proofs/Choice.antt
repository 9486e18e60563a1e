-- The larger and the smaller of two floats: each way the code finds it, and what they are on a grid. Assumes nothing.
use mathlib.Core.Path.{◌≡◌, refl, ◌∙◌}
use Prim.Native.Nat.{ℕ, ◌<◌}
use mathlib.Core.Bool.{Bool, true, false, ◌||◌, cond}
use lib.IntN.{ℤ}
use lib.Signed.{lt_z}
use lib.Ieee.{Float, nan, inf, fin, lt, is_nan}
use Rattle.floats.specs.Count.{at, count_of}
use Rattle.floats.proofs.Counts.{count_value, lt_count, pick_count}
use Rattle.emath.specs.Range.{max_f, min_f}

-- ---- on a grid there is no NaN
counted : (c : ℕ) (x : Float) (a : ℤ) → count_of c x ≡ at a → is_nan x ≡ false
unfolding is_nan
counted c nan a p = absurd (count_value c nan a p).value
counted c (inf s) a p = refl
counted c (fin s m e) a p = refl

or_none : (l : Bool) → (l || false) ≡ l
or_none true = refl
or_none false = refl

module _ (c : ℕ) (h : 0 < c) (x y : Float) (a b : ℤ) (p : count_of c x ≡ at a) (q : count_of c y ≡ at b) where
  choice : (l : Bool) (z : Bool) → l ≡ z → count_of c (cond (l || is_nan x) y x) ≡ at (cond z b a)
  choice l z e = (λ i. count_of c (cond (e i || counted c x a p i) y x)) ∙ (λ i. count_of c (cond (or_none z i) y x)) ∙ pick_count c z y x b a q p

  pub max_count : count_of c (max_f x y) ≡ at (cond (lt_z a b) b a)
  unfolding max_f
  max_count = choice (lt x y) (lt_z a b) (lt_count c h x y a b p q)

  pub min_count : count_of c (min_f x y) ≡ at (cond (lt_z b a) b a)
  unfolding min_f
  min_count = choice (lt y x) (lt_z b a) (lt_count c h y x b a q p)
