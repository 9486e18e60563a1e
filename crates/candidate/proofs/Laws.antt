-- The definitions, from what each call of the code gave and each test said. Assumes nothing.
use mathlib.Core.Path.{◌≡◌, sym, ap, ◌∙◌}
use mathlib.Core.Bool.{Bool, true, false, ◌||◌, cond}
use lib.Ieee.{Float, binary32, sub, mul, lt, le}
use Rattle.floats.specs.Count.{half}
use Rattle.emath.specs.declared.Rangef.{Rangef}
use Rattle.emath.specs.Range.{min_f, span_of, center_of, intersection_of}
use Rattle.emath.specs.declared.Vec2.{Vec2}
use Rattle.grid.specs.Grid.{magnitude_of}
use Rattle.candidate.specs.Candidate.{zero, has_significant_overlap, range_diff, is_farther}

-- ---- `range_diff`
module _ (a b o : Rangef) (wide narrow least common : Float) (t : Bool) (O : o ≡ intersection_of a b) (W : wide ≡ span_of b) (N : narrow ≡ span_of a) (L : least ≡ min_f wide narrow) (C : common ≡ span_of o) (h : le (mul binary32 half least) common ≡ t) where
  overlap_is : has_significant_overlap a b ≡ t
  unfolding has_significant_overlap
  overlap_is = sym ((λ i. le (mul binary32 half (L i)) (C i)) ∙ (λ i. le (mul binary32 half (min_f (W i) (N i))) (span_of (O i)))) ∙ h

  pub overlapping : t ≡ true → zero ≡ range_diff a b
  unfolding range_diff
  overlapping e = ap (λ (t : Bool). cond t zero (sub binary32 (center_of a) (center_of b))) (sym (overlap_is ∙ e))

  pub separate : t ≡ false → (x y : Float) → x ≡ center_of a → y ≡ center_of b → sub binary32 x y ≡ range_diff a b
  unfolding range_diff
  separate e x y X Y = (λ i. sub binary32 (X i) (Y i)) ∙ ap (λ (t : Bool). cond t zero (sub binary32 (center_of a) (center_of b))) (sym (overlap_is ∙ e))

-- ---- `is_farther`
module _ (v : Vec2) (limit x : Float) (X : x ≡ magnitude_of v.x) where
  pub far_across : lt limit x ≡ true → true ≡ is_farther v limit
  unfolding is_farther
  far_across h = sym (ap (λ (b : Bool). b || lt limit (magnitude_of v.y)) (ap (lt limit) (sym X) ∙ h))

  pub far_along : lt limit x ≡ false → (y : Float) → y ≡ magnitude_of v.y → lt limit y ≡ is_farther v limit
  unfolding is_farther
  far_along h y Y = ap (lt limit) Y ∙ sym (ap (λ (b : Bool). b || lt limit (magnitude_of v.y)) (ap (lt limit) (sym X) ∙ h))
