-- The table from a place on: the place read, and those after it. Assumes nothing.
use mathlib.Core.Path.{◌≡◌, refl, sym, ap, ◌∙◌}
use Prim.Native.Nat.{ℕ, zero, suc, ◌+◌, ◌*◌, ◌/◌, ◌≤◌, ◌<◌, min}
use native.Mathlib.Decide.{dec_lt}
use native.Mathlib.Nat.{add-zero}
use native.Mathlib.Numerals.{add-one}
use native.Mathlib.Omega.{arith}
use mathlib.Core.Bool.{Bool, true, false, cond}
use mathlib.Core.List.{List, [], ◌∷◌}
use lib.Dec.{ltb}
use lib.ListN.{length, get_or, drop, length-drop, drop_of_length-le}
use lib.Seq.{drop-cons, drop-nil, get_or-drop, drop-drop}
use lib.Ieee.{Float, nan}
use borrow.Author.Tests.{ltb-true, ltb-false, lt-ltb, le-ltb}
use Rattle.emath.specs.declared.Rect.{Rect}
use Rattle.search.specs.declared.Candidate.{Candidate}
use Rattle.search.specs.declared.Scored.{Scored}
use Rattle.search.specs.Search.{place_of, table_of, is_better}
use Rattle.search.specs.Walk.{step_of, walk_of}

pub no_room : (ids : List ℕ) (rects : List Float) → length rects < 4 → table_of ids rects ≡ []
unfolding table_of
no_room [] rects h = refl
no_room (id ∷ ids) rects h = rw (lt-ltb (length rects) 4 h)

pub first_place : (id : ℕ) (ids : List ℕ) (rects : List Float) → 4 ≤ length rects → table_of (id ∷ ids) rects ≡ place_of id rects ∷ table_of ids (drop 4 rects)
unfolding table_of
first_place id ids rects h = rw (le-ltb (length rects) 4 h)

unfoldable pub rest_of : List ℕ → List Float → ℕ → List Candidate
rest_of ids rects i = table_of (drop i ids) (drop (4 * i) rects)

pub rest_all : (ids : List ℕ) (rects : List Float) → rest_of ids rects 0 ≡ table_of ids rects
unfolding rest_of
rest_all ids rects = refl

pub rest_drop : (ids : List ℕ) (rects : List Float) (i : ℕ) → drop i (table_of ids rects) ≡ rest_of ids rects i
unfolding rest_of table_of
rest_drop [] rects i = simp drop-nil
rest_drop (id ∷ ids) rects zero = refl
rest_drop (id ∷ ids) rects (suc i) = go (dec_lt (length rects) 4) (rest_drop ids (drop 4 rects) i)
  where
    go : Dec (length rects < 4) → drop i (table_of ids (drop 4 rects)) ≡ table_of (drop i ids) (drop (4 * i) (drop 4 rects)) → drop (suc i) (table_of (id ∷ ids) rects) ≡ table_of (drop i ids) (drop (4 * suc i) rects)
    go (yes h) r = rw (no_room (id ∷ ids) rects h, no_room (drop i ids) (drop (4 * suc i) rects) (simp length-drop (omega arith)))
    go (no h) r =
        let e : 4 + 4 * i ≡ 4 * suc i = omega arith in
        rw (first_place id ids rects (omega arith), ← e, ← drop-drop (4 * i) 4 rects) r

module _ (ids : List ℕ) (rects : List Float) (i : ℕ) where
  abbrev corner : ℕ → Float
  corner k = get_or rects (4 * i + k) nan

  -- the place i, as the code reads it
  abbrev pub place_at : Candidate
  place_at = record { id = get_or ids i 0; rect = record { min = record { x = get_or rects (4 * i) nan; y = corner 1 }; max = record { x = corner 2; y = corner 3 } } }

  same_place : place_of (get_or ids i 0) (drop (4 * i) rects) ≡ place_at
  same_place = simp (get_or-drop, add-zero)

  pub rest_more : i < min (length ids) (length rects / 4) → rest_of ids rects i ≡ place_at ∷ rest_of ids rects (i + 1)
  unfolding rest_of table_of
  rest_more h =
      let here = drop (4 * i) rects in
      let e : 4 * i + 4 ≡ 4 * (i + 1) = omega arith in
      ap (λ (l : List ℕ). table_of l here) (drop-cons ids i 0 (omega arith))
      ∙ ap (λ (t : Bool). cond t [] (place_of (get_or ids i 0) here ∷ table_of (drop (suc i) ids) (drop 4 here))) (le-ltb (length here) 4 (simp length-drop (omega arith)))
      ∙ (λ j. same_place j ∷ table_of (drop (sym (add-one i) j) ids) (drop-drop 4 (4 * i) rects j))
      ∙ ap (λ (k : ℕ). place_at ∷ table_of (drop (i + 1) ids) (drop k rects)) e

  pub table_get : (d : Candidate) → i < min (length ids) (length rects / 4) → get_or (table_of ids rects) i d ≡ place_at
  table_get d h = rw add-zero at (sym (get_or-drop i (table_of ids rects) 0 d) ∙ ap (λ (t : List Candidate). get_or t 0 d) (rest_drop ids rects i ∙ rest_more h))

  pub rest_none : min (length ids) (length rects / 4) ≤ i → rest_of ids rects i ≡ []
  unfolding rest_of table_of
  rest_none h = go (ltb i (length ids)) (ltb-true i (length ids)) (ltb-false i (length ids))
    where
      go : (t : Bool) → (t ≡ true → i < length ids) → (t ≡ false → length ids ≤ i) → table_of (drop i ids) (drop (4 * i) rects) ≡ []
      go true f g = no_room (drop i ids) (drop (4 * i) rects) (simp length-drop (omega (arith, f refl)))
      go false f g = rw (drop_of_length-le ids (g refl))

-- ---- the walk, place by place; b is the best so far
module _ (ids : List ℕ) (rects : List Float) (focused : ℕ) (current : Rect) (direction : ℕ) where
  abbrev pub walk_from : Scored → ℕ → Scored
  walk_from b i = walk_of is_better focused current direction b (rest_of ids rects i)

  module _ (b : Scored) (i : ℕ) where
    pub walk_more : i < min (length ids) (length rects / 4) → (r : Scored) → r ≡ step_of is_better focused current direction b (place_at ids rects i) → walk_from r (i + 1) ≡ walk_from b i
    unfolding walk_of
    walk_more h r e = ap (λ (k : Scored). walk_from k (i + 1)) e ∙ ap (walk_of is_better focused current direction b) (sym (rest_more ids rects i h))

    pub walk_done : min (length ids) (length rects / 4) ≤ i → walk_from b i ≡ b
    unfolding walk_of
    walk_done h = ap (walk_of is_better focused current direction b) (rest_none ids rects i h)
