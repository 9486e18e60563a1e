-- Each return of `is_better` and of `consider` is a turn of the walk. Assumes nothing.
use mathlib.Core.Path.{◌≡◌, refl, sym, ap, ◌∙◌}
use Prim.Native.Nat.{ℕ}
use mathlib.Core.Bool.{Bool, true, false, not, ◌||◌, cond}
use lib.Dec.{eqb}
use lib.Ieee.{Float}
use borrow.Author.Tests.{eq-eqb, ne_eqb}
use Rattle.floats.proofs.Order.{lt_apart}
use Rattle.emath.specs.declared.Rect.{Rect}
use Rattle.emath.specs.declared.Vec2.{Vec2}
use Rattle.std.specs.Prelude.{Option, None, Some}
use Rattle.candidate.specs.Candidate.{to_candidate, judge_of, is_farther}
use Rattle.candidate.proofs.Reach.{farther_loses}
use Rattle.search.specs.declared.Candidate.{Candidate}
use Rattle.search.specs.declared.Scored.{Scored}
use Rattle.search.specs.Search.{considered_of, is_better}
use Rattle.search.specs.Walk.{kept_of, taken_of, step_of}

module _ (focused : ℕ) (current : Rect) (direction : ℕ) (best : Scored) (c : Candidate) where
  abbrev step : Scored
  step = step_of is_better focused current direction best c

  stays : considered_of focused current direction c ≡ None → best ≡ step
  unfolding step_of
  stays e = ap (taken_of is_better best c) (sym e)

  -- ---- no candidate
  pub free_place : c.id ≡ 0 → best ≡ step
  free_place h = stays (unfold considered_of in ap (λ (t : Bool). cond (not (t || eqb c.id focused)) (judge_of (to_candidate c.rect current) direction) None) (eq-eqb c.id 0 h))

  pub itself : (c.id ≡ 0 → ⊥) → c.id ≡ focused → best ≡ step
  unfolding considered_of
  itself z h = stays (λ i. cond (not (ne_eqb c.id 0 z i || eq-eqb c.id focused h i)) (judge_of (to_candidate c.rect current) direction) None)

  -- ---- a candidate, judged or passed over
  module _ (z : c.id ≡ 0 → ⊥) (other : c.id ≡ focused → ⊥) (v : Vec2) (d : v ≡ to_candidate c.rect current) where
    judged : considered_of focused current direction c ≡ judge_of v direction
    unfolding considered_of
    judged = λ i. cond (not (ne_eqb c.id 0 z i || ne_eqb c.id focused other i)) (judge_of (sym d i) direction) None

    pub passed_over : is_farther v best.score ≡ true → best ≡ step
    unfolding step_of kept_of is_better
    passed_over h = go (judge_of v direction) refl ∙ ap (taken_of is_better best c) (sym judged)
      where
        go : (j : Option Float) → judge_of v direction ≡ j → best ≡ taken_of is_better best c j
        go None e = refl
        go (Some x) e = let k = lt_apart best.score x (farther_loses v direction x best.score e h) in rw (k.0, k.1)

    pub outside : (j : Option Float) → j ≡ judge_of v direction → j ≡ None → best ≡ step
    outside j e k = stays (judged ∙ sym e ∙ k)

    module _ (j : Option Float) (e : j ≡ judge_of v direction) (x : Float) (k : j ≡ Some x) (t : Bool) (b : t ≡ is_better (record { score = x; candidate = c }) best) where
      kept : cond t (record { score = x; candidate = c }) best ≡ step
      unfolding step_of kept_of
      kept = ap (λ (u : Bool). cond u (record { score = x; candidate = c }) best) b ∙ ap (taken_of is_better best c) (sym (judged ∙ sym e ∙ k))

      pub taken : t ≡ true → record { score = x; candidate = c } ≡ step
      taken h = ap (λ (u : Bool). cond u (record { score = x; candidate = c }) best) (sym h) ∙ kept

      pub left : t ≡ false → best ≡ step
      left h = ap (λ (u : Bool). cond u (record { score = x; candidate = c }) best) (sym h) ∙ kept
