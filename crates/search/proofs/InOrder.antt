-- Where the places stand in the order of the tie rule, the Rust's own loop and the code's make the same choice at each. Assumes nothing.
use mathlib.Core.Path.{◌≡◌, refl, sym, ap, ◌∙◌}
use mathlib.Core.Logic.{◌⊎◌, inl, inr}
use Prim.Native.Nat.{ℕ}
use mathlib.Core.Bool.{Bool, true, false, ◌&&◌, ◌||◌, cond, false≢true}
use mathlib.Core.List.{List, [], ◌∷◌}
use lib.Dec.{eqb}
use lib.Ieee.{inf, lt, eq}
use borrow.Author.Tests.{ne_eqb}
use Rattle.emath.specs.declared.Rect.{Rect}
use Rattle.std.specs.Prelude.{Option, None, Some, Float}
use Rattle.search.specs.declared.Candidate.{Candidate}
use Rattle.search.specs.declared.Scored.{Scored}
use Rattle.search.specs.Search.{considered_of, goes_first, is_better, find_of}
use Rattle.search.specs.Walk.{nothing_yet, kept_of, taken_of, step_of, walk_of}
use Rattle.search.specs.EguiWalk.{is_smaller, egui_finds, goes_before, in_tie_order}
use Rattle.search.proofs.TieRule.{one_before}
use Rattle.search.proofs.Better.{Good}
use Rattle.search.proofs.Steps.{good, walk_finds}

both : (p q : Bool) → (p && q) ≡ true → (p ≡ true) × (q ≡ true)
both true q h = (refl, h)
both false q h = absurd (false≢true h)

-- of a place that is not free
taken_place : (n : ℕ) (q : Bool) → (n ≡ 0 → ⊥) → (eqb n 0 || q) ≡ true → q ≡ true
taken_place n q z h = sym (ap (λ (p : Bool). p || q) (ne_eqb n 0 z)) ∙ h

-- the best so far: none yet, or one that goes first before all that is left
abbrev Leads : Scored → List Candidate → Type 0
Leads b table = (b.score ≡ inf false) ⊎ (goes_before b.candidate table ≡ true)

leads_on : (b : Scored) (c : Candidate) (rest : List Candidate) → Leads b (c ∷ rest) → Leads b rest
unfolding goes_before
leads_on b c rest (inl e) = inl e
leads_on b c rest (inr h) = inr (both (eqb c.id 0 || goes_first b.candidate c) (goes_before b.candidate rest) h).1

-- the code takes more than the Rust only at equal scores: no score equals infinity, and what comes later does not go first
same_choice : (a b : Scored) (rest : List Candidate) → Good a → Leads b (a.candidate ∷ rest) → is_smaller a b ≡ is_better a b
unfolding is_smaller is_better goes_before
same_choice a b rest A (inl e) = smaller (lt a.score b.score) (eq a.score b.score && goes_first a.candidate b.candidate) (ap (lt a.score) e ∙ A.score_finite)
  where
    smaller : (p q : Bool) → p ≡ true → p ≡ (p || q)
    smaller true q h = refl
    smaller false q h = absurd (false≢true h)
same_choice a b rest A (inr h) =
    later (lt a.score b.score) (eq a.score b.score) (goes_first a.candidate b.candidate)
    (one_before b.candidate a.candidate (taken_place a.candidate.id (goes_first b.candidate a.candidate) A.some_id (both (eqb a.candidate.id 0 || goes_first b.candidate a.candidate) (goes_before b.candidate rest) h).0))
  where
    later : (p q s : Bool) → s ≡ false → p ≡ (p || (q && s))
    later true q s g = refl
    later false true s g = sym g
    later false false s g = refl

module _ (focused : ℕ) (current : Rect) (direction : ℕ) where
  abbrev Same : Scored → List Candidate → Type 0
  Same b table = walk_of is_smaller focused current direction b table ≡ walk_of is_better focused current direction b table

  walk_same : (table : List Candidate) (b : Scored) → Leads b table → in_tie_order table ≡ true → Same b table
  unfolding walk_of step_of kept_of in_tie_order
  walk_same [] b B h = refl
  walk_same (c ∷ rest) b B h = go (considered_of focused current direction c) refl (λ k K. walk_same rest k K (both (eqb c.id 0 || goes_before c rest) (in_tie_order rest) h).1)
    where
      go : (j : Option Float) → considered_of focused current direction c ≡ j → ((k : Scored) → Leads k rest → Same k rest)
          → walk_of is_smaller focused current direction (taken_of is_smaller b c j) rest ≡ walk_of is_better focused current direction (taken_of is_better b c j) rest
      go None e f = f b (leads_on b c rest B)
      go (Some x) e f =
          let new : Scored = record { score = x; candidate = c } in
          let N = good focused current direction c x e in
          ap (λ (t : Bool). walk_of is_smaller focused current direction (cond t new b) rest) (same_choice new b rest N B)
          ∙ f (kept_of is_better b new) (leads (is_better new b) new (inr (taken_place c.id (goes_before c rest) N.some_id (both (eqb c.id 0 || goes_before c rest) (in_tie_order rest) h).0)))
        where
          leads : (t : Bool) (new : Scored) → Leads new rest → Leads (cond t new b) rest
          leads true new K = K
          leads false new K = leads_on b c rest B

pub by_the_order : (table : List Candidate) (focused : ℕ) (current : Rect) (direction : ℕ) → in_tie_order table ≡ true → (egui_finds focused current direction table).candidate.id ≡ find_of table focused current direction
unfolding egui_finds
by_the_order table focused current direction h =
    ap (λ (s : Scored). s.candidate.id) (walk_same focused current direction table nothing_yet (inl refl) h) ∙ walk_finds focused current direction table
