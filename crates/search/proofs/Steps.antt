-- A walk over the table keeps the least of what is in the cone, and the code's finds what is defined. Assumes nothing.
use mathlib.Core.Path.{◌≡◌, refl, sym, ap, ◌∙◌}
use Prim.Native.Nat.{ℕ}
use native.Mathlib.Omega.{arith}
use mathlib.Core.Bool.{Bool, true, false, not, ◌||◌, cond, false≢true}
use mathlib.Core.List.{List, [], ◌∷◌}
use lib.Dec.{eqb}
use lib.Ieee.{Float}
use borrow.Author.Tests.{eq-eqb}
use Rattle.emath.specs.declared.Rect.{Rect}
use Rattle.std.specs.Prelude.{Option, None, Some}
use Rattle.candidate.specs.Candidate.{to_candidate, judge_of}
use Rattle.candidate.proofs.Reach.{scored_plain, scored_finite}
use Rattle.search.specs.declared.Candidate.{Candidate}
use Rattle.search.specs.declared.Scored.{Scored}
use Rattle.search.specs.Search.{is_candidate, considered_of, joined, in_cone_of, is_better, first_unbeaten, find_of}
use Rattle.search.specs.Walk.{nothing_yet, kept_of, taken_of, step_of, walk_of}
use Rattle.search.proofs.Better.{Good}
use Rattle.search.proofs.Least.{AllGood, pick_good, least_of, least_good, least_found}

-- the first takes the place of nothing
abbrev pub Starts : (Scored → Scored → Bool) → List Scored → Type 0
Starts takes [] = Unit {0}
Starts takes (s ∷ rest) = takes s nothing_yet ≡ true

abbrev pub start_of : (Scored → Scored → Bool) → List Scored → Scored
start_of better [] = nothing_yet
start_of better (s ∷ rest) = least_of better s rest

-- what is kept is a candidate, if there is one
pub start_none : (better : Scored → Scored → Bool) (l : List Scored) → AllGood l → (start_of better l).candidate.id ≡ 0 → l ≡ []
start_none better [] L e = refl
start_none better (s ∷ rest) L e = absurd ((least_good better s rest L.0 L.1).some_id e)

module _ (focused : ℕ) (current : Rect) (direction : ℕ) where
  -- ---- what is in the cone has a plain score below infinity and an id
  pub good : (c : Candidate) (x : Float) → considered_of focused current direction c ≡ Some x → Good (record { score = x; candidate = c })
  unfolding considered_of
  good c x e = go (is_candidate focused c.id) refl e
    where
      go : (t : Bool) → is_candidate focused c.id ≡ t → cond t (judge_of (to_candidate c.rect current) direction) None ≡ Some x → Good (record { score = x; candidate = c })
      go true k h = record {
        score_plain = scored_plain (to_candidate c.rect current) direction x h;
        score_finite = scored_finite (to_candidate c.rect current) direction x h;
        some_id = λ z. false≢true (ap (λ (u : Bool). not (u || eqb c.id focused)) (sym (eq-eqb c.id 0 z)) ∙ k);
      }
      go false k h = absurd (let n : ◌≡◌ {A = ℕ} 0 1 = cc in omega arith)

  pub cone_good : (table : List Candidate) → AllGood (in_cone_of focused current direction table)
  unfolding in_cone_of
  cone_good [] = tt
  cone_good (c ∷ rest) = go (considered_of focused current direction c) refl (cone_good rest)
    where
      go : (j : Option Float) → considered_of focused current direction c ≡ j → AllGood (in_cone_of focused current direction rest) → AllGood (joined j c (in_cone_of focused current direction rest))
      go None e l = l
      go (Some x) e l = (good c x e, l)

  -- ---- a walk by any rule
  module _ (better : Scored → Scored → Bool) where
    walk_least : (table : List Candidate) (b : Scored) → Good b → walk_of better focused current direction b table ≡ least_of better b (in_cone_of focused current direction table)
    unfolding walk_of step_of in_cone_of least_of kept_of
    walk_least [] b B = refl
    walk_least (c ∷ rest) b B = go (considered_of focused current direction c) refl (walk_least rest)
      where
        go : (j : Option Float) → considered_of focused current direction c ≡ j
            → ((k : Scored) → Good k → walk_of better focused current direction k rest ≡ least_of better k (in_cone_of focused current direction rest))
            → walk_of better focused current direction (taken_of better b c j) rest ≡ least_of better b (joined j c (in_cone_of focused current direction rest))
        go None e f = f b B
        go (Some x) e f =
            let new : Scored = record { score = x; candidate = c } in
            f (kept_of better b new) (pick_good (better new b) new b (good c x e) B)

    -- from nothing on
    pub walk_starts : (table : List Candidate) → Starts better (in_cone_of focused current direction table) → walk_of better focused current direction nothing_yet table ≡ start_of better (in_cone_of focused current direction table)
    unfolding walk_of step_of in_cone_of kept_of
    walk_starts [] h = refl
    walk_starts (c ∷ rest) h = go (considered_of focused current direction c) refl (walk_starts rest) h
      where
        cone : List Scored
        cone = in_cone_of focused current direction rest

        go : (j : Option Float) → considered_of focused current direction c ≡ j
            → (Starts better cone → walk_of better focused current direction nothing_yet rest ≡ start_of better cone)
            → Starts better (joined j c cone)
            → walk_of better focused current direction (taken_of better nothing_yet c j) rest ≡ start_of better (joined j c cone)
        go None e f h = f h
        go (Some x) e f h =
            let new : Scored = record { score = x; candidate = c } in
            ap (λ (t : Bool). walk_of better focused current direction (cond t new nothing_yet) rest) h ∙ walk_least rest new (good c x e)

-- ---- the code's walk
better_than_nothing : (a : Scored) → Good a → is_better a nothing_yet ≡ true
unfolding is_better
better_than_nothing a A = rw A.score_finite

module _ (focused : ℕ) (current : Rect) (direction : ℕ) (table : List Candidate) where
  abbrev cone : List Scored
  cone = in_cone_of focused current direction table

  least : (start_of is_better cone).candidate.id ≡ find_of table focused current direction
  unfolding find_of first_unbeaten
  least = go cone (cone_good focused current direction table)
    where
      go : (l : List Scored) → AllGood l → (start_of is_better l).candidate.id ≡ first_unbeaten l l
      go [] L = refl
      go (s ∷ rest) L = least_found s rest L.0 L.1

  pub walk_finds : (walk_of is_better focused current direction nothing_yet table).candidate.id ≡ find_of table focused current direction
  walk_finds = ap (λ (s : Scored). s.candidate.id) (walk_starts focused current direction is_better table (starts cone (cone_good focused current direction table))) ∙ least
    where
      starts : (l : List Scored) → AllGood l → Starts is_better l
      starts [] L = tt
      starts (s ∷ rest) L = better_than_nothing s L.0

  pub found_none : (find_of table focused current direction ≡ 0 → cone ≡ []) × (cone ≡ [] → find_of table focused current direction ≡ 0)
  found_none = (λ e. start_none is_better cone (cone_good focused current direction table) (least ∙ e), λ e. sym least ∙ ap (λ (l : List Scored). (start_of is_better l).candidate.id) e)
