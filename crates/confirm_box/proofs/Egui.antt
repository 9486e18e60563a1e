-- Tests, options, the list of cached ids and the search, of an id that is not among them. Assumes nothing.
use lib.ListN.{length-append}
use native.Mathlib.Omega.{arith}
use Rattle.std.specs.Prelude.{ℕ, suc, ◌≤◌, length, Bool, true, false, cond, ◌&&◌, ◌||◌, ◌≡◌, Option, None, Some, List, [], ◌∷◌, ◌++◌, eqb, Float}
use mathlib.Core.Path.{refl, sym, ap, ◌∙◌, subst}
use mathlib.Core.Bool.{true≢false, false≢true, or-true}
use borrow.Author.Tests.{eqb-true, eq-eqb}
use Rattle.emath.specs.declared.Rect.{Rect}
use Rattle.search.specs.declared.Candidate.{Candidate}
use Rattle.search.specs.declared.Scored.{Scored}
use Rattle.search.specs.Search.{considered_of, joined, in_cone_of, is_better, is_beaten, first_unbeaten, find_of}
use Rattle.focus_cache.specs.Cache.{has_id, enlisted, without}
use Rattle.focus_end.specs.End.{rect_in, kept_with, updated}
use Rattle.focus_maps.specs.Egui.{is, id_of, widget_of}

-- ---- tests
pub neither : (a b : Bool) → a || b ≡ false → (a ≡ false) × (b ≡ false)
neither true b h = absurd (true≢false h)
neither false b h = (refl, h)

pub both : (a b : Bool) → a && b ≡ true → (a ≡ true) × (b ≡ true)
both true b h = (refl, h)
both false b h = absurd (false≢true h)

pub either : {A : Type 0} (P : A → Type 0) (b : Bool) {x y : A} → P x → P y → P (cond b x y)
either P true p q = p
either P false p q = q

pub widget_is : (o : Option ℕ) (p : ℕ) → is (id_of (widget_of o)) p ≡ is o p
widget_is None p = refl
widget_is (Some id) p = refl

-- an option that is another id is not p
pub is_same : (o : Option ℕ) (id p : ℕ) → is o id ≡ true → is o p ≡ false → eqb id p ≡ false
is_same None id p e h = absurd (false≢true e)
is_same (Some x) id p e h = subst (λ (n : ℕ). eqb n p ≡ false) (eqb-true x id e) h

-- ---- the list of cached ids
module _ (p : ℕ) where
  -- an id that is in the list is not one that is not
  pub other_id : (l : List Candidate) (id : ℕ) → has_id l p ≡ false → has_id l id ≡ true → eqb id p ≡ false
  other_id l id h k = go (eqb id p) refl
    where
      go : (b : Bool) → eqb id p ≡ b → b ≡ false
      go true e = absurd (true≢false (sym k ∙ ap (has_id l) (eqb-true id p e) ∙ h))
      go false e = refl

  not_more : (l : List Candidate) (d : Candidate) → eqb d.id p ≡ false → has_id l p ≡ false → has_id (l ++ (d ∷ [])) p ≡ false
  unfolding has_id
  not_more [] d n h = rw n
  not_more (e ∷ l) d n h = let (a, b) = neither (eqb e.id p) _ h in rw a (not_more l d n b)

  pub not_enlisted : (l : List Candidate) (id : ℕ) → eqb id p ≡ false → has_id l p ≡ false → has_id (enlisted l id) p ≡ false
  unfolding enlisted
  not_enlisted l id n h = either (λ (c : List Candidate). has_id c p ≡ false) (has_id l id) h (not_more l _ n h)

  pub not_without : (l : List Candidate) (id : ℕ) → has_id l p ≡ false → has_id (without l id) p ≡ false
  unfolding has_id without
  not_without [] id h = refl
  not_without (e ∷ l) id h = let (a, b) = neither (eqb e.id p) _ h in either (λ (c : List Candidate). has_id c p ≡ false) (eqb e.id id) (not_without l id b) (rw a (not_without l id b))

  pub itself_without : (l : List Candidate) → has_id (without l p) p ≡ false
  unfolding has_id without
  itself_without [] = refl
  itself_without (e ∷ l) = go (eqb e.id p) refl (itself_without l)
    where
      go : (b : Bool) → eqb e.id p ≡ b → has_id (without l p) p ≡ false → has_id (cond b (without l p) (e ∷ without l p)) p ≡ false
      go true q r = r
      go false q r = rw q r

  pub not_updated : (used l : List Candidate) → has_id l p ≡ false → has_id (updated used l) p ≡ false
  unfolding has_id updated
  not_updated used [] h = refl
  not_updated used (e ∷ l) h = let (a, b) = neither (eqb e.id p) _ h in go (rect_in used e.id) a (not_updated used l b)
    where
      go : (r : Option Rect) → eqb e.id p ≡ false → has_id (updated used l) p ≡ false → has_id (kept_with r e.id (updated used l)) p ≡ false
      go None a b = b
      go (Some rect) a b = rw a b

pub has_more : (l : List Candidate) (d : Candidate) (id : ℕ) → has_id l id ≡ true → has_id (l ++ (d ∷ [])) id ≡ true
unfolding has_id
has_more [] d id h = absurd (false≢true h)
has_more (e ∷ l) d id h = go (eqb e.id id) h (has_more l d id)
  where
    go : (b : Bool) → (b || has_id l id) ≡ true → (has_id l id ≡ true → has_id (l ++ (d ∷ [])) id ≡ true) → (b || has_id (l ++ (d ∷ [])) id) ≡ true
    go true h more = refl
    go false h more = more h

pub enlisted_length : (l : List Candidate) (id : ℕ) → length (enlisted l id) ≤ suc (length l)
unfolding enlisted
enlisted_length l id = either (λ (c : List Candidate). length c ≤ suc (length l)) (has_id l id) (omega arith) (simp length-append (omega arith))

-- ---- the search finds nothing or a cached id
module _ (focused_id : ℕ) (current : Rect) (direction : ℕ) where
  abbrev Cached : List Candidate → ℕ → Type 0
  Cached l n = eqb n 0 ≡ false → has_id l n ≡ true

  first_cached : (l : List Candidate) (all : List Scored) → Cached l (first_unbeaten all (in_cone_of focused_id current direction l))
  unfolding has_id in_cone_of first_unbeaten
  first_cached [] all = λ z. absurd (true≢false z)
  first_cached (e ∷ l) all = go (considered_of focused_id current direction e) (λ n k z. rw (k z) (or-true (eqb e.id n))) (first_cached l all)
    where
      rest : List Scored
      rest = in_cone_of focused_id current direction l

      go : (o : Option Float) → ((n : ℕ) → Cached l n → Cached (e ∷ l) n) → Cached l (first_unbeaten all rest) → Cached (e ∷ l) (first_unbeaten all (joined o e rest))
      go None more k = more _ k
      go (Some x) more k = either (Cached (e ∷ l)) (is_beaten is_better all (record { score = x; candidate = e })) (more _ k) (λ z. rw (eq-eqb e.id e.id refl))

  pub found_cached : (l : List Candidate) → Cached l (find_of l focused_id current direction)
  unfolding find_of
  found_cached l = first_cached l _
