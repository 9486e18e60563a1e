-- After every list of calls no id stands twice in egui's cache. Assumes nothing.
use Rattle.std.specs.Prelude.{Option, None, Some}
use mathlib.Core.Path.{◌≡◌, refl, sym}
use mathlib.Core.Bool.{Bool, true, false, cond, ◌||◌, true≢false}
use mathlib.Core.List.{List, [], ◌∷◌, ◌++◌}
use Prim.Native.Nat.{ℕ, zero, suc}
use lib.Dec.{eqb}
use borrow.Author.Tests.{eqb-false, ne_eqb}
use Rattle.refusal.specs.Refusal.{kept}
use Rattle.refusal.specs.Limits.{cached}
use Rattle.emath.specs.declared.Rect.{Rect}
use Rattle.emath.specs.Rect.{everything}
use Rattle.input.specs.FocusDirection.{is_cardinal}
use Rattle.search.specs.declared.Candidate.{Candidate}
use Rattle.focus_rules.specs.declared.Nav.{Nav}
use Rattle.focus_cache.specs.Cache.{held_in, has_id, enlisted, without}
use Rattle.used.specs.Used.{ids_of, elem, repeated}
use Rattle.focus_end.specs.End.{rect_in, kept_with, updated, refreshed, cache_ended}
use Rattle.focus.specs.declared.Focus.{Focus}
use Rattle.focus.specs.Focus.{new_focus, held_of, used_of}
use Rattle.focus_maps.specs.Calls.{Call, Begin, Interest, End, SetModalLayer, RequestFocus, RequestFocusNextFrame, SurrenderFocus, IgnoreFocus, SetFocusLockFilter, MoveFocus, Calls, meaning_of, done_by, refusal_of, record_after, egui_after}
use Rattle.focus_maps.proofs.Steps.{limit, accepted, interest_held, end_held, ignore_held}
use Rattle.focus_maps.proofs.Holds.{leaves, holds}

neither : (a b : Bool) → a || b ≡ false → (a ≡ false) × (b ≡ false)
neither true b h = absurd (true≢false h)
neither false b h = (refl, h)

abbrev pub Distinct : List Candidate → Type 0
Distinct l = repeated (ids_of l) ≡ false

-- ---- a part of the entries, in their order
abbrev Part : List Candidate → List Candidate → Type 0
Part l m = ((id : ℕ) → elem (ids_of m) id ≡ false → elem (ids_of l) id ≡ false) × (Distinct m → Distinct l)

part_less : (e : Candidate) (l m : List Candidate) → Part l m → Part l (e ∷ m)
unfolding elem repeated
part_less e l m (p, q) = (λ id h. p id (neither (eqb e.id id) _ h).1, λ h. q (neither (elem (ids_of m) e.id) _ h).1)

part_more : (e : Candidate) (rect : Rect) (l m : List Candidate) → Part l m → Part (record { id = e.id; rect = rect } ∷ l) (e ∷ m)
unfolding elem repeated
part_more e rect l m (p, q) =
    (λ id h. let (a, b) = neither (eqb e.id id) _ h in rw a (p id b), λ h. let (a, b) = neither (elem (ids_of m) e.id) _ h in rw (p e.id a) (q b))

without_part : (l : List Candidate) (id : ℕ) → Part (without l id) l
unfolding without
without_part [] id = (λ x h. h, λ h. h)
without_part (e ∷ l) id = go (eqb e.id id) (without_part l id)
  where
    go : (b : Bool) → Part (without l id) l → Part (cond b (without l id) (e ∷ without l id)) (e ∷ l)
    go true p = part_less e (without l id) l p
    go false p = part_more e e.rect (without l id) l p

updated_part : (used l : List Candidate) → Part (updated used l) l
unfolding updated
updated_part used [] = (λ x h. h, λ h. h)
updated_part used (e ∷ l) = go (rect_in used e.id) (updated_part used l)
  where
    go : (r : Option Rect) → Part (updated used l) l → Part (kept_with r e.id (updated used l)) (e ∷ l)
    go None p = part_less e (updated used l) l p
    go (Some rect) p = part_more e rect (updated used l) l p

pub ended_distinct : (nav : Nav) (held used : List Candidate)
    → Distinct held → Distinct (cache_ended nav held used)
unfolding cache_ended refreshed
ended_distinct nav held used h = go (is_cardinal nav.focus_direction) (eqb nav.focused 0)
  where
    go : (t u : Bool) → Distinct (cond t (cond u held (updated used held)) held)
    go true true = h
    go true false = (updated_part used held).1 h
    go false u = h

-- ---- one entry more, of a new id
module _ (d : Candidate) where
  more_elem : (l : List Candidate) (id : ℕ) → eqb d.id id ≡ false → elem (ids_of l) id ≡ false → elem (ids_of (l ++ (d ∷ []))) id ≡ false
  unfolding elem
  more_elem [] id n h = rw n
  more_elem (e ∷ l) id n h = let (a, b) = neither (eqb e.id id) _ h in rw a (more_elem l id n b)

  more_distinct : (l : List Candidate) → has_id l d.id ≡ false → Distinct l → Distinct (l ++ (d ∷ []))
  unfolding elem repeated has_id
  more_distinct [] n h = refl
  more_distinct (e ∷ l) n h =
      let (a, b) = neither (eqb e.id d.id) _ n in
      let (p, q) = neither (elem (ids_of l) e.id) _ h in
      rw (more_elem l e.id (ne_eqb d.id e.id (λ s. eqb-false e.id d.id a (sym s))) p) (more_distinct l b q)

enlisted_distinct : (l : List Candidate) (id : ℕ) → Distinct l → Distinct (enlisted l id)
unfolding enlisted
enlisted_distinct l id h = go (has_id l id) refl
  where
    d : Candidate
    d = record { id = id; rect = everything }

    go : (b : Bool) → has_id l id ≡ b → Distinct (cond b l (l ++ (d ∷ [])))
    go true e = h
    go false e = more_distinct d l e h

-- ---- the calls
module _ (f : Focus) (h : Distinct (held_of f)) where
  accepted_distinct : (call : Call) → refusal_of (limit f) call (meaning_of f) ≡ 0 → Distinct (held_of (accepted call f))
  accepted_distinct (Begin events) e = h
  accepted_distinct (Interest id) e = rw (interest_held f id e) (enlisted_distinct (held_of f) id h)
  accepted_distinct (End used) e = rw (end_held f used) (ended_distinct f.nav (held_of f) (used_of used) h)
  accepted_distinct (SetModalLayer layer) e = h
  accepted_distinct (RequestFocus id) e = h
  accepted_distinct (RequestFocusNextFrame id) e = h
  accepted_distinct (SurrenderFocus id) e = h
  accepted_distinct (IgnoreFocus id) e = rw (ignore_held f id) ((without_part (held_of f) id).1 h)
  accepted_distinct (SetFocusLockFilter id filter) e = h
  accepted_distinct (MoveFocus direction) e = h

  pub done_distinct : (call : Call) → Distinct (held_of (done_by call f).focus)
  done_distinct call = rw (leaves f call) (go (refusal_of (limit f) call (meaning_of f)) refl)
    where
      go : (r : ℕ) → refusal_of (limit f) call (meaning_of f) ≡ r → Distinct (held_of (kept r f (accepted call f)))
      go zero e = accepted_distinct call e
      go (suc r) e = h

held_distinct : (calls : Calls) → Distinct (held_of (record_after calls))
unfolding record_after new_focus held_in repeated
held_distinct [] = refl
held_distinct (call ∷ before) = done_distinct (record_after before) (held_distinct before) call

pub distinct : (calls : Calls) → Distinct (egui_after cached calls).focus_widgets_cache
distinct calls = rw (← (holds calls).1) (held_distinct calls)
