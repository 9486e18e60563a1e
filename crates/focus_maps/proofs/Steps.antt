-- Each call on the record: it leaves what is there, where it is refused, or else a record that means what egui's method leaves. Assumes nothing.
use mathlib.Core.Path.{◌≡◌, refl}
use mathlib.Core.Bool.{Bool, true, false, cond}
use mathlib.Core.List.{List}
use Prim.Native.Nat.{ℕ, zero, suc, ◌≤◌}
use native.Mathlib.Omega.{arith}
use lib.Dec.{eqb, ltb}
use lib.ListN.{length}
use borrow.Author.Tests.{ltb-false}
use Rattle.refusal.specs.Refusal.{bad_list, full, id_refusal, code_refusal, kept}
use Rattle.refusal.specs.Refusal.{none as notRefused}
use Rattle.refusal.specs.Limits.{used as usedLimit, last_direction}
use Rattle.refusal.proofs.Laws.{both_none}
use Rattle.layers.specs.Layers.{layer_refusal}
use Rattle.search.specs.declared.Candidate.{Candidate}
use Rattle.focus_rules.specs.declared.Nav.{Nav}
use Rattle.focus_rules.specs.Rules.{changed_to, with_modals, focus_on, with_next, with_direction, let_go, filtered_of}
use Rattle.focus_rules.specs.Rules as Rules
use Rattle.focus_cache.specs.Cache.{cache_on, room_in, enlisted, without, full_refusal, slot_after}
use Rattle.focus_cache.proofs.Entries.{held_length, held_on, on_room, without_length}
use Rattle.focus_pass.specs.Pass.{nav_begun, begin_of, interest_refusal, interest_of, ignore_of}
use Rattle.used.specs.Used.{used_refusal}
use Rattle.focus_end.specs.End.{cache_ended, nav_ended, end_of}
use Rattle.focus.specs.declared.Focus.{Focus}
use Rattle.focus.specs.declared.Used.{Used}
use Rattle.focus.specs.Focus.{Done, cache_of, held_of, events_of, used_of, focus_with, with_nav, begun_of, interested_of, ended_with, ended_of, ignored_of, modal_set, requested, requested_next, surrendered, filter_set, moved}
use Rattle.focus_maps.specs.Calls.{Call, Begin, Interest, End, SetModalLayer, RequestFocus, RequestFocusNextFrame, SurrenderFocus, IgnoreFocus, SetFocusLockFilter, MoveFocus, meaning_of, done_by, refusal_of, egui_call}
use Rattle.focus_maps.proofs.Means.{id_taken, layer_taken, on_means, next_means, letgo_means, filter_means, interest_means, ignore_means, modal_means}
use Rattle.focus_maps.proofs.Begun.{begin_means}
use Rattle.focus_maps.proofs.Ended.{ended_length, end_means}

-- ---- what an accepted call leaves: other fields, and other entries on the tables
abbrev on_nav : Focus → Nav → Focus
on_nav f nav = focus_with nav (cache_of f) f.count f.slot

abbrev filled : Focus → Nav → List Candidate → ℕ → Focus
filled f nav entries slot = focus_with nav (cache_on (cache_of f) entries) (length entries) slot

abbrev pub accepted : Call → Focus → Focus
accepted (Begin events) f = focus_with (nav_begun f.nav (held_of f) (events_of events)) (cache_of f) f.count 0
accepted (Interest id) f = filled f (Rules.interested_of f.nav id) (enlisted (held_of f) id) (slot_after (held_of f) f.slot id)
accepted (End used) f = filled f (nav_ended f.nav (held_of f) (used_of used)) (cache_ended f.nav (held_of f) (used_of used)) f.slot
accepted (SetModalLayer layer) f = on_nav f (with_modals f.nav f.nav.top_modal_layer layer)
accepted (RequestFocus id) f = on_nav f (focus_on f.nav id)
accepted (RequestFocusNextFrame id) f = on_nav f (with_next f.nav id)
accepted (SurrenderFocus id) f = on_nav f (let_go f.nav id)
accepted (IgnoreFocus id) f = filled f (let_go f.nav id) (without (held_of f) id) f.slot
accepted (SetFocusLockFilter id filter) f = on_nav f (filtered_of f.nav id filter)
accepted (MoveFocus direction) f = on_nav f (with_direction f.nav direction)

-- ---- a call leaves that, or where it is refused what is there
abbrev unless : ℕ → Focus → Focus → Done
unless refusal f g = record { focus = kept refusal f g; refusal = refusal }

module _ (f : Focus) where
  nav_done : (r : ℕ) (nav : Nav) → with_nav f (changed_to r f.nav nav) ≡ unless r f (on_nav f nav)
  nav_done zero nav = refl
  nav_done (suc r) nav = refl

  begin_done : (r : ℕ) (nav : Nav)
      → (let d = changed_to r f.nav nav in ◌≡◌ {A = Done} (record { focus = focus_with d.nav (cache_of f) f.count (kept d.refusal f.slot 0); refusal = d.refusal }) (unless r f (focus_with nav (cache_of f) f.count 0)))
  begin_done zero nav = refl
  begin_done (suc r) nav = refl

  abbrev with_entries : ℕ → Nav → List Candidate → ℕ → Done
  with_entries r nav entries slot = record { focus = focus_with (kept r f.nav nav) (kept r (cache_of f) (cache_on (cache_of f) entries)) (kept r f.count (length entries)) slot; refusal = r }

  fill_done : (r : ℕ) (nav : Nav) (entries : List Candidate) (slot : ℕ) → with_entries r nav entries (kept r f.slot slot) ≡ unless r f (filled f nav entries slot)
  fill_done zero nav entries slot = refl
  fill_done (suc r) nav entries slot = refl

  -- the slot stays
  stay_done : (r : ℕ) (nav : Nav) (entries : List Candidate) → with_entries r nav entries f.slot ≡ unless r f (filled f nav entries f.slot)
  stay_done zero nav entries = refl
  stay_done (suc r) nav entries = refl

  end_done : (b : Bool) (used : List Candidate)
      → cond b (record { focus = f; refusal = bad_list }) (ended_with f used) ≡ unless (cond b bad_list (used_refusal usedLimit used)) f (filled f (nav_ended f.nav (held_of f) used) (cache_ended f.nav (held_of f) used) f.slot)
  unfolding end_of
  end_done true used = refl
  end_done false used = stay_done _ _ _

  abbrev pub limit : ℕ
  limit = room_in f.ids f.rects

  pub done : (call : Call) → done_by call f ≡ unless (refusal_of limit call (meaning_of f)) f (accepted call f)
  unfolding begun_of begin_of interested_of interest_of interest_refusal full_refusal ended_of ignored_of ignore_of modal_set requested requested_next surrendered filter_set moved
  done (Begin events) = begin_done _ _
  done (Interest id) = fill_done _ _ _ _
  done (End used) = end_done (ltb usedLimit used.count) (used_of used)
  done (SetModalLayer layer) = nav_done (layer_refusal layer) _
  done (RequestFocus id) = nav_done (id_refusal id) _
  done (RequestFocusNextFrame id) = nav_done (id_refusal id) _
  done (SurrenderFocus id) = nav_done (id_refusal id) _
  done (IgnoreFocus id) = stay_done (id_refusal id) _ _
  done (SetFocusLockFilter id filter) = nav_done (id_refusal id) _
  done (MoveFocus direction) = nav_done (code_refusal direction last_direction) _

-- ---- what an accepted call leaves means what egui's method leaves
room_left : (t : Bool) (room n : ℕ) → ltb room n ≡ t → ◌≡◌ {A = ℕ} (cond t full notRefused) 0 → n ≤ room
room_left true room n e h = absurd (omega arith)
room_left false room n e h = ltb-false room n e

module _ (f : Focus) where
  held_fits : length (held_of f) ≤ limit f
  held_fits = omega (arith, held_length f.count f.ids f.rects)

  -- the entries that it leaves
  room_after : (id : ℕ) → refusal_of (limit f) (Interest id) (meaning_of f) ≡ 0 → (eqb id 0 ≡ false) × (length (enlisted (held_of f) id) ≤ limit f)
  room_after id e =
      let (p, q) = both_none (id_refusal id) (cond (ltb (limit f) (length (enlisted (held_of f) id))) full notRefused) e in
      (id_taken id p, room_left (ltb (limit f) (length (enlisted (held_of f) id))) _ _ refl q)

  pub interest_held : (id : ℕ) → refusal_of (limit f) (Interest id) (meaning_of f) ≡ 0 → held_of (accepted (Interest id) f) ≡ enlisted (held_of f) id
  interest_held id e = held_on (cache_of f) (enlisted (held_of f) id) (room_after id e).1

  pub end_held : (used : Used) → held_of (accepted (End used) f) ≡ cache_ended f.nav (held_of f) (used_of used)
  end_held used = held_on (cache_of f) (cache_ended f.nav (held_of f) (used_of used)) (omega (arith, ended_length f.nav (held_of f) (used_of used), held_fits))

  pub ignore_held : (id : ℕ) → held_of (accepted (IgnoreFocus id) f) ≡ without (held_of f) id
  ignore_held id = held_on (cache_of f) (without (held_of f) id) (omega (arith, without_length (held_of f) id, held_fits))

  pub accepted_means : (call : Call) → refusal_of (limit f) call (meaning_of f) ≡ 0 → meaning_of (accepted call f) ≡ egui_call call (meaning_of f)
  accepted_means (Begin events) e = begin_means f.nav (held_of f) (events_of events) e
  accepted_means (Interest id) e = rw (interest_held id e) (interest_means f.nav (held_of f) id (room_after id e).0)
  accepted_means (End used) e = rw (end_held used) (end_means f.nav (held_of f) (used_of used))
  accepted_means (SetModalLayer layer) e = modal_means f.nav (held_of f) layer (layer_taken layer e)
  accepted_means (RequestFocus id) e = on_means f.nav (held_of f) id (id_taken id e)
  accepted_means (RequestFocusNextFrame id) e = next_means f.nav (held_of f) id (id_taken id e)
  accepted_means (SurrenderFocus id) e = letgo_means f.nav (held_of f) id (id_taken id e)
  accepted_means (IgnoreFocus id) e = rw (ignore_held id) (ignore_means f.nav (held_of f) id (id_taken id e))
  accepted_means (SetFocusLockFilter id filter) e = filter_means f.nav (held_of f) id (id_taken id e) filter
  accepted_means (MoveFocus direction) e = refl

  -- and the tables keep their room
  pub accepted_room : (call : Call) → limit (accepted call f) ≡ limit f
  accepted_room (Begin events) = refl
  accepted_room (Interest id) = on_room (cache_of f) (enlisted (held_of f) id)
  accepted_room (End used) = on_room (cache_of f) (cache_ended f.nav (held_of f) (used_of used))
  accepted_room (SetModalLayer layer) = refl
  accepted_room (RequestFocus id) = refl
  accepted_room (RequestFocusNextFrame id) = refl
  accepted_room (SurrenderFocus id) = refl
  accepted_room (IgnoreFocus id) = on_room (cache_of f) (without (held_of f) id)
  accepted_room (SetFocusLockFilter id filter) = refl
  accepted_room (MoveFocus direction) = refl
