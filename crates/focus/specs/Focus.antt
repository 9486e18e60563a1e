-- Focus of memory/mod.rs as a record by value: what each call leaves, by the definitions of the crates below. Definitions only.
use Rattle.std.specs.Prelude.{ℕ, ◌*◌, cond, List, ltb, take, replicate}
use Rattle.std.specs.Float.{binary32}
use Rattle.std.specs.Float.Ieee.{of_bits}
use Rattle.refusal.specs.Refusal.{bad_list, id_refusal, code_refusal, kept}
use Rattle.refusal.specs.Limits.{cached, last_direction}
use Rattle.refusal.specs.Limits.{used as usedLimit}
use Rattle.input.specs.declared.EventFilter.{EventFilter}
use Rattle.input.specs.declared.Event.{Event}
use Rattle.layers.specs.declared.LayerId.{LayerId}
use Rattle.layers.specs.Layers.{layer_refusal}
use Rattle.search.specs.declared.Candidate.{Candidate}
use Rattle.focus_rules.specs.declared.Nav.{Nav}
use Rattle.focus_rules.specs.Rules.{Changed, new_nav, changed_to, with_modals, focus_on, with_next, let_go, filtered_of, with_direction}
use Rattle.focus_cache.specs.Cache.{Cache, cache_in, cache_on, room_in, held_in, enlisted, without}
use Rattle.focus_pass.specs.Events.{events_from}
use Rattle.focus_pass.specs.Pass.{begin_of, interest_of, ignore_of}
use Rattle.used.specs.Used.{entries_in}
use Rattle.focus_end.specs.End.{end_of, cache_ended}
use Rattle.focus.specs.declared.Focus.{Focus}
use Rattle.focus.specs.declared.Events.{Events}
use Rattle.focus.specs.declared.Used.{Used}

unfoldable pub new_focus : Focus
new_focus = record { nav = new_nav; ids = replicate cached 0; rects = replicate (4 * cached) (of_bits binary32 0); count = 0; slot = 0 }

-- ---- what the arrays say
abbrev pub cache_of : Focus → Cache
cache_of f = cache_in f.ids f.rects

abbrev pub held_of : Focus → List Candidate
held_of f = held_in f.count f.ids f.rects

abbrev pub events_of : Events → List Event
events_of e = events_from e.words 0 e.count

abbrev pub used_of : Used → List Candidate
used_of u = entries_in (take u.count u.ids) u.corners

-- ---- the record anew
abbrev pub focus_with : Nav → Cache → ℕ → ℕ → Focus
focus_with nav c count slot = record { nav = nav; ids = c.ids; rects = c.rects; count = count; slot = slot }

-- what a call comes to: the record after it, and by what number it is refused, 0 for none
pub record Done : Type 0 where
  pub focus : Focus
  pub refusal : ℕ

abbrev pub with_nav : Focus → Changed → Done
with_nav f r = record { focus = focus_with r.nav (cache_of f) f.count f.slot; refusal = r.refusal }

-- ---- begin, interest and end
abbrev pub begun_with : Focus → List Event → Done
begun_with f events =
    let r = begin_of f.nav (held_of f) events in
    record { focus = focus_with r.nav (cache_of f) f.count (kept r.refusal f.slot 0); refusal = r.refusal }

unfoldable pub begun_of : Focus → Events → Done
begun_of f e =
    let r = begin_of f.nav (held_of f) (events_of e) in
    record { focus = focus_with r.nav (cache_of f) f.count (kept r.refusal f.slot 0); refusal = r.refusal }

unfoldable pub interested_of : Focus → ℕ → Done
interested_of f id =
    let r = interest_of f.nav (room_in f.ids f.rects) (held_of f) f.count f.slot id in
    record { focus = focus_with r.nav (kept r.refusal (cache_of f) (cache_on (cache_of f) (enlisted (held_of f) id))) r.count r.slot; refusal = r.refusal }

abbrev pub ended_with : Focus → List Candidate → Done
ended_with f used =
    let r = end_of usedLimit f.nav (held_of f) f.count used in
    record { focus = focus_with r.nav (kept r.refusal (cache_of f) (cache_on (cache_of f) (cache_ended f.nav (held_of f) used))) r.count f.slot; refusal = r.refusal }

-- more entries than the array has are too many
unfoldable pub ended_of : Focus → Used → Done
ended_of f u = cond (ltb usedLimit u.count) (record { focus = f; refusal = bad_list }) (ended_with f (used_of u))

-- ---- the other methods
unfoldable pub ignored_of : Focus → ℕ → Done
ignored_of f id =
    let r = ignore_of f.nav (held_of f) f.count id in
    record { focus = focus_with r.nav (kept r.refusal (cache_of f) (cache_on (cache_of f) (without (held_of f) id))) r.count f.slot; refusal = r.refusal }

unfoldable pub modal_set : Focus → LayerId → Done
modal_set f layer = with_nav f (changed_to (layer_refusal layer) f.nav (with_modals f.nav f.nav.top_modal_layer layer))

unfoldable pub requested : Focus → ℕ → Done
requested f id = with_nav f (changed_to (id_refusal id) f.nav (focus_on f.nav id))

unfoldable pub requested_next : Focus → ℕ → Done
requested_next f id = with_nav f (changed_to (id_refusal id) f.nav (with_next f.nav id))

unfoldable pub surrendered : Focus → ℕ → Done
surrendered f id = with_nav f (changed_to (id_refusal id) f.nav (let_go f.nav id))

unfoldable pub filter_set : Focus → ℕ → EventFilter → Done
filter_set f id filter = with_nav f (changed_to (id_refusal id) f.nav (filtered_of f.nav id filter))

unfoldable pub moved : Focus → ℕ → Done
moved f direction = with_nav f (changed_to (code_refusal direction last_direction) f.nav (with_direction f.nav direction))
