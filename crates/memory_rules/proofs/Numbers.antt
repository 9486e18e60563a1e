-- Every call's refusal is a number of the table: each is a choice of such numbers, or the lowest of some. Assumes nothing.
use mathlib.Core.Bool.{Bool, true, false, cond}
use mathlib.Core.List.{List, [], ◌∷◌}
use Prim.Native.Nat.{ℕ, zero, suc, ◌*◌, ◌≤◌}
use native.Mathlib.Omega.{arith}
use lib.Dec.{leb}
use lib.Ieee.{Float}
use Rattle.std.specs.Prelude.{Option, None, Some, ℤ, pos, negsuc, nat_abs}
use Rattle.refusal.specs.Refusal.{none, zero_id, bad_code, off_grid, reversed, bad_list, full, bad_pair, bad_family, lowest, id_refusal, code_refusal}
use Rattle.floats.specs.Count.{Count, off, at, count_of}
use Rattle.emath.specs.declared.Vec2.{Vec2}
use Rattle.emath.specs.declared.Rect.{Rect}
use Rattle.grid.specs.Grid.{within, side_refusal, rect_refusal, on_grid, side_at}
use Rattle.area.specs.declared.PivotPos.{PivotPos}
use Rattle.area.specs.declared.PivotPos.TheVariants.{Absent, At}
use Rattle.area.specs.declared.AreaState.{AreaState}
use Rattle.area.specs.Area.{pivot_pos_at, size_at, state_refusal}
use Rattle.input.specs.declared.Event.{Event}
use Rattle.input.specs.declared.Event.TheVariants.{Key, AccessKitFocus, Pointer, Zoom, Other}
use Rattle.input.specs.Event.{event_refusal}
use Rattle.layers.specs.declared.LayerId.{LayerId}
use Rattle.layers.specs.Layers.{layer_refusal}
use Rattle.layer_table.specs.Layers.{top_refusal, sublayer_refusal, family_refusal}
use Rattle.area_stack.specs.Stack.{set_state_refusal}
use Rattle.areas.specs.Areas.{state_set, to_top_of, sublayer_set}
use Rattle.search.specs.declared.Candidate.{Candidate}
use Rattle.focus_cache.specs.Cache.{full_refusal}
use Rattle.focus_pass.specs.Pass.{worst_of, begin_refusal, begin_of, interest_refusal, interest_of, ignore_of}
use Rattle.used.specs.Used.{used_refusal}
use Rattle.used.specs.Used.{worst_of as worstUsed}
use Rattle.focus_end.specs.End.{end_of}
use Rattle.focus.specs.Focus as Focus
use Rattle.memory_rules.specs.declared.Memory.{Memory}
use Rattle.memory_rules.specs.Memory.{begun_of, ended_of, interested_of, filter_set, requested, requested_next, surrendered, ignored_of, moved, modal_set, popup_kept, closed, toggled}
use Rattle.memory_rules.specs.Calls.{Call, Begin, Interest, End, SetFocusLockFilter, RequestFocus, RequestFocusNextFrame, SurrenderFocus, IgnoreFocus, MoveFocus, SetModalLayer, StopTextInput, ResetAreas, InterruptIme, OpenPopupAt, KeepPopupOpen, ClosePopup, TogglePopup, CloseAllPopups, SetEverythingIsVisible, SetState, MoveToTop, SetSublayer, done_by}

abbrev Listed : ℕ → Type 0
Listed n = n ≤ bad_family

-- ---- a choice, and the lowest
either : (t : Bool) (a b : ℕ) → Listed a → Listed b → Listed (cond t a b)
either true a b h k = h
either false a b h k = k

both : (a b : ℕ) → Listed a → Listed b → Listed (lowest a b)
unfolding lowest
both zero b h k = k
both (suc a) zero h k = h
both (suc a) (suc b) h k = omega arith

refuses : (t : Bool) (n : ℕ) → Listed n → Listed (cond t n none)
refuses t n h = either t n none h (omega arith)

takes : (t : Bool) (n : ℕ) → Listed n → Listed (cond t none n)
takes t n h = either t none n (omega arith) h

of_id : (id : ℕ) → Listed (id_refusal id)
of_id id = refuses _ zero_id (omega arith)

of_code : (code last : ℕ) → Listed (code_refusal code last)
of_code code last = refuses _ bad_code (omega arith)

of_layer : (l : LayerId) → Listed (layer_refusal l)
unfolding layer_refusal
of_layer l = both _ _ (of_id _) (of_code _ _)

-- ---- the geometry
of_count : (n : Count) (f : ℤ → ℕ) → ((z : ℤ) → Listed (f z)) → Listed (on_grid n f)
of_count off f h = omega arith
of_count (at z) f h = h z

of_within : (c b : ℕ) (x : Float) → Listed (within c b x)
unfolding within
of_within c b x = of_count (count_of c x) _ (λ z. takes (leb (nat_abs z) (b * c)) off_grid (omega arith))

of_side : (x : Float) → Listed (side_refusal x)
unfolding side_refusal
of_side x = of_count (count_of 32 x) side_at go
  where
    go : (z : ℤ) → Listed (side_at z)
    go (pos n) = takes _ off_grid (omega arith)
    go (negsuc n) = omega arith

of_rect : (r : Rect) → Listed (rect_refusal r)
unfolding rect_refusal
of_rect r = both _ _ (both _ _ (both _ _ (of_within _ _ _) (of_within _ _ _)) (both _ _ (of_within _ _ _) (of_within _ _ _))) (refuses _ reversed (omega arith))

of_pivot_pos : (p : PivotPos) → Listed (pivot_pos_at p)
of_pivot_pos Absent = omega arith
of_pivot_pos (At x y) = both _ _ (of_within _ _ _) (of_within _ _ _)

of_size : (v : Option Vec2) → Listed (size_at v)
of_size None = omega arith
of_size (Some v) = both _ _ (of_side _) (of_side _)

of_state : (s : AreaState) → Listed (state_refusal s)
unfolding state_refusal
of_state s = both _ _ (both _ _ (of_code _ _) (of_code _ _)) (both _ _ (of_pivot_pos _) (of_size _))

-- ---- events and used entries
of_event : (e : Event) → Listed (event_refusal e)
of_event (Key key pressed repeat modifiers) = both _ _ (of_code _ _) (of_code _ _)
of_event (AccessKitFocus id) = of_id id
of_event (Pointer x y) = omega arith
of_event (Zoom factor) = omega arith
of_event Other = omega arith

of_events : (events : List Event) (n : ℕ) → Listed n → Listed (worst_of n events)
unfolding worst_of
of_events [] n h = h
of_events (e ∷ events) n h = of_events events _ (both _ _ h (of_event e))

of_entries : (entries : List Candidate) (n : ℕ) → Listed n → Listed (worstUsed n entries)
unfolding worstUsed
of_entries [] n h = h
of_entries (e ∷ entries) n h = of_entries entries _ (both _ _ h (both _ _ (of_id _) (of_rect _)))

of_begin : (events : List Event) → Listed (begin_refusal events)
unfolding begin_refusal
of_begin events = either _ bad_list _ (omega arith) (of_events events _ (omega arith))

of_used : (limit : ℕ) (used : List Candidate) → Listed (used_refusal limit used)
unfolding used_refusal
of_used limit used = either _ bad_list _ (omega arith) (both _ _ (of_entries used _ (omega arith)) (refuses _ bad_list (omega arith)))

of_interest : (room : ℕ) (held : List Candidate) (id : ℕ) → Listed (interest_refusal room held id)
unfolding interest_refusal full_refusal
of_interest room held id = both _ _ (of_id id) (refuses _ full (omega arith))

-- ---- every call
pub listed : (m : Memory) (call : Call) → Listed (done_by call m).refusal
unfolding done_by begun_of ended_of interested_of filter_set requested requested_next surrendered ignored_of moved modal_set popup_kept closed toggled begin_of end_of interest_of ignore_of Focus.interested_of Focus.ignored_of Focus.requested Focus.requested_next Focus.surrendered Focus.filter_set Focus.moved state_set to_top_of sublayer_set set_state_refusal top_refusal sublayer_refusal family_refusal
listed m (Begin events) = of_begin events
listed m (Interest id layer) = both _ _ (both _ _ (of_id id) (of_layer layer)) (refuses _ _ (of_interest _ _ id))
listed m (End used) = of_used _ used
listed m (SetFocusLockFilter id filter) = of_id id
listed m (RequestFocus id) = of_id id
listed m (RequestFocusNextFrame id) = of_id id
listed m (SurrenderFocus id) = of_id id
listed m (IgnoreFocus id) = of_id id
listed m (MoveFocus direction) = of_code direction _
listed m (SetModalLayer layer) = of_layer layer
listed m StopTextInput = omega arith
listed m ResetAreas = omega arith
listed m InterruptIme = omega arith
listed m (OpenPopupAt id place) = of_id id
listed m (KeepPopupOpen id) = of_id id
listed m (ClosePopup id) = of_id id
listed m (TogglePopup id) = of_id id
listed m CloseAllPopups = omega arith
listed m (SetEverythingIsVisible all) = omega arith
listed m (SetState layer s) = both _ _ (both _ _ (of_layer layer) (of_state s)) (both _ _ (takes _ full (omega arith)) (takes _ full (omega arith)))
listed m (MoveToTop layer) = both _ _ (of_layer layer) (refuses _ full (omega arith))
listed m (SetSublayer parent child) = both _ _ (both _ _ (of_layer parent) (of_layer child)) (both _ _ (refuses _ full (omega arith)) (both _ _ (takes _ bad_pair (omega arith)) (refuses _ bad_family (omega arith))))
