-- Memory (memory/mod.rs, lines 786 to 1187): what each call leaves and answers, in the Rust's order but for a definition that another needs, by the definitions of its Focus and Areas, with document 01's refusals. Definitions only.
use Rattle.std.specs.Prelude.{Option, None, Some, Result, ℕ, Bool, true, false, not, cond, ◌&&◌, ◌||◌, List, eqb, ltb, replicate}
use Rattle.refusal.specs.declared.Refusal.{Refusal}
use Rattle.refusal.specs.Refusal.{none, lowest, id_refusal, answer}
use Rattle.refusal.specs.Limits.{used as usedLimit}
use Rattle.emath.specs.declared.Pos2.{Pos2}
use Rattle.emath.specs.declared.Rect.{Rect}
use Rattle.emath.specs.Rect.{everything}
use Rattle.area.specs.declared.AreaState.{AreaState}
use Rattle.area.specs.Area.{rect_of}
use Rattle.input.specs.declared.Event.{Event}
use Rattle.input.specs.declared.EventFilter.{EventFilter}
use Rattle.layers.specs.declared.LayerId.{LayerId}
use Rattle.layers.specs.Layers.{layer_refusal}
use Rattle.layer_rows.specs.Rows.{held_rows}
use Rattle.layer_queries.specs.Queries.{compared_by}
use Rattle.area_table.specs.Table.{held_of}
use Rattle.areas.specs.declared.Areas.{Areas}
use Rattle.areas.specs.Areas.{tables_of, pass_ended}
use Rattle.areas.specs.Areas.{areas_in as mapOf}
use Rattle.area_stack.specs.Stack.{layer_id_at as areasLayerIdAt}
use Rattle.search.specs.declared.Candidate.{Candidate}
use Rattle.focus_rules.specs.declared.Nav.{Nav}
use Rattle.focus_rules.specs.Rules.{focus_on, layer_or_nothing}
use Rattle.focus.specs.declared.Used.{Used}
use Rattle.focus.specs.Focus.{Done as FocusDone}
use Rattle.focus.specs.Focus as Focus
use Rattle.memory_rules.specs.declared.Popup.{Popup}
use Rattle.memory_rules.specs.declared.Memory.{Memory}
use Rattle.memory_rules.specs.State.{Done, areas_of, focus_of, nav_of, popup_of, with_areas, with_focus, with_popup, with_ime, done_with, no_popup}

-- what a call of the focus leaves of the memory
abbrev pub with_done : Memory → FocusDone → Done
with_done m r = done_with r.refusal m (with_focus m r.focus)

-- ---- begin_pass (787 to 809)
unfoldable pub begun_of : Memory → List Event → Done
begun_of m events = let r = Focus.begun_with (focus_of m) events in done_with r.refusal m (with_ime (with_focus m r.focus) false)

-- ---- end_pass (811 to 824): a popup that was not opened or kept in the pass is gone
abbrev pub popup_ended : Popup → Popup
popup_ended p = cond p.open_this_frame (record { id = p.id; pos = p.pos; open_this_frame = false }) no_popup

unfoldable pub ended_of : Memory → List Candidate → Done
ended_of m used =
    let r = Focus.ended_with (focus_of m) used in
    done_with r.refusal m (with_popup (with_focus (with_areas m (pass_ended (areas_of m))) r.focus) (popup_ended (popup_of m)))

-- the used entries of the record by value; a count past its arrays' end is a list of so many entries, which is too long whatever they are
abbrev pub no_entry : Candidate
no_entry = record { id = 0; rect = everything }

abbrev pub used_in : Used → List Candidate
used_in u = cond (ltb usedLimit u.count) (replicate u.count no_entry) (Focus.used_of u)

-- ---- is_above_modal_layer (962 to 971); a layer of id 0 is no modal layer
abbrev pub is_below : Memory → LayerId → LayerId → Bool
is_below m a b = eqb (compared_by (held_rows (areas_of m).placed (areas_of m).rows) a b) 0

unfoldable pub is_above : Memory → LayerId → Bool
is_above m layer = let modal = (nav_of m).top_modal_layer in eqb modal.id 0 || not (is_below m layer modal)

abbrev pub above_answer : Memory → LayerId → Result Bool Refusal
above_answer m layer = answer (layer_refusal layer) (is_above m layer)

-- ---- allows_interaction (977 to 981), with Order::allow_interaction of layers.rs: true for all five
abbrev pub order_allows : ℕ → Bool
order_allows order = true

unfoldable pub is_allowed : Memory → LayerId → Bool
is_allowed m layer = is_above m layer && order_allows layer.order

abbrev pub allows_answer : Memory → LayerId → Result Bool Refusal
allows_answer m layer = answer (layer_refusal layer) (is_allowed m layer)

-- ---- layer_id_at (843 to 850)
abbrev pub unless_below : Memory → Option LayerId → Option LayerId
unless_below m None = None
unless_below m (Some layer) = cond (is_above m layer) (Some layer) (layer_or_nothing (nav_of m).top_modal_layer)

unfoldable pub layer_id_at : Memory → Pos2 → Option LayerId
layer_id_at m pos = unless_below m (areasLayerIdAt (tables_of (areas_of m)) pos)

-- ---- had_focus_last_frame, lost_focus, gained_focus, has_focus (859 to 895): id is not 0, as an id of 0 is refused
abbrev pub had_focus : Memory → ℕ → Bool
had_focus m id = eqb (nav_of m).id_previous_frame id

abbrev pub has_focus : Memory → ℕ → Bool
has_focus m id = eqb (nav_of m).focused id

abbrev pub lost_focus : Memory → ℕ → Bool
lost_focus m id = (had_focus m id || eqb (nav_of m).id_two_frames_ago id) && not (has_focus m id)

abbrev pub gained_focus : Memory → ℕ → Bool
gained_focus m id = not (had_focus m id) && has_focus m id

abbrev pub of_id : (Memory → ℕ → Bool) → Memory → ℕ → Result Bool Refusal
of_id query m id = answer (id_refusal id) (query m id)

-- ---- set_focus_lock_filter, request_focus, request_focus_next_frame, surrender_focus, ignore_focus, move_focus (908 to 957)
unfoldable pub filter_set : Memory → ℕ → EventFilter → Done
filter_set m id filter = with_done m (Focus.filter_set (focus_of m) id filter)

abbrev pub interrupting : Memory → FocusDone → Done
interrupting m r = done_with r.refusal m (with_ime (with_focus m r.focus) true)

unfoldable pub requested : Memory → ℕ → Done
requested m id = interrupting m (Focus.requested (focus_of m) id)

unfoldable pub requested_next : Memory → ℕ → Done
requested_next m id = interrupting m (Focus.requested_next (focus_of m) id)

unfoldable pub surrendered : Memory → ℕ → Done
surrendered m id = with_done m (Focus.surrendered (focus_of m) id)

unfoldable pub ignored_of : Memory → ℕ → Done
ignored_of m id = with_done m (Focus.ignored_of (focus_of m) id)

unfoldable pub moved : Memory → ℕ → Done
moved m direction = with_done m (Focus.moved (focus_of m) direction)

-- ---- interested_in_focus (993 to 998): a call that is turned away changes nothing, and only one that is let through can find the cache full
unfoldable pub interested_of : Memory → ℕ → LayerId → Done
interested_of m id layer =
    let allowed = is_allowed m layer in
    let r = Focus.interested_of (focus_of m) id in
    done_with (lowest (lowest (id_refusal id) (layer_refusal layer)) (cond allowed r.refusal none)) m (cond allowed (with_focus m r.focus) m)

-- ---- set_modal_layer (1008 to 1019): of two that compare equal the later counts
abbrev pub stays_modal : Memory → LayerId → Bool
stays_modal m layer = let current = (nav_of m).top_modal_layer_current_frame in not (eqb current.id 0) && is_below m layer current

unfoldable pub modal_set : Memory → LayerId → Done
modal_set m layer = done_with (layer_refusal layer) m (cond (stays_modal m layer) m (with_focus m (Focus.modal_set (focus_of m) layer).focus))

-- ---- stop_text_input, reset_areas, area_rect (1028 to 1044)
abbrev pub with_nav : Memory → Nav → Memory
with_nav m nav = let f = focus_of m in with_focus m (record { nav = nav; ids = f.ids; rects = f.rects; count = f.count; slot = f.slot })

unfoldable pub text_stopped : Memory → Memory
text_stopped m = with_nav m (focus_on (nav_of m) 0)

-- no layer and no state is held; what stands in the tables counts no more
abbrev pub emptied : Areas → Areas
emptied a = record { count = 0; placed = 0; states = 0; rows = a.rows; ids = a.ids; codes = a.codes; floats = a.floats }

abbrev pub areas_reset : Memory → Memory
areas_reset m = with_areas m (emptied (areas_of m))

abbrev pub rect_in : Option AreaState → Option Rect
rect_in None = None
rect_in (Some s) = Some (rect_of s)

unfoldable pub area_rect : Memory → ℕ → Result (Option Rect) Refusal
area_rect m id = let a = areas_of m in answer (id_refusal id) (rect_in (held_of (mapOf a) a.states 0 id))

-- ---- the popup (1089 to 1166); one of id 0 is none
abbrev pub popup_at : ℕ → Option Pos2 → Popup
popup_at id pos = record { id = id; pos = pos; open_this_frame = true }

unfoldable pub is_popup_open : Memory → ℕ → Bool
is_popup_open m id = eqb (popup_of m).id id || m.everything_is_visible

abbrev pub any_popup_open : Memory → Bool
any_popup_open m = not (eqb (popup_of m).id 0) || m.everything_is_visible

abbrev pub opened_at : Memory → ℕ → Option Pos2 → Done
opened_at m id pos = done_with (id_refusal id) m (with_popup m (popup_at id pos))

abbrev pub opened : Memory → ℕ → Done
opened m id = opened_at m id None

abbrev pub kept_open : Popup → Popup
kept_open p = record { id = p.id; pos = p.pos; open_this_frame = true }

unfoldable pub popup_kept : Memory → ℕ → Done
popup_kept m id = done_with (id_refusal id) m (cond (eqb (popup_of m).id id) (with_popup m (kept_open (popup_of m))) m)

abbrev pub position_in : Popup → ℕ → Option Pos2
position_in p id = cond (eqb p.id id) p.pos None

abbrev pub position_answer : Memory → ℕ → Result (Option Pos2) Refusal
position_answer m id = answer (id_refusal id) (position_in (popup_of m) id)

abbrev pub all_closed : Memory → Memory
all_closed m = with_popup m no_popup

unfoldable pub closed : Memory → ℕ → Done
closed m id = done_with (id_refusal id) m (cond (is_popup_open m id) (all_closed m) m)

unfoldable pub toggled : Memory → ℕ → Done
toggled m id = done_with (id_refusal id) m (cond (is_popup_open m id) (all_closed m) (with_popup m (popup_at id None)))
