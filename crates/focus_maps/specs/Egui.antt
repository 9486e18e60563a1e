-- Focus of memory/mod.rs (lines 503 to 784) in its own terms, its options and its map, and what the methods of Memory from set_focus_lock_filter to move_focus do to it (lines 908 to 957). Of
-- equal scores the search takes the smallest id (document 01), as egui does where its map hands the ids out in rising order (search::walk_in_tie_order). Definitions only.
use Rattle.std.specs.Prelude.{ℕ, Bool, true, false, not, ◌&&◌, cond, Option, None, Some, List, [], ◌∷◌, eqb}
use Rattle.input.specs.declared.Event.{Event}
use Rattle.input.specs.declared.Event.TheVariants.{Key, AccessKitFocus, Pointer, Zoom, Other}
use Rattle.input.specs.declared.EventFilter.{EventFilter}
use Rattle.input.specs.declared.Navigation.{Navigation}
use Rattle.input.specs.EventFilter.{default_filter, matches_of}
use Rattle.input.specs.FocusDirection.{previous, next, no_direction, is_cardinal, navigation_of}
use Rattle.emath.specs.declared.Rect.{Rect}
use Rattle.layers.specs.declared.LayerId.{LayerId}
use Rattle.search.specs.declared.Candidate.{Candidate}
use Rattle.search.specs.Search.{find_of}
use Rattle.focus_rules.specs.declared.FocusWidget.{FocusWidget}
use Rattle.focus_rules.specs.Rules.{filter_in}
use Rattle.focus_cache.specs.Cache.{has_id, enlisted, without}
use Rattle.focus_end.specs.End.{rect_in, updated}

-- `focus_widgets_cache` is the list of its entries; `enlisted` is `entry(id).or_insert(Rect::EVERYTHING)`, `without` is `remove`, `has_id` is `contains_key`, `rect_in` is `get`, and
-- `updated` is the `retain` of find_widget_in_direction
pub record Focus : Type 0 where
  pub focused_widget : Option FocusWidget
  pub id_previous_frame : Option ℕ
  pub id_two_frames_ago : Option ℕ
  pub id_next_frame : Option ℕ
  pub give_to_next : Bool
  pub last_interested : Option ℕ
  pub focus_direction : ℕ
  pub top_modal_layer : Option LayerId
  pub top_modal_layer_current_frame : Option LayerId
  pub focus_widgets_cache : List Candidate

-- Focus::default()
unfoldable pub empty : Focus
empty = record { focused_widget = None; id_previous_frame = None; id_two_frames_ago = None; id_next_frame = None; give_to_next = false; last_interested = None; focus_direction = no_direction; top_modal_layer = None; top_modal_layer_current_frame = None; focus_widgets_cache = [] }

-- `== Some(id)`
abbrev pub is : Option ℕ → ℕ → Bool
is None id = false
is (Some x) id = eqb x id

-- FocusWidget::new
abbrev pub new_widget : ℕ → FocusWidget
new_widget id = record { id = id; filter = default_filter }

-- `.map(FocusWidget::new)`
abbrev pub widget_of : Option ℕ → Option FocusWidget
widget_of None = None
widget_of (Some id) = Some (new_widget id)

abbrev pub id_of : Option FocusWidget → Option ℕ
id_of None = None
id_of (Some w) = Some w.id

abbrev pub is_none : Option FocusWidget → Bool
is_none None = true
is_none (Some w) = false

module _ (f : Focus) where
  -- `focused`, `had_focus_last_frame`
  abbrev pub focused : Option ℕ
  focused = id_of f.focused_widget

  abbrev pub had_focus_last_frame : ℕ → Bool
  had_focus_last_frame id = is f.id_previous_frame id

  -- ---- one field anew, the others as they are
  abbrev pub with_widget : Option FocusWidget → Focus
  with_widget w = record f { focused_widget = w }

  abbrev pub with_frames : Option ℕ → Option ℕ → Focus
  with_frames last before = record f { id_previous_frame = last; id_two_frames_ago = before }

  abbrev pub with_next : Option ℕ → Focus
  with_next id = record f { id_next_frame = id }

  abbrev pub with_give : Bool → Focus
  with_give give = record f { give_to_next = give }

  abbrev pub with_last : ℕ → Focus
  with_last id = record f { last_interested = Some id }

  abbrev pub with_direction : ℕ → Focus
  with_direction d = record f { focus_direction = d }

  abbrev pub with_modals : Option LayerId → Option LayerId → Focus
  with_modals top current = record f { top_modal_layer = top; top_modal_layer_current_frame = current }

  abbrev pub with_cache : List Candidate → Focus
  with_cache cache = record f { focus_widgets_cache = cache }

  abbrev pub reset_focus : Focus
  reset_focus = with_direction no_direction

-- ---- begin_pass
abbrev pub handed_over : Focus → Option ℕ → Focus
handed_over f None = f
handed_over f (Some id) = with_widget (with_next f None) (Some (new_widget id))

abbrev pub moved : Focus → Navigation → Focus
moved f Navigation.Unchanged = f
moved f (Navigation.Direction d) = with_direction f d
moved f Navigation.Escape = reset_focus (with_widget f None)

-- the first part of the loop's body: a pressed key that the filter does not match
abbrev pub navigated : EventFilter → Focus → Event → Focus
navigated filter f (Key key pressed repeat modifiers) = cond (not (matches_of filter (Key key pressed repeat modifiers)) && pressed) (moved f (navigation_of key modifiers)) f
navigated filter f (AccessKitFocus id) = f
navigated filter f (Pointer x y) = f
navigated filter f (Zoom factor) = f
navigated filter f Other = f

-- the second: the last root focus request counts
abbrev pub requested_by : Option ℕ → Event → Option ℕ
requested_by asked (Key key pressed repeat modifiers) = asked
requested_by asked (AccessKitFocus id) = Some id
requested_by asked (Pointer x y) = asked
requested_by asked (Zoom factor) = asked
requested_by asked Other = asked

abbrev pub newly_focused : Focus → Option ℕ → Focus
newly_focused f None = f
newly_focused f (Some id) = cond (has_id f.focus_widgets_cache id) (reset_focus (with_give (with_widget f (Some (new_widget id))) false)) f

unfoldable pub events_heard : EventFilter → Focus → Option ℕ → List Event → Focus
events_heard filter f asked [] = newly_focused f asked
events_heard filter f asked (e ∷ events) = events_heard filter (navigated filter f e) (requested_by asked e) events

unfoldable pub begin_pass : Focus → List Event → Focus
begin_pass f events =
    let aged = with_frames f (focused f) f.id_previous_frame in
    let started = handed_over aged aged.id_next_frame in
    let filter = filter_in started.focused_widget in
    events_heard filter (with_direction started no_direction) None events

-- ---- interested_in_focus
abbrev pub ruled : Focus → ℕ → Focus
ruled f id =
    cond (f.give_to_next && not (had_focus_last_frame f id)) (with_give (with_widget f (Some (new_widget id))) false)
    (cond (is (focused f) id)
    (cond (eqb f.focus_direction next) (reset_focus (with_give (with_widget f None) true))
    (cond (eqb f.focus_direction previous) (reset_focus (with_next f f.last_interested)) f))
    (cond (eqb f.focus_direction next && (is_none f.focused_widget && not f.give_to_next)) (reset_focus (with_widget f (Some (new_widget id))))
    (cond (eqb f.focus_direction previous && (is_none f.focused_widget && not f.give_to_next)) (reset_focus (with_widget f (widget_of f.last_interested))) f)))

unfoldable pub interested_in_focus : Focus → ℕ → Focus
interested_in_focus f id = with_last (ruled (with_cache f (enlisted f.focus_widgets_cache id)) id) id

-- ---- find_widget_in_direction: where no widget is focused, the search leaves at once; else the cache takes its new rectangles first
abbrev pub searched : Focus → ℕ → Option Rect → Focus
searched f id None = f
searched f id (Some current) =
    let found = find_of f.focus_widgets_cache id current f.focus_direction in
    cond (eqb found 0) f (with_widget f (Some (new_widget found)))

abbrev pub directed : Focus → Option FocusWidget → List Candidate → Focus
directed f None used = f
directed f (Some w) used =
    let fresh = with_cache f (updated used f.focus_widgets_cache) in
    searched fresh w.id (rect_in fresh.focus_widgets_cache w.id)

-- ---- end_pass
abbrev pub disappeared : Focus → Option FocusWidget → List Candidate → Focus
disappeared f None used = f
disappeared f (Some w) used = cond (had_focus_last_frame f w.id && not (has_id used w.id)) (with_widget f None) f

unfoldable pub end_pass : Focus → List Candidate → Focus
end_pass f used =
    let found = cond (is_cardinal f.focus_direction) (directed f f.focused_widget used) f in
    let left = disappeared found found.focused_widget used in
    with_modals left left.top_modal_layer_current_frame None

-- ---- set_modal_layer, and Memory's methods
abbrev pub set_modal_layer : Focus → LayerId → Focus
set_modal_layer f layer = with_modals f f.top_modal_layer (Some layer)

abbrev pub request_focus : Focus → ℕ → Focus
request_focus f id = with_widget f (Some (new_widget id))

abbrev pub request_focus_next_frame : Focus → ℕ → Focus
request_focus_next_frame f id = with_next f (Some id)

unfoldable pub surrender_focus : Focus → ℕ → Focus
surrender_focus f id = cond (is (focused f) id) (with_widget f None) f

unfoldable pub ignore_focus : Focus → ℕ → Focus
ignore_focus f id = surrender_focus (with_cache f (without f.focus_widgets_cache id)) id

unfoldable pub set_focus_lock_filter : Focus → ℕ → EventFilter → Focus
set_focus_lock_filter f id filter = cond (had_focus_last_frame f id && is (focused f) id) (with_widget f (Some (record { id = id; filter = filter }))) f

abbrev pub move_focus : Focus → ℕ → Focus
move_focus f direction = with_direction f direction
