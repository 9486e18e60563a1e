-- Memory of memory/mod.rs (its fields from line 31 on, and lines 786 to 1187) with one viewport, in its own terms, by the methods of its Areas and its Focus. Definitions only.
use Rattle.std.specs.Prelude.{ℕ, Bool, true, false, cond, not, ◌&&◌, ◌||◌, List, ◌==◌}
use Rattle.std.specs.Prelude.{Option, None, Some}
use Rattle.emath.specs.declared.Pos2.{Pos2}
use Rattle.emath.specs.declared.Rect.{Rect}
use Rattle.area.specs.declared.AreaState.{AreaState}
use Rattle.area.specs.Area.{rect_of}
use Rattle.input.specs.declared.Event.{Event}
use Rattle.input.specs.declared.EventFilter.{EventFilter}
use Rattle.layers.specs.declared.LayerId.{LayerId}
use Rattle.search.specs.declared.Candidate.{Candidate}
use Rattle.area_maps.specs.Egui as Areas
use Rattle.focus_maps.specs.Egui as Focus

pub record OpenPopup : Type 0 where
  pub id : ℕ
  pub pos : Option Pos2
  pub open_this_frame : Bool

-- what the maps by viewport hold of the one viewport; a focus that is not there yet is Focus::default()
pub record Memory : Type 0 where
  pub areas : Areas.Areas
  pub focus : Focus.Focus
  pub popup : Option OpenPopup
  pub requested_interrupt_ime : Bool
  pub everything_is_visible : Bool

-- Memory::default()
unfoldable pub empty : Memory
empty = record { areas = Areas.empty; focus = Focus.empty; popup = None; requested_interrupt_ime = false; everything_is_visible = false }

-- core::cmp::Ordering, as `compare_order` has it
abbrev pub is_less : ℕ → Bool
is_less c = c == 0

abbrev pub is_equal_or_greater : ℕ → Bool
is_equal_or_greater c = c == 1 || c == 2

-- Order::allow_interaction of layers.rs: all five do
abbrev pub allow_interaction : ℕ → Bool
allow_interaction order = true

-- OpenPopup::new
abbrev pub new_popup : ℕ → Option Pos2 → OpenPopup
new_popup id pos = record { id = id; pos = pos; open_this_frame = true }

abbrev pub opened_this_frame : OpenPopup → Bool → OpenPopup
opened_this_frame p still = record { id = p.id; pos = p.pos; open_this_frame = still }

-- "Clean up abandoned popups" of end_pass
abbrev pub cleaned_up : Option OpenPopup → Option OpenPopup
cleaned_up None = None
cleaned_up (Some popup) = cond popup.open_this_frame (Some (opened_this_frame popup false)) None

-- `is_some_and(|state| state.id == popup_id)`
abbrev pub is_some_and_id : Option OpenPopup → ℕ → Bool
is_some_and_id None id = false
is_some_and_id (Some state) id = state.id == id

abbrev pub is_some : Option OpenPopup → Bool
is_some None = false
is_some (Some state) = true

abbrev pub kept_open : Option OpenPopup → ℕ → Option OpenPopup
kept_open None id = None
kept_open (Some state) id = cond (state.id == id) (Some (opened_this_frame state true)) (Some state)

abbrev pub position_in : Option OpenPopup → ℕ → Option Pos2
position_in None id = None
position_in (Some state) id = cond (state.id == id) state.pos None

-- `.map(|state| state.rect())`
abbrev pub rect_in : Option AreaState → Option Rect
rect_in None = None
rect_in (Some state) = Some (rect_of state)

module _ (m : Memory) where
  -- ---- one field anew, the others as they are
  abbrev pub with_areas : Areas.Areas → Memory
  with_areas a = record { areas = a; focus = m.focus; popup = m.popup; requested_interrupt_ime = m.requested_interrupt_ime; everything_is_visible = m.everything_is_visible }

  abbrev pub with_focus : Focus.Focus → Memory
  with_focus f = record { areas = m.areas; focus = f; popup = m.popup; requested_interrupt_ime = m.requested_interrupt_ime; everything_is_visible = m.everything_is_visible }

  abbrev pub with_popup : Option OpenPopup → Memory
  with_popup p = record { areas = m.areas; focus = m.focus; popup = p; requested_interrupt_ime = m.requested_interrupt_ime; everything_is_visible = m.everything_is_visible }

  abbrev pub with_ime : Bool → Memory
  with_ime ime = record { areas = m.areas; focus = m.focus; popup = m.popup; requested_interrupt_ime = ime; everything_is_visible = m.everything_is_visible }

-- ---- begin_pass, end_pass (lines 787 to 824)
abbrev pub begin_pass : Memory → List Event → Memory
begin_pass m events = with_focus (with_ime m false) (Focus.begin_pass m.focus events)

abbrev pub end_pass : Memory → List Candidate → Memory
end_pass m used = with_popup (with_focus (with_areas m (Areas.end_pass m.areas)) (Focus.end_pass m.focus used)) (cleaned_up m.popup)

-- ---- interrupt_ime, should_interrupt_ime (lines 1077 to 1084)
abbrev pub interrupt_ime : Memory → Memory
interrupt_ime m = with_ime m true

abbrev pub should_interrupt_ime : Memory → Bool
should_interrupt_ime m = m.requested_interrupt_ime

module _ (m : Memory) where
  -- ---- the queries about layers (lines 842 to 855, 959 to 981 and 1021 to 1024)
  abbrev pub top_modal_layer : Option LayerId
  top_modal_layer = m.focus.top_modal_layer

  abbrev pub is_above : Option LayerId → LayerId → Bool
  is_above None layer = true
  is_above (Some modal) layer = is_equal_or_greater (Areas.compare_order m.areas layer modal)

  abbrev pub is_above_modal_layer : LayerId → Bool
  is_above_modal_layer layer = is_above top_modal_layer layer

  abbrev pub allows_interaction : LayerId → Bool
  allows_interaction layer = is_above_modal_layer layer && allow_interaction layer.order

  -- from what the areas answer, which is a layer or nothing
  abbrev pub unless_below : Option LayerId → Option LayerId
  unless_below None = None
  unless_below (Some layer) = cond (is_above_modal_layer layer) (Some layer) top_modal_layer

  abbrev pub layer_id_at : Pos2 → Option LayerId
  layer_id_at pos = unless_below (Areas.layer_id_at m.areas pos)

  abbrev pub layer_ids : List LayerId
  layer_ids = m.areas.order

  -- ---- the queries about the focus (lines 857 to 900, 1000 to 1004 and 1064 to 1075)
  abbrev pub focused : Option ℕ
  focused = Focus.focused m.focus

  abbrev pub had_focus_last_frame : ℕ → Bool
  had_focus_last_frame id = Focus.is m.focus.id_previous_frame id

  abbrev pub has_focus : ℕ → Bool
  has_focus id = Focus.is focused id

  abbrev pub lost_focus : ℕ → Bool
  lost_focus id = (Focus.is m.focus.id_previous_frame id || Focus.is m.focus.id_two_frames_ago id) && not (has_focus id)

  abbrev pub gained_focus : ℕ → Bool
  gained_focus id = not (had_focus_last_frame id) && has_focus id

  abbrev pub focus_direction : ℕ
  focus_direction = m.focus.focus_direction

  abbrev pub owns_ime_events : ℕ → Bool
  owns_ime_events id = has_focus id

  -- ---- the calls about the focus (lines 902 to 957, 983 to 998, 1006 to 1019 and 1026 to 1030)
  abbrev pub set_focus_lock_filter : ℕ → EventFilter → Memory
  set_focus_lock_filter id filter = with_focus m (Focus.set_focus_lock_filter m.focus id filter)

  abbrev pub request_focus : ℕ → Memory
  request_focus id = interrupt_ime (with_focus m (Focus.request_focus m.focus id))

  abbrev pub request_focus_next_frame : ℕ → Memory
  request_focus_next_frame id = interrupt_ime (with_focus m (Focus.request_focus_next_frame m.focus id))

  abbrev pub surrender_focus : ℕ → Memory
  surrender_focus id = with_focus m (Focus.surrender_focus m.focus id)

  abbrev pub ignore_focus : ℕ → Memory
  ignore_focus id = with_focus m (Focus.ignore_focus m.focus id)

  abbrev pub move_focus : ℕ → Memory
  move_focus direction = with_focus m (Focus.move_focus m.focus direction)

  abbrev pub interested_in_focus : ℕ → LayerId → Memory
  interested_in_focus id layer = cond (not (allows_interaction layer)) m (with_focus m (Focus.interested_in_focus m.focus id))

  -- `if let Some(current) = .. && matches!(.., Less)`
  abbrev pub is_less_than : Option LayerId → LayerId → Bool
  is_less_than None layer = false
  is_less_than (Some current) layer = is_less (Areas.compare_order m.areas layer current)

  abbrev pub set_modal_layer : LayerId → Memory
  set_modal_layer layer = cond (is_less_than m.focus.top_modal_layer_current_frame layer) m (with_focus m (Focus.set_modal_layer m.focus layer))

  abbrev pub stop_text_input : Memory
  stop_text_input = with_focus m (Focus.with_widget m.focus None)

  -- ---- the areas (lines 1032 to 1044); the calls on `areas_mut()` are those of Areas
  abbrev pub reset_areas : Memory
  reset_areas = with_areas m Areas.empty

  abbrev pub area_rect : ℕ → Option Rect
  area_rect id = rect_in (Areas.get m.areas id)

  abbrev pub set_state : LayerId → AreaState → Memory
  set_state layer state = with_areas m (Areas.set_state m.areas layer state)

  abbrev pub move_to_top : LayerId → Memory
  move_to_top layer = with_areas m (Areas.move_to_top m.areas layer)

  abbrev pub set_sublayer : LayerId → LayerId → Memory
  set_sublayer parent child = with_areas m (Areas.set_sublayer m.areas parent child)

  -- ---- the popup (lines 1111 to 1166)
  abbrev pub is_popup_open : ℕ → Bool
  is_popup_open id = is_some_and_id m.popup id || m.everything_is_visible

  abbrev pub any_popup_open : Bool
  any_popup_open = is_some m.popup || m.everything_is_visible

  abbrev pub open_popup : ℕ → Memory
  open_popup id = with_popup m (Some (new_popup id None))

  abbrev pub keep_popup_open : ℕ → Memory
  keep_popup_open id = with_popup m (kept_open m.popup id)

  abbrev pub open_popup_at : ℕ → Option Pos2 → Memory
  open_popup_at id pos = with_popup m (Some (new_popup id pos))

  abbrev pub popup_position : ℕ → Option Pos2
  popup_position id = position_in m.popup id

  abbrev pub close_all_popups : Memory
  close_all_popups = with_popup m None

  abbrev pub close_popup : ℕ → Memory
  close_popup id = cond (is_popup_open id) (with_popup m None) m

  abbrev pub toggle_popup : ℕ → Memory
  toggle_popup id = cond (is_popup_open id) (close_popup id) (open_popup id)

  -- ---- set_everything_is_visible (lines 1179 to 1186)
  abbrev pub set_everything_is_visible : Bool → Memory
  set_everything_is_visible value = record { areas = m.areas; focus = m.focus; popup = m.popup; requested_interrupt_ime = m.requested_interrupt_ime; everything_is_visible = value }
