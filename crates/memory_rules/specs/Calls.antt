-- The calls that change Memory, with their arguments, and what each leaves. Definitions only.
use Rattle.std.specs.Prelude.{ℕ, Bool, Option, true, List}
use Rattle.refusal.specs.Refusal.{none}
use Rattle.area.specs.declared.AreaState.{AreaState}
use Rattle.input.specs.declared.Event.{Event}
use Rattle.input.specs.declared.EventFilter.{EventFilter}
use Rattle.layers.specs.declared.LayerId.{LayerId}
use Rattle.areas.specs.Areas.{Changed as AreasChanged, state_set, to_top_of, sublayer_set}
use Rattle.search.specs.declared.Candidate.{Candidate}
use Rattle.emath.specs.declared.Pos2.{Pos2}
use Rattle.memory_rules.specs.declared.Memory.{Memory}
use Rattle.memory_rules.specs.State.{Done, areas_of, with_areas, with_ime, with_everything, done_with}
use Rattle.memory_rules.specs.Memory.{begun_of, ended_of, interested_of, filter_set, requested, requested_next, surrendered, ignored_of, moved, modal_set, text_stopped, areas_reset, opened_at, popup_kept, closed, toggled, all_closed}

pub data Call : Type 0 where
  Begin : List Event → Call
  Interest : ℕ → LayerId → Call
  End : List Candidate → Call
  SetFocusLockFilter : ℕ → EventFilter → Call
  RequestFocus : ℕ → Call
  RequestFocusNextFrame : ℕ → Call
  SurrenderFocus : ℕ → Call
  IgnoreFocus : ℕ → Call
  MoveFocus : ℕ → Call
  SetModalLayer : LayerId → Call
  StopTextInput : Call
  ResetAreas : Call
  InterruptIme : Call
  OpenPopupAt : ℕ → Option Pos2 → Call
  KeepPopupOpen : ℕ → Call
  ClosePopup : ℕ → Call
  TogglePopup : ℕ → Call
  CloseAllPopups : Call
  SetEverythingIsVisible : Bool → Call
  SetState : LayerId → AreaState → Call
  MoveToTop : LayerId → Call
  SetSublayer : LayerId → LayerId → Call

-- what a call on the areas leaves of the memory
abbrev pub with_stack : Memory → AreasChanged → Done
with_stack m r = done_with r.refusal m (with_areas m r.areas)

-- a call that nothing refuses
abbrev pub taken : Memory → Done
taken m = record { memory = m; refusal = none }

unfoldable pub done_by : Call → Memory → Done
done_by (Begin events) m = begun_of m events
done_by (Interest id layer) m = interested_of m id layer
done_by (End used) m = ended_of m used
done_by (SetFocusLockFilter id filter) m = filter_set m id filter
done_by (RequestFocus id) m = requested m id
done_by (RequestFocusNextFrame id) m = requested_next m id
done_by (SurrenderFocus id) m = surrendered m id
done_by (IgnoreFocus id) m = ignored_of m id
done_by (MoveFocus direction) m = moved m direction
done_by (SetModalLayer layer) m = modal_set m layer
done_by StopTextInput m = taken (text_stopped m)
done_by ResetAreas m = taken (areas_reset m)
done_by InterruptIme m = taken (with_ime m true)
done_by (OpenPopupAt id pos) m = opened_at m id pos
done_by (KeepPopupOpen id) m = popup_kept m id
done_by (ClosePopup id) m = closed m id
done_by (TogglePopup id) m = toggled m id
done_by CloseAllPopups m = taken (all_closed m)
done_by (SetEverythingIsVisible all) m = taken (with_everything m all)
done_by (SetState layer s) m = with_stack m (state_set (areas_of m) layer s)
done_by (MoveToTop layer) m = with_stack m (to_top_of (areas_of m) layer)
done_by (SetSublayer parent child) m = with_stack m (sublayer_set (areas_of m) parent child)
