-- What the record by value means in egui's terms, document 01's refusals over egui's state, and what a list of calls leaves of both. Definitions only.
use Rattle.std.specs.Prelude.{ℕ, cond, List, [], ◌∷◌, length, ◌==◌, nat_lt}
use Rattle.std.specs.Prelude.{Option, None, Some}
use Rattle.refusal.specs.Refusal.{full, lowest, id_refusal, code_refusal, kept}
use Rattle.refusal.specs.Refusal.{none as notRefused}
use Rattle.refusal.specs.Limits.{last_direction}
use Rattle.refusal.specs.Limits.{used as usedLimit}
use Rattle.layers.specs.Layers.{layer_refusal}
use Rattle.focus_cache.specs.Cache.{enlisted}
use Rattle.focus_pass.specs.Pass.{begin_refusal}
use Rattle.used.specs.Used.{used_refusal}
use Rattle.area_maps.specs.Egui as EguiAreas
use Rattle.area_maps.specs.Meaning as Areas
use Rattle.focus_maps.specs.Calls as Focus
use Rattle.memory_rules.specs.declared.Popup.{Popup}
use Rattle.memory_rules.specs.declared.Memory.{Memory}
use Rattle.memory_rules.specs.State.{areas_of, focus_of, popup_of, new_memory}
use Rattle.memory_rules.specs.Calls.{Call, Begin, Interest, End, SetFocusLockFilter, RequestFocus, RequestFocusNextFrame, SurrenderFocus, IgnoreFocus, MoveFocus, SetModalLayer, StopTextInput, ResetAreas, InterruptIme, OpenPopupAt, KeepPopupOpen, ClosePopup, TogglePopup, CloseAllPopups, SetEverythingIsVisible, SetState, MoveToTop, SetSublayer, done_by}
use Rattle.memory_maps.specs.Egui as Egui

-- ---- what the record means: a popup of id 0 is none
abbrev pub popup_meaning : Popup → Option Egui.OpenPopup
popup_meaning p = cond (p.id == 0) None (Some (record { id = p.id; pos = p.pos; open_this_frame = p.open_this_frame }))

abbrev pub meaning_of : Memory → Egui.Memory
meaning_of m = record { areas = Areas.meaning_of (areas_of m); focus = Focus.meaning_of (focus_of m); popup = popup_meaning (popup_of m); requested_interrupt_ime = m.requested_interrupt_ime; everything_is_visible = m.everything_is_visible }

-- ---- document 01's refusals, over egui's state: how many layers and how many cached ids there may be. Only an interest call that is let through can find the cache full
abbrev pub refusal_of : ℕ → ℕ → Call → Egui.Memory → ℕ
refusal_of layers cached (Begin events) m = begin_refusal events
refusal_of layers cached (Interest id layer) m =
    lowest (lowest (id_refusal id) (layer_refusal layer))
    (cond (Egui.allows_interaction m layer) (cond (nat_lt cached (length (enlisted m.focus.focus_widgets_cache id))) full notRefused) notRefused)
refusal_of layers cached (End used) m = used_refusal usedLimit used
refusal_of layers cached (SetFocusLockFilter id filter) m = id_refusal id
refusal_of layers cached (RequestFocus id) m = id_refusal id
refusal_of layers cached (RequestFocusNextFrame id) m = id_refusal id
refusal_of layers cached (SurrenderFocus id) m = id_refusal id
refusal_of layers cached (IgnoreFocus id) m = id_refusal id
refusal_of layers cached (MoveFocus direction) m = code_refusal direction last_direction
refusal_of layers cached (SetModalLayer layer) m = layer_refusal layer
refusal_of layers cached StopTextInput m = notRefused
refusal_of layers cached ResetAreas m = notRefused
refusal_of layers cached InterruptIme m = notRefused
refusal_of layers cached (OpenPopupAt id pos) m = id_refusal id
refusal_of layers cached (KeepPopupOpen id) m = id_refusal id
refusal_of layers cached (ClosePopup id) m = id_refusal id
refusal_of layers cached (TogglePopup id) m = id_refusal id
refusal_of layers cached CloseAllPopups m = notRefused
refusal_of layers cached (SetEverythingIsVisible all) m = notRefused
refusal_of layers cached (SetState layer state) m = EguiAreas.set_state_refusal m.areas layers layer state
refusal_of layers cached (MoveToTop layer) m = EguiAreas.move_to_top_refusal m.areas layers layer
refusal_of layers cached (SetSublayer parent child) m = EguiAreas.set_sublayer_refusal m.areas layers parent child

-- ---- egui's method, which a refused call does not reach
abbrev pub egui_call : Call → Egui.Memory → Egui.Memory
egui_call (Begin events) m = Egui.begin_pass m events
egui_call (Interest id layer) m = Egui.interested_in_focus m id layer
egui_call (End used) m = Egui.end_pass m used
egui_call (SetFocusLockFilter id filter) m = Egui.set_focus_lock_filter m id filter
egui_call (RequestFocus id) m = Egui.request_focus m id
egui_call (RequestFocusNextFrame id) m = Egui.request_focus_next_frame m id
egui_call (SurrenderFocus id) m = Egui.surrender_focus m id
egui_call (IgnoreFocus id) m = Egui.ignore_focus m id
egui_call (MoveFocus direction) m = Egui.move_focus m direction
egui_call (SetModalLayer layer) m = Egui.set_modal_layer m layer
egui_call StopTextInput m = Egui.stop_text_input m
egui_call ResetAreas m = Egui.reset_areas m
egui_call InterruptIme m = Egui.interrupt_ime m
egui_call (OpenPopupAt id pos) m = Egui.open_popup_at m id pos
egui_call (KeepPopupOpen id) m = Egui.keep_popup_open m id
egui_call (ClosePopup id) m = Egui.close_popup m id
egui_call (TogglePopup id) m = Egui.toggle_popup m id
egui_call CloseAllPopups m = Egui.close_all_popups m
egui_call (SetEverythingIsVisible all) m = Egui.set_everything_is_visible m all
egui_call (SetState layer state) m = Egui.set_state m layer state
egui_call (MoveToTop layer) m = Egui.move_to_top m layer
egui_call (SetSublayer parent child) m = Egui.set_sublayer m parent child

abbrev pub egui_step : ℕ → ℕ → Call → Egui.Memory → Egui.Memory
egui_step layers cached call m = kept (refusal_of layers cached call m) m (egui_call call m)

-- ---- a list of calls, the last one first
abbrev pub Calls : Type 0
Calls = List Call

unfoldable pub record_from : Memory → Calls → Memory
record_from start [] = start
record_from start (call ∷ before) = (done_by call (record_from start before)).memory

unfoldable pub egui_from : ℕ → ℕ → Egui.Memory → Calls → Egui.Memory
egui_from layers cached start [] = start
egui_from layers cached start (call ∷ before) =
    egui_step layers cached call (egui_from layers cached start before)

-- ---- both from new ones
abbrev pub record_after : Calls → Memory
record_after calls = record_from new_memory calls

abbrev pub egui_after : ℕ → ℕ → Calls → Egui.Memory
egui_after layers cached calls = egui_from layers cached Egui.empty calls
