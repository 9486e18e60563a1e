-- The calls that change Focus, what the record by value means in egui's terms, and what a list of calls leaves of both. Definitions only.
use Rattle.std.specs.Prelude.{ℕ, cond, Option, None, Some, List, [], ◌∷◌, eqb, ltb, length}
use Rattle.refusal.specs.Refusal.{full, bad_list, lowest, id_refusal, code_refusal, kept}
use Rattle.refusal.specs.Refusal.{none as notRefused}
use Rattle.refusal.specs.Limits.{last_direction}
use Rattle.refusal.specs.Limits.{used as usedLimit}
use Rattle.input.specs.declared.EventFilter.{EventFilter}
use Rattle.layers.specs.declared.LayerId.{LayerId}
use Rattle.layers.specs.Layers.{layer_refusal}
use Rattle.search.specs.declared.Candidate.{Candidate}
use Rattle.focus_rules.specs.declared.Nav.{Nav}
use Rattle.focus_rules.specs.Rules.{focused_widget}
use Rattle.focus_cache.specs.Cache.{enlisted}
use Rattle.focus_pass.specs.Pass.{begin_refusal}
use Rattle.used.specs.Used.{used_refusal}
use Rattle.focus.specs.declared.Focus.{Focus}
use Rattle.focus.specs.declared.Events.{Events}
use Rattle.focus.specs.declared.Used.{Used}
use Rattle.focus.specs.Focus.{Done, new_focus, held_of, events_of, used_of, begun_of, interested_of, ended_of, modal_set, requested, requested_next, surrendered, ignored_of, filter_set, moved}
use Rattle.focus_maps.specs.Egui as Egui

-- ---- what the record means: 0 is no id, and a layer of id 0 is none
abbrev pub option_of : ℕ → Option ℕ
option_of id = cond (eqb id 0) None (Some id)

abbrev pub layer_option : LayerId → Option LayerId
layer_option layer = cond (eqb layer.id 0) None (Some layer)

abbrev pub meaning : Nav → List Candidate → Egui.Focus
meaning n cache = record { focused_widget = focused_widget n; id_previous_frame = option_of n.id_previous_frame; id_two_frames_ago = option_of n.id_two_frames_ago; id_next_frame = option_of n.id_next_frame; give_to_next = n.give_to_next; last_interested = option_of n.last_interested; focus_direction = n.focus_direction; top_modal_layer = layer_option n.top_modal_layer; top_modal_layer_current_frame = layer_option n.top_modal_layer_current_frame; focus_widgets_cache = cache }

abbrev pub meaning_of : Focus → Egui.Focus
meaning_of f = meaning f.nav (held_of f)

-- ---- a call, with the arguments that the code gets
pub data Call : Type 0 where
  Begin : Events → Call
  Interest : ℕ → Call
  End : Used → Call
  SetModalLayer : LayerId → Call
  RequestFocus : ℕ → Call
  RequestFocusNextFrame : ℕ → Call
  SurrenderFocus : ℕ → Call
  IgnoreFocus : ℕ → Call
  SetFocusLockFilter : ℕ → EventFilter → Call
  MoveFocus : ℕ → Call

abbrev pub done_by : Call → Focus → Done
done_by (Begin events) f = begun_of f events
done_by (Interest id) f = interested_of f id
done_by (End used) f = ended_of f used
done_by (SetModalLayer layer) f = modal_set f layer
done_by (RequestFocus id) f = requested f id
done_by (RequestFocusNextFrame id) f = requested_next f id
done_by (SurrenderFocus id) f = surrendered f id
done_by (IgnoreFocus id) f = ignored_of f id
done_by (SetFocusLockFilter id filter) f = filter_set f id filter
done_by (MoveFocus direction) f = moved f direction

-- ---- document 01's refusals, over egui's state; the limit is that of the cache
abbrev pub refusal_of : ℕ → Call → Egui.Focus → ℕ
refusal_of limit (Begin events) m = begin_refusal (events_of events)
refusal_of limit (Interest id) m = lowest (id_refusal id) (cond (ltb limit (length (enlisted m.focus_widgets_cache id))) full notRefused)
refusal_of limit (End used) m = cond (ltb usedLimit used.count) bad_list (used_refusal usedLimit (used_of used))
refusal_of limit (SetModalLayer layer) m = layer_refusal layer
refusal_of limit (RequestFocus id) m = id_refusal id
refusal_of limit (RequestFocusNextFrame id) m = id_refusal id
refusal_of limit (SurrenderFocus id) m = id_refusal id
refusal_of limit (IgnoreFocus id) m = id_refusal id
refusal_of limit (SetFocusLockFilter id filter) m = id_refusal id
refusal_of limit (MoveFocus direction) m = code_refusal direction last_direction

-- ---- egui's method, which a refused call does not reach
abbrev pub egui_call : Call → Egui.Focus → Egui.Focus
egui_call (Begin events) m = Egui.begin_pass m (events_of events)
egui_call (Interest id) m = Egui.interested_in_focus m id
egui_call (End used) m = Egui.end_pass m (used_of used)
egui_call (SetModalLayer layer) m = Egui.set_modal_layer m layer
egui_call (RequestFocus id) m = Egui.request_focus m id
egui_call (RequestFocusNextFrame id) m = Egui.request_focus_next_frame m id
egui_call (SurrenderFocus id) m = Egui.surrender_focus m id
egui_call (IgnoreFocus id) m = Egui.ignore_focus m id
egui_call (SetFocusLockFilter id filter) m = Egui.set_focus_lock_filter m id filter
egui_call (MoveFocus direction) m = Egui.move_focus m direction

abbrev pub egui_step : ℕ → Call → Egui.Focus → Egui.Focus
egui_step limit call m = kept (refusal_of limit call m) m (egui_call call m)

-- ---- a list of calls, the last one first
abbrev pub Calls : Type 0
Calls = List Call

unfoldable pub record_after : Calls → Focus
record_after [] = new_focus
record_after (call ∷ before) = (done_by call (record_after before)).focus

unfoldable pub egui_after : ℕ → Calls → Egui.Focus
egui_after limit [] = Egui.empty
egui_after limit (call ∷ before) = egui_step limit call (egui_after limit before)
