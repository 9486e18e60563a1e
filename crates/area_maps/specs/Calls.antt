-- The calls that change Areas, in a list, and what they leave: of the record, and of egui's maps
-- and sets. Definitions only.
use Rattle.std.specs.Prelude.{ℕ, List, [], ◌∷◌}
use Rattle.refusal.specs.Refusal.{kept}
use Rattle.area.specs.declared.AreaState.{AreaState}
use Rattle.layers.specs.declared.LayerId.{LayerId}
use Rattle.areas.specs.declared.Areas.{Areas}
use Rattle.areas.specs.Areas.{new_areas, state_set, to_top_of, sublayer_set, pass_ended}
use Rattle.area_maps.specs.Egui as Egui

pub data Call : Type 0 where
  SetState : LayerId → AreaState → Call
  MoveToTop : LayerId → Call
  SetSublayer : LayerId → LayerId → Call
  EndPass : Call
  Reset : Call

-- the last call stands first
abbrev pub Calls : Type 0
Calls = List Call

-- ---- the record; `reset` is what a reset makes of it: the record by value is then a new one,
-- and in place the tables stay and the counts are 0
abbrev pub record_step : (Areas → Areas) → Call → Areas → Areas
record_step reset (SetState layer state) a = (state_set a layer state).areas
record_step reset (MoveToTop layer) a = (to_top_of a layer).areas
record_step reset (SetSublayer parent child) a = (sublayer_set a parent child).areas
record_step reset EndPass a = pass_ended a
record_step reset Reset a = reset a

unfoldable pub record_from : (Areas → Areas) → Areas → Calls → Areas
record_from reset start [] = start
record_from reset start (call ∷ before) = record_step reset call (record_from reset start before)

-- ---- egui, which is not asked a call that is refused; `reset_areas` makes it anew
abbrev pub egui_step : ℕ → Call → Egui.Areas → Egui.Areas
egui_step limit (SetState layer state) m = kept (Egui.set_state_refusal m limit layer state) m (Egui.set_state m layer state)
egui_step limit (MoveToTop layer) m = kept (Egui.move_to_top_refusal m limit layer) m (Egui.move_to_top m layer)
egui_step limit (SetSublayer parent child) m = kept (Egui.set_sublayer_refusal m limit parent child) m (Egui.set_sublayer m parent child)
egui_step limit EndPass m = Egui.end_pass m
egui_step limit Reset m = Egui.empty

unfoldable pub egui_from : ℕ → Egui.Areas → Calls → Egui.Areas
egui_from limit start [] = start
egui_from limit start (call ∷ before) = egui_step limit call (egui_from limit start before)

-- ---- both from new ones, the record by value
abbrev pub record_after : Calls → Areas
record_after calls = record_from (λ a. new_areas) new_areas calls

abbrev pub egui_after : ℕ → Calls → Egui.Areas
egui_after limit calls = egui_from limit Egui.empty calls
