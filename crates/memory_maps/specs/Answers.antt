-- That a record agrees with egui's Memory: it means and answers the same, query by query and for
-- every argument, and refuses the next call as Calls.antt says. Definitions only.
use Rattle.std.specs.Prelude.{◌≡◌, ℕ, false}
use Rattle.refusal.specs.Refusal.{id_refusal, answer}
use Rattle.emath.specs.declared.Pos2.{Pos2}
use Rattle.layers.specs.declared.LayerId.{LayerId}
use Rattle.layers.specs.Layers.{layer_refusal}
use Rattle.layer_queries.specs.declared.Listing.TheVariants.{All}
use Rattle.areas.specs.Areas.{layers_of}
use Rattle.focus_rules.specs.Rules.{id_or_nothing, layer_or_nothing}
use Rattle.memory_rules.specs.declared.Memory.{Memory}
use Rattle.memory_rules.specs.State.{areas_of, nav_of}
use Rattle.memory_rules.specs.Memory.{above_answer, allows_answer, layer_id_at, had_focus, has_focus, lost_focus, gained_focus, of_id, area_rect, is_popup_open, any_popup_open, position_answer}
use Rattle.memory_rules.specs.Calls.{Call, done_by}
use Rattle.area_table.specs.Table.{Distinct}
use Rattle.area_maps.specs.Answers as Areas
use Rattle.used.specs.Used.{ids_of, repeated}
use Rattle.memory_maps.specs.Egui as Egui
use Rattle.memory_maps.specs.Calls.{meaning_of, refusal_of}
use Rattle.memory_maps.specs.Fits.{Fits}

-- ---- a query with an id is refused where the id is 0, one with a layer where that is none; the others answer always
abbrev pub FocusAnswers : Memory → Egui.Memory → Type 0
FocusAnswers m e =
    (id_or_nothing (nav_of m).focused ≡ Egui.focused e)
    × ((id : ℕ) → of_id had_focus m id ≡ answer (id_refusal id) (Egui.had_focus_last_frame e id))
    × ((id : ℕ) → of_id has_focus m id ≡ answer (id_refusal id) (Egui.has_focus e id))
    × ((id : ℕ) → of_id lost_focus m id ≡ answer (id_refusal id) (Egui.lost_focus e id))
    × ((id : ℕ) → of_id gained_focus m id ≡ answer (id_refusal id) (Egui.gained_focus e id))
    × ((nav_of m).focus_direction ≡ Egui.focus_direction e)
    × ((id : ℕ) → of_id has_focus m id ≡ answer (id_refusal id) (Egui.owns_ime_events e id))
    × (m.requested_interrupt_ime ≡ Egui.should_interrupt_ime e)

abbrev pub LayerAnswers : Memory → Egui.Memory → Type 0
LayerAnswers m e =
    (layer_or_nothing (nav_of m).top_modal_layer ≡ Egui.top_modal_layer e)
    × ((layer : LayerId) → above_answer m layer ≡ answer (layer_refusal layer) (Egui.is_above_modal_layer e layer))
    × ((layer : LayerId) → allows_answer m layer ≡ answer (layer_refusal layer) (Egui.allows_interaction e layer))
    × ((pos : Pos2) → layer_id_at m pos ≡ Egui.layer_id_at e pos)
    × (layers_of (areas_of m) All ≡ Egui.layer_ids e)
    × ((id : ℕ) → area_rect m id ≡ answer (id_refusal id) (Egui.area_rect e id))

abbrev pub PopupAnswers : Memory → Egui.Memory → Type 0
PopupAnswers m e =
    ((id : ℕ) → of_id is_popup_open m id ≡ answer (id_refusal id) (Egui.is_popup_open e id))
    × (any_popup_open m ≡ Egui.any_popup_open e)
    × ((id : ℕ) → position_answer m id ≡ answer (id_refusal id) (Egui.popup_position e id))
    × (m.everything_is_visible ≡ e.everything_is_visible)

-- the queries of `areas()`, passed through
abbrev pub AreasAnswers : Memory → Egui.Memory → Type 0
AreasAnswers m e = Areas.LayerAnswers (areas_of m) e.areas × Areas.AreaAnswers (areas_of m) e.areas

-- ---- all of it, and the refusal of the next call, of a record that fits its tables
pub record Agrees (layers cached : ℕ) (m : Memory) (e : Egui.Memory) : Type 0 where
  pub fits : Fits layers cached m
  pub means : meaning_of m ≡ e
  pub refusals : (call : Call) → (done_by call m).refusal ≡ refusal_of layers cached call e
  pub focus_answers : FocusAnswers m e
  pub layer_answers : LayerAnswers m e
  pub areas_answers : AreasAnswers m e
  pub popup_answers : PopupAnswers m e

-- ---- no id has two states, and none is cached twice: the lists of entries are maps
abbrev pub AreMaps : Egui.Memory → Type 0
AreMaps e = Distinct e.areas.areas × (repeated (ids_of e.focus.focus_widgets_cache) ≡ false)
