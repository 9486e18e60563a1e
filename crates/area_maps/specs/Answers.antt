-- That a record agrees with egui's Areas: it means and answers the same, query by query and for
-- every argument, and refuses the next call as Egui.antt says. Definitions only.
use Rattle.std.specs.Prelude.{◌≡◌, ℕ, length}
use Rattle.emath.specs.declared.Pos2.{Pos2}
use Rattle.area.specs.declared.AreaState.{AreaState}
use Rattle.layers.specs.declared.LayerId.{LayerId}
use Rattle.layer_rows.specs.Rows.{held_rows, row_of}
use Rattle.layer_queries.specs.Queries.{shown_last, is_visible_row, is_sublayer_row, is_top_row, parent_in, last_of, compared_by}
use Rattle.layer_queries.specs.declared.Listing.TheVariants.{All, Visible, Children}
use Rattle.area_table.specs.Table.{held_in, held_of}
use Rattle.area_stack.specs.Stack.{layer_id_at, is_interactable}
use Rattle.areas.specs.declared.Areas.{Areas}
use Rattle.areas.specs.Areas.{stack_of, areas_in, tables_of, layers_of, windows_of}
use Rattle.areas.specs.Areas.{state_set, to_top_of, sublayer_set}
use Rattle.area_maps.specs.Egui as Egui
use Rattle.area_maps.specs.Meaning.{meaning_of}
use Rattle.area_maps.specs.Fits.{Fits}

-- ---- every query about layers, from egui's sets and list
abbrev pub LayerAnswers : Areas → Egui.Areas → Type 0
LayerAnswers a e =
    (layers_of a All ≡ e.order)
    × ((x y : LayerId) → compared_by (held_rows a.placed a.rows) x y ≡ Egui.compare_order e x y)
    × ((layer : LayerId) → shown_last (row_of (stack_of a) layer) ≡ e.last layer)
    × ((layer : LayerId) → is_visible_row (row_of (stack_of a) layer) ≡ Egui.is_visible e layer)
    × ((layer : LayerId) → is_sublayer_row (row_of (stack_of a) layer) ≡ Egui.is_sublayer e layer)
    × ((layer : LayerId) → parent_in (row_of (stack_of a) layer) ≡ Egui.parent_layer e layer)
    × ((order : ℕ) → last_of (is_top_row order) (stack_of a) ≡ Egui.top_layer_id e order)
    × (layers_of a Visible ≡ Egui.visible_layer_ids e)
    × ((layer : LayerId) → layers_of a (Children layer) ≡ Egui.child_layers e layer)

-- ---- every query about areas: how many have a state, the state of an id, whether a layer is interactable, the layer that a point hits, the windows
abbrev pub AreaAnswers : Areas → Egui.Areas → Type 0
AreaAnswers a e =
    (held_in a.states (areas_in a) ≡ length e.areas)
    × ((id : ℕ) → held_of (areas_in a) a.states 0 id ≡ Egui.get e id)
    × ((layer : LayerId) → is_interactable (held_of (areas_in a) a.states 0 layer.id) ≡ Egui.is_interactable e layer)
    × ((pos : Pos2) → layer_id_at (tables_of a) pos ≡ Egui.layer_id_at e pos)
    × (windows_of a ≡ Egui.visible_windows e)

-- ---- the refusal of the next call
pub record Refusals (limit : ℕ) (a : Areas) (e : Egui.Areas) : Type 0 where
  pub set_state : (layer : LayerId) (state : AreaState)
      → (state_set a layer state).refusal ≡ Egui.set_state_refusal e limit layer state
  pub move_to_top : (layer : LayerId)
      → (to_top_of a layer).refusal ≡ Egui.move_to_top_refusal e limit layer
  pub set_sublayer : (parent child : LayerId)
      → (sublayer_set a parent child).refusal ≡ Egui.set_sublayer_refusal e limit parent child

-- ---- all of it, of a record that fits its tables
pub record Agrees (limit : ℕ) (a : Areas) (e : Egui.Areas) : Type 0 where
  pub fits : Fits limit a
  pub means : meaning_of a ≡ e
  pub refusals : Refusals limit a e
  pub layer_answers : LayerAnswers a e
  pub area_answers : AreaAnswers a e
