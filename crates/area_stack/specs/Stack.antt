-- Areas (memory/mod.rs, lines 1199 to 1440): its lent tables, and what a call does to them. What they mean in egui's terms is crate `area_maps`; a reader needs only that.
-- Definitions only.
use Rattle.std.specs.Prelude.{Option, None, Some, ℕ, suc, ◌+◌, max, Bool, true, false, cond, ◌&&◌, List, [], ◌∷◌, ltb, Float, length}
use Rattle.refusal.specs.Refusal.{none, full, lowest, kept}
use Rattle.emath.specs.declared.Pos2.{Pos2}
use Rattle.emath.specs.Rect.{contains_pos}
use Rattle.area.specs.declared.AreaState.{AreaState}
use Rattle.area.specs.Area.{rect_of, state_refusal}
use Rattle.layers.specs.declared.LayerId.{LayerId}
use Rattle.layers.specs.Layers.{layer_refusal}
use Rattle.layer_rows.specs.declared.Row.{Row}
use Rattle.layer_rows.specs.declared.LayerRows.{LayerRows}
use Rattle.layer_rows.specs.Rows.{held_rows, rows_on, row_of, marked, spot_in}
use Rattle.layer_queries.specs.declared.Listing.{Listing}
use Rattle.layer_queries.specs.Queries.{is_visible_row, is_window_row, is_listed, last_of}
use Rattle.layer_table.specs.Layers.{room_in}
use Rattle.area_table.specs.declared.AreaTable.{AreaTable}
use Rattle.area_table.specs.Table.{Table, table_in, lent, room_of, held_in, spot_of, held_of, put_in}

-- ---- the tables: how many rows and states are held, the rows of the layers, and the map of the states
pub record Tables : Type 0 where
  pub count : ℕ
  pub states : ℕ
  pub rows : List ℕ
  pub areas : Table

abbrev pub tables_in : ℕ → ℕ → List ℕ → List ℕ → List ℕ → List Float → Tables
tables_in count states rows ids codes floats = record { count = count; states = states; rows = rows; areas = table_in ids codes floats }

-- what tables that are lent hold
abbrev pub tables_lent : LayerRows → AreaTable → Tables
tables_lent rows areas = record { count = rows.count; states = areas.count; rows = rows.words.now; areas = lent areas }

abbrev pub stack_in : Tables → List Row
stack_in t = held_rows t.count t.rows

-- ---- `set_state`: the layer is shown, and its id has the state
abbrev pub shown_row : ℕ → Row → Row
shown_row area r = record { layer = r.layer; shown = 1; last = r.last; raised = r.raised; parent = r.parent; area = area; key = r.key }

-- where the state of the layer's area is, or comes to
unfoldable pub slot_of : Tables → LayerId → ℕ
slot_of t layer = spot_of t.areas t.states (row_of (stack_in t) layer).area layer.id

abbrev pub room_refusal : ℕ → ℕ → ℕ
room_refusal k room = cond (ltb k room) none full

unfoldable pub set_state_refusal : Tables → LayerId → AreaState → ℕ
set_state_refusal t layer s =
    lowest (lowest (layer_refusal layer) (state_refusal s)) (lowest (room_refusal (spot_in (stack_in t) layer) (room_in t.rows)) (room_refusal (slot_of t layer) (room_of t.areas)))

abbrev pub with_state : Tables → LayerId → AreaState → Tables
with_state t layer s =
    let slot = slot_of t layer in
    let stack = marked (shown_row (slot + 1)) (stack_in t) layer in
    record { count = length stack; states = max (held_in t.states t.areas) (slot + 1); rows = rows_on t.rows stack; areas = put_in t.areas slot layer.id s }

unfoldable pub set_state_of : Tables → LayerId → AreaState → Tables
set_state_of t layer s = kept (set_state_refusal t layer s) t (with_state t layer s)

-- ---- `is_interactable`, from what the map holds of an id
abbrev pub is_interactable : Option AreaState → Bool
is_interactable None = true
is_interactable (Some s) = s.interactable

-- ---- `layer_id_at`
abbrev pub hit_by : Pos2 → Option AreaState → Bool
hit_by pos None = false
hit_by pos (Some s) = s.interactable && contains_pos (rect_of s) pos

abbrev pub hit_row : Table → ℕ → Pos2 → Row → Bool
hit_row t states pos r = is_visible_row r && hit_by pos (held_of t states r.area r.layer.id)

unfoldable pub layer_id_at : Tables → Pos2 → Option LayerId
layer_id_at t pos = last_of (hit_row t.areas t.states pos) (stack_in t)

-- ---- listings: the next layer of one, and the next window, from a row on
unfoldable pub next_layer : Listing → ℕ → List Row → Option (ℕ × LayerId)
next_layer listing k [] = None
next_layer listing k (r ∷ rows) = cond (is_listed listing r) (Some (suc k, r.layer)) (next_layer listing (suc k) rows)

abbrev pub window_state : Table → ℕ → Row → Option AreaState
window_state t states r = cond (is_window_row r) (held_of t states r.area r.layer.id) None

abbrev pub or_window : Option AreaState → ℕ → LayerId → Option (ℕ × LayerId × AreaState) → Option (ℕ × LayerId × AreaState)
or_window None k layer rest = rest
or_window (Some s) k layer rest = Some (k, layer, s)

unfoldable pub next_window : Table → ℕ → ℕ → List Row → Option (ℕ × LayerId × AreaState)
next_window t states k [] = None
next_window t states k (r ∷ rows) = or_window (window_state t states r) (suc k) r.layer (next_window t states (suc k) rows)
