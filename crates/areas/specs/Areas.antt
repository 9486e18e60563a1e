-- Areas (memory/mod.rs, lines 1199 to 1440): the record by value. What it means in egui's terms is crate `area_maps`; a reader needs only that.
-- Definitions only.
use Rattle.std.specs.Prelude.{Option, None, Some, ℕ, ◌*◌, List, [], ◌∷◌, map, length, replicate, Result}
use Rattle.std.specs.Float.{binary32}
use Rattle.std.specs.Float.Ieee.{of_bits}
use Rattle.refusal.specs.Limits.{layers}
use Rattle.refusal.specs.declared.Refusal.{Refusal}
use Rattle.refusal.specs.Refusal.{answer, kept}
use Rattle.area.specs.declared.AreaState.{AreaState}
use Rattle.area.specs.Area.{default_state}
use Rattle.layers.specs.declared.LayerId.{LayerId}
use Rattle.layers.specs.Layers.{layer_refusal}
use Rattle.tables.specs.Tables.{written_on}
use Rattle.stacking.specs.Lists.{keep, each}
use Rattle.layer_rows.specs.declared.Row.{Row}
use Rattle.layer_rows.specs.Rows.{held_rows, rows_on}
use Rattle.layer_sort.specs.Sort.{end_rows}
use Rattle.layer_queries.specs.declared.Listing.{Listing}
use Rattle.layer_queries.specs.declared.Listing.TheVariants.{Children}
use Rattle.layer_queries.specs.Queries.{is_listed}
use Rattle.layer_table.specs.Layers.{room_in, to_top, top_refusal, with_sublayer, sublayer_refusal}
use Rattle.area_table.specs.Table.{Table, table_in}
use Rattle.area_stack.specs.Stack.{Tables, set_state_refusal, set_state_of, window_state}
use Rattle.areas.specs.declared.Areas.{Areas}
use Rattle.areas.specs.declared.Layers.{Layers}
use Rattle.areas.specs.declared.Window.{Window}
use Rattle.areas.specs.declared.Windows.{Windows}

-- ---- the record by value
abbrev pub areas_in : Areas → Table
areas_in a = table_in a.ids a.codes a.floats

abbrev pub tables_of : Areas → Tables
tables_of a = record { count = a.count; states = a.states; rows = a.rows; areas = areas_in a }

abbrev pub areas_of : ℕ → Tables → Areas
areas_of placed t = record { count = t.count; placed = placed; states = t.states; rows = t.rows; ids = t.areas.ids; codes = t.areas.codes; floats = t.areas.floats }

unfoldable pub new_areas : Areas
new_areas = record { count = 0; placed = 0; states = 0; rows = replicate (8 * layers) 0; ids = replicate layers 0; codes = replicate (5 * layers) 0; floats = replicate (4 * layers) (of_bits binary32 0) }

-- with another stack
abbrev pub with_stack : Areas → ℕ → List Row → Areas
with_stack a placed stack = record { count = length stack; placed = placed; states = a.states; rows = rows_on a.rows stack; ids = a.ids; codes = a.codes; floats = a.floats }

abbrev pub stack_of : Areas → List Row
stack_of a = held_rows a.count a.rows

-- what a call comes to: by what number it is refused, 0 for none, and the record after it
pub record Changed : Type 0 where
  pub refusal : ℕ
  pub areas : Areas

unfoldable pub state_set : Areas → LayerId → AreaState → Changed
state_set a layer s = record { refusal = set_state_refusal (tables_of a) layer s; areas = areas_of a.placed (set_state_of (tables_of a) layer s) }

abbrev pub changed_to : ℕ → Areas → List Row → Changed
changed_to refusal a stack = record { refusal = refusal; areas = kept refusal a (with_stack a a.placed stack) }

unfoldable pub to_top_of : Areas → LayerId → Changed
to_top_of a layer = changed_to (top_refusal (room_in a.rows) (stack_of a) layer) a (to_top (stack_of a) layer)

unfoldable pub sublayer_set : Areas → LayerId → LayerId → Changed
sublayer_set a parent child = changed_to (sublayer_refusal (room_in a.rows) (stack_of a) parent child) a (with_sublayer (stack_of a) parent child)

-- `end_pass`: every layer then has a place
unfoldable pub pass_ended : Areas → Areas
pass_ended a = with_stack a (length (stack_of a)) (end_rows (stack_of a))

-- ---- its listings
abbrev pub no_layer : LayerId
no_layer = record { order = 0; id = 0 }

unfoldable pub layers_of : Areas → Listing → List LayerId
layers_of a listing = map (λ (r : Row). r.layer) (keep (is_listed listing) (stack_of a))

abbrev pub listed : List LayerId → Layers
listed list = record { count = length list; layers = written_on (replicate layers no_layer) list }

-- nothing is listed where the layer is refused
unfoldable pub children_answer : Areas → LayerId → Result Layers Refusal
children_answer a layer = answer (layer_refusal layer) (listed (layers_of a (Children layer)))

abbrev pub window_in : LayerId → Option AreaState → List Window
window_in layer None = []
window_in layer (Some s) = record { layer = layer; state = s } ∷ []

unfoldable pub windows_of : Areas → List Window
windows_of a = each (λ (r : Row). window_in r.layer (window_state (areas_in a) a.states r)) (stack_of a)

abbrev pub no_window : Window
no_window = record { layer = no_layer; state = default_state }

abbrev pub windows_listed : List Window → Windows
windows_listed list = record { count = length list; windows = written_on (replicate layers no_window) list }
