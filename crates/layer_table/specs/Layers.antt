-- The calls of Areas (memory/mod.rs, lines 1335 to 1369) that change only its layers, on the rows of the stack: the exact value of each row. What it means in egui's terms
-- is crate `area_maps`; a reader needs only that. Definitions only.
use Rattle.std.specs.Prelude.{ℕ, ◌/◌, Bool, cond, not, ◌&&◌, ◌||◌, List, eqb, ltb, length}
use Rattle.refusal.specs.Refusal.{none, full, bad_pair, bad_family, lowest}
use Rattle.layers.specs.declared.LayerId.{LayerId}
use Rattle.layers.specs.Layers.{layer_refusal}
use Rattle.stacking.specs.Lists.{some}
use Rattle.layer_rows.specs.declared.Row.{Row}
use Rattle.layer_rows.specs.Rows.{row_of, marked}
use Rattle.layer_queries.specs.Queries.{is_sublayer_row, is_child_row}

-- how many rows a table has room for
abbrev pub room_in : List ℕ → ℕ
room_in words = length words / 8

-- ---- changes of a layer's row
abbrev pub same : Row → Row
same r = r

abbrev pub raised_row : Row → Row
raised_row r = record { layer = r.layer; shown = 1; last = r.last; raised = 1; parent = r.parent; area = r.area; key = r.key }

abbrev pub child_row : ℕ → Row → Row
child_row parent r = record { layer = r.layer; shown = r.shown; last = r.last; raised = r.raised; parent = parent; area = r.area; key = r.key }

abbrev pub full_refusal : ℕ → ℕ → ℕ
full_refusal room n = cond (ltb room n) full none

-- ---- `move_to_top`
unfoldable pub to_top : List Row → LayerId → List Row
to_top rows layer = marked raised_row rows layer

unfoldable pub top_refusal : ℕ → List Row → LayerId → ℕ
top_refusal room rows layer = lowest (layer_refusal layer) (full_refusal room (length (to_top rows layer)))

-- ---- `set_sublayer`: the parent's row, then the child's
unfoldable pub with_sublayer : List Row → LayerId → LayerId → List Row
with_sublayer rows parent child = marked (child_row parent.id) (marked same rows parent) child

abbrev pub pair_refusal : LayerId → LayerId → ℕ
pair_refusal parent child = cond (eqb parent.order child.order && not (eqb parent.id child.id)) none bad_pair

abbrev pub other_parent : Row → ℕ → Bool
other_parent r parent = is_sublayer_row r && not (eqb r.parent parent)

unfoldable pub family_refusal : List Row → LayerId → LayerId → ℕ
family_refusal rows parent child = cond (other_parent (row_of rows child) parent.id || (some (is_child_row child) rows || is_sublayer_row (row_of rows parent))) bad_family none

unfoldable pub sublayer_refusal : ℕ → List Row → LayerId → LayerId → ℕ
sublayer_refusal room rows parent child =
    lowest (lowest (layer_refusal parent) (layer_refusal child)) (lowest (full_refusal room (length (with_sublayer rows parent child))) (lowest (pair_refusal parent child) (family_refusal rows parent child)))
