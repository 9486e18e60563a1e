-- The records that the theorems start from: those whose counts fit their tables, and those that
-- hold nothing. Definitions only.
use Rattle.std.specs.Prelude.{◌≡◌, ◌≢◌, ◌≤◌, ℕ, Bool, true, None, List, eqb, length}
use Rattle.layers.specs.declared.LayerId.{LayerId}
use Rattle.stacking.specs.Lists.{some}
use Rattle.stacking.specs.Stacking.{Distinct, Orders, Pairs}
use Rattle.layer_rows.specs.declared.Row.{Row}
use Rattle.layer_table.specs.Layers.{room_in}
use Rattle.area_table.specs.Table.{Entry, get_in, room_of}
use Rattle.area_table.specs.Table as Table
use Rattle.areas.specs.declared.Areas.{Areas}
use Rattle.areas.specs.Areas.{stack_of, areas_in}
use Rattle.area_maps.specs.Meaning.{layers_in, child_in, entries_in}

-- the table of the layers has room for as many as the limit says, and that of the states for no
-- fewer, so that it is never full before the other is
pub record HasRoom (limit : ℕ) (a : Areas) : Type 0 where
  pub rows : room_in a.rows ≡ limit
  pub states : limit ≤ room_of (areas_in a)

abbrev pub has_id : ℕ → LayerId → Bool
has_id id layer = eqb layer.id id

-- what is held: rows of layers, of which the first so many have a place, and entries of states
pub record StackFits (placed : ℕ) (rows : List Row) (entries : List Entry) : Type 0 where
  pub placed_held : placed ≤ length rows
  -- no layer stands twice, and Orders and pairs are such as calls leave them
  pub distinct : Distinct (layers_in rows)
  pub orders : Orders (layers_in rows)
  pub pairs : Pairs (layers_in rows) (child_in rows)
  -- no id has two states, and one that has a state is a held layer's
  pub entries_distinct : Table.Distinct entries
  pub entries_known : (id : ℕ) → get_in entries id ≢ None
      → some (has_id id) (layers_in rows) ≡ true

-- a record whose counts fit its tables
pub record Fits (limit : ℕ) (a : Areas) : Type 0 where
  pub room : HasRoom limit a
  pub stack : StackFits a.placed (stack_of a) (entries_in a)

-- a record that holds no layer and no state, whatever stands in its tables
pub record Blank (a : Areas) : Type 0 where
  pub layers : a.count ≡ 0
  pub placed : a.placed ≡ 0
  pub states : a.states ≡ 0

-- a way to reset that leaves such a record, with as much room
abbrev pub Empties : ℕ → (Areas → Areas) → Type 0
Empties limit reset = (a : Areas) → HasRoom limit a → HasRoom limit (reset a) × Blank (reset a)
