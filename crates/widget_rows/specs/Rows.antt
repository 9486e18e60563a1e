-- WidgetRects of widget_rect.rs (lines 104 to 245) as one table of rows, and what is read of it. What it means in the Rust's terms is
-- crates/widget_maps/specs/Egui.antt; a reader needs only that. Definitions only.
use Rattle.std.specs.Prelude.{ℕ, zero, suc, ◌+◌, ◌-◌, ◌*◌, ◌/◌, min, Bool, cond, not, Option, None, Some, List, [], ◌∷◌, ◌++◌, eqb, ltb, Float, length, get_or, take, drop, set}
use Rattle.std.specs.Int.Bits.{bit_and}
use Rattle.std.specs.Float.{nan}
use Rattle.emath.specs.declared.Rect.{Rect}
use Rattle.layers.specs.declared.LayerId.{LayerId}
use Rattle.layers.specs.Layers.{is_layer}
use Rattle.tables.specs.Tables.{nearest}
use Rattle.widget_rect.specs.declared.WidgetRect.{WidgetRect}
use Rattle.widget_rows.specs.declared.WidgetTable.{WidgetTable}

pub record Rows : Type 0 where
  pub ids : List ℕ
  pub words : List ℕ
  pub rects : List Float

-- how many rows are held, the cells that lead to rows, and the rows
pub record Table : Type 0 where
  pub count : ℕ
  pub cells : List ℕ
  pub rows : Rows

abbrev pub rows_in : List ℕ → List ℕ → List Float → Rows
rows_in ids words rects = record { ids = ids; words = words; rects = rects }

abbrev pub table_in : ℕ → List ℕ → List ℕ → List ℕ → List Float → Table
table_in count cells ids words rects = record { count = count; cells = cells; rows = rows_in ids words rects }

-- what tables that are lent hold
abbrev pub lent : WidgetTable → Table
lent t = table_in t.count t.cells.now t.ids.now t.words.now t.rects.now

-- ---- a row: the record in its half 0 is held by id, in its half 1 by the list of its layer
abbrev pub rect_at : List Float → ℕ → Rect
rect_at rects at = record { min = record { x = get_or rects at nan; y = get_or rects (at + 1) nan }; max = record { x = get_or rects (at + 2) nan; y = get_or rects (at + 3) nan } }

abbrev pub layer_at : List ℕ → ℕ → LayerId
layer_at words k = record { order = get_or words (10 * k + 1) 0; id = get_or words (10 * k + 2) 0 }

unfoldable pub is_in : List ℕ → ℕ → LayerId → Bool
is_in words k layer = is_layer (layer_at words k) layer

unfoldable pub index_at : List ℕ → ℕ → ℕ
index_at words k = get_or words (10 * k + 3) 0

unfoldable pub record_at : Rows → ℕ → ℕ → WidgetRect
record_at t k half =
    let look = 10 * k + 4 + 3 * half in
    let edges = 16 * k + 8 * half in
    record { id = get_or t.ids k 0; parent_id = get_or t.words (10 * k) 0; layer_id = layer_at t.words k; rect = rect_at t.rects edges; interact_rect = rect_at t.rects (edges + 4); sense = get_or t.words look 0; enabled = not (eqb (get_or t.words (look + 1) 0) 0); visible = not (eqb (get_or t.words (look + 2) 0) 0) }

-- ---- the lists of the layers: the rows of a layer, in their order; the index is the place in the list
abbrev pub one_more : ℕ → ℕ
one_more n = min (n + 1) 18446744073709551615

abbrev pub one_less : ℕ → ℕ
one_less n = n - 1

-- the index after the last of the layer's list among the first n rows
unfoldable pub next_index : List ℕ → ℕ → LayerId → ℕ
next_index words zero layer = 0
next_index words (suc n) layer = cond (is_in words n layer) (one_more (index_at words n)) (next_index words n layer)

-- the places of the layer's list in a tail of the rows, one less each
unfoldable pub lowered_at : List ℕ → ℕ → LayerId → List ℕ
lowered_at words k layer = cond (is_in words k layer) (set words (10 * k + 3) (one_less (index_at words k))) words

unfoldable pub renumbered_rows : ℕ → LayerId → List ℕ → List ℕ
renumbered_rows zero layer tail = tail
renumbered_rows (suc n) layer tail = take 10 (lowered_at tail 0 layer) ++ renumbered_rows n layer (drop 10 tail)

unfoldable pub renumbered : LayerId → List ℕ → List ℕ
renumbered layer tail = renumbered_rows (length tail / 10) layer tail

-- ---- where an id stands among ids, by the cell of its home: the row after the one to look at first, or 0 where the id is not held
abbrev pub home_of : List ℕ → ℕ → ℕ
home_of cells id = bit_and (length cells - 1) id

unfoldable pub place_by : ℕ → List ℕ → ℕ → Option ℕ
place_by zero held id = None
place_by (suc k) held id = nearest held (suc k) id

unfoldable pub place_of : List ℕ → List ℕ → ℕ → Option ℕ
place_of cells held id = place_by (get_or cells (home_of cells id) 1) held id

unfoldable pub room_of : Rows → ℕ
room_of t = min (length t.ids) (min (length t.words / 10) (length t.rects / 16))

-- how many rows are held: never more than there is room for
unfoldable pub held_in : ℕ → Rows → ℕ
held_in count t = min count (room_of t)

abbrev pub held_of : Table → ℕ
held_of t = held_in t.count t.rows

unfoldable pub found_in : Table → ℕ → Option ℕ
found_in t id = place_of t.cells (take (held_of t) t.rows.ids) id

-- the record held by id at row k, or d past the room
unfoldable pub record_or : Rows → ℕ → WidgetRect → WidgetRect
record_or t k d = cond (ltb k (room_of t)) (record_at t k 0) d

-- ---- what is held of an id, and of a layer
abbrev pub entry_at : Rows → Option ℕ → Option (ℕ × WidgetRect)
entry_at t (Some k) = Some (index_at t.words k, record_at t k 0)
entry_at t None = None

unfoldable pub entry_of : Table → ℕ → Option (ℕ × WidgetRect)
entry_of t id = entry_at t.rows (found_in t id)

-- the layer's list, and its first widget with the row after it: of m rows from row k on
module _ (t : Rows) (layer : LayerId) where
  unfoldable pub list_in : ℕ → ℕ → List WidgetRect
  list_in zero k = []
  list_in (suc m) k = cond (is_in t.words k layer) (record_at t k 1 ∷ list_in m (suc k)) (list_in m (suc k))

  unfoldable pub listed_in : ℕ → ℕ → Option (ℕ × WidgetRect)
  listed_in zero k = None
  listed_in (suc m) k = cond (is_in t.words k layer) (Some (suc k, record_at t k 1)) (listed_in m (suc k))

unfoldable pub list_of : Table → LayerId → List WidgetRect
list_of t layer = list_in t.rows layer (held_of t) 0
