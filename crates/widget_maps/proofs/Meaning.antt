-- What rows mean, in the terms of egui's maps and lists, and which rows are sound. Definitions only.
use mathlib.Core.Path.{◌≡◌}
use Prim.Native.Nat.{ℕ, suc, ◌+◌, ◌≤◌}
use mathlib.Core.Bool.{true, cond}
use mathlib.Core.List.{List, [], ◌∷◌}
use lib.Dec.{eqb}
use lib.ListN.{length}
use Rattle.layers.specs.declared.LayerId.{LayerId}
use Rattle.layers.specs.Layers.{is_layer}
use Rattle.widget_rect.specs.declared.WidgetRect.{WidgetRect}
use Rattle.std.specs.Prelude.{Option, None, Some}
use Rattle.widget_maps.specs.Egui.{WidgetRects}
use Rattle.widget_maps.proofs.Row.{Row}

-- what is held by an id: that of the first row with it
unfoldable pub entry_rows : List Row → ℕ → Option (ℕ × WidgetRect)
entry_rows [] id = None
entry_rows (r ∷ rows) id = cond (eqb r.held.id id) (Some (r.index, r.held)) (entry_rows rows id)

-- the list of a layer: the listed records of its rows, in their order
unfoldable pub list_rows : List Row → LayerId → List WidgetRect
list_rows [] layer = []
list_rows (r ∷ rows) layer = cond (is_layer r.held.layer_id layer) (r.listed ∷ list_rows rows layer) (list_rows rows layer)

unfoldable pub Means : List Row → WidgetRects → Type 0
Means rows m = ((id : ℕ) → entry_rows rows id ≡ m.by_id id) × ((layer : LayerId) → list_rows rows layer ≡ m.by_layer layer) × (length rows ≡ m.len)

-- ---- sound rows
-- how many rows hold an id
unfoldable pub times : List Row → ℕ → ℕ
times [] id = 0
times (r ∷ rows) id = cond (eqb r.held.id id) 1 0 + times rows id

-- a row at place i of the list of its layer: its index says so, and its listed record has the id and the layer of the held one
pub record StandsAt (i : ℕ) (r : Row) : Type 0 where
  pub place : r.index ≡ i
  pub same_id : r.listed.id ≡ r.held.id
  pub same_layer : r.listed.layer_id ≡ r.held.layer_id

-- the next place of a layer's list, after a place i that was the next before a row of a layer
abbrev pub next_place : LayerId → LayerId → ℕ → ℕ
next_place of layer i = cond (is_layer of layer) (suc i) i

-- the rows of a layer stand at the places i, i + 1, .. of its list
unfoldable pub InOrder : LayerId → ℕ → List Row → Type 0
InOrder layer i [] = Unit {0}
InOrder layer i (r ∷ rows) = (is_layer r.held.layer_id layer ≡ true → StandsAt i r) × InOrder layer (next_place r.held.layer_id layer i) rows

pub record Sound (rows : List Row) : Type 0 where
  pub distinct : (id : ℕ) → times rows id ≤ 1
  pub in_order : (layer : LayerId) → InOrder layer 0 rows
