-- The table as a list of rows: a row has an index, the record that is held by id and the record that the list of its layer has. Definitions only.
use Prim.Native.Nat.{ℕ, zero, suc, ◌-◌}
use mathlib.Core.Bool.{cond}
use mathlib.Core.List.{List, [], ◌∷◌, ◌++◌}
use Rattle.layers.specs.declared.LayerId.{LayerId}
use Rattle.layers.specs.Layers.{is_layer}
use Rattle.widget_rect.specs.declared.WidgetRect.{WidgetRect}
use Rattle.widget_rows.specs.Rows.{Rows, index_at, record_at, one_more}

pub record Row : Type 0 where
  pub index : ℕ
  pub held : WidgetRect
  pub listed : WidgetRect

unfoldable pub row_of : Rows → ℕ → Row
row_of t k = record { index = index_at t.words k; held = record_at t k 0; listed = record_at t k 1 }

-- the first n
unfoldable pub rows_to : Rows → ℕ → List Row
rows_to t zero = []
rows_to t (suc n) = rows_to t n ++ (row_of t n ∷ [])

abbrev pub new_row : ℕ → WidgetRect → Row
new_row index w = record { index = index; held = w; listed = w }

abbrev pub with_held : Row → WidgetRect → Row
with_held r w = record { index = r.index; held = w; listed = r.listed }

abbrev pub with_listed : Row → WidgetRect → Row
with_listed r w = record { index = r.index; held = r.held; listed = w }

-- a row of the layer, after one that stood before it in the list is gone
unfoldable pub lowered : LayerId → Row → Row
lowered layer r = record { index = cond (is_layer r.held.layer_id layer) (r.index - 1) r.index; held = r.held; listed = r.listed }

-- the index after the last of the layer; i where there is none
unfoldable pub next_from : ℕ → List Row → LayerId → ℕ
next_from i [] layer = i
next_from i (r ∷ rows) layer = next_from (cond (is_layer r.held.layer_id layer) (one_more r.index) i) rows layer
