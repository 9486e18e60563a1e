-- WidgetRects of widget_rect.rs (lines 104 to 245) as a record by value: its table is that of crate `widget_rows`, with 256 rows, and 512 cells so that few ids share
-- one. Definitions only.
use Rattle.std.specs.Prelude.{ℕ, ◌*◌, Bool, false, List, length, replicate, Result}
use Rattle.std.specs.Float.{binary32}
use Rattle.std.specs.Float.Ieee.{of_bits}
use Rattle.refusal.specs.Limits.{widgets}
use Rattle.refusal.specs.declared.Refusal.{Refusal}
use Rattle.refusal.specs.Refusal.{answer}
use Rattle.emath.specs.declared.Rect.{Rect}
use Rattle.layers.specs.declared.LayerId.{LayerId}
use Rattle.layers.specs.Layers.{layer_refusal}
use Rattle.tables.specs.Tables.{written_on}
use Rattle.widget_rect.specs.declared.WidgetRect.{WidgetRect}
use Rattle.widget_rows.specs.Rows.{Table, table_in, list_of}
use Rattle.widget_table.specs.Table.{new_table, insert_of, refusal_of, clear_of}
use Rattle.widget_queries.specs.Queries.{focusable_ids}
use Rattle.widget_rects.specs.declared.WidgetRects.{WidgetRects}
use Rattle.widget_rects.specs.declared.Listing.{Listing}
use Rattle.widget_rects.specs.declared.Ids.{Ids}

-- ---- the record and its table
abbrev pub table_of : WidgetRects → Table
table_of w = table_in w.count w.cells w.ids w.words w.rects

abbrev pub rects_of : Table → WidgetRects
rects_of t = record { count = t.count; cells = t.cells; ids = t.rows.ids; words = t.rows.words; rects = t.rows.rects }

-- ---- `default`, `insert`, `clear`
unfoldable pub new_rects : WidgetRects
new_rects = rects_of (new_table (2 * widgets) widgets)

-- what an insert comes to: by what number it is refused, 0 for none, and the record after it
pub record Inserted : Type 0 where
  pub refusal : ℕ
  pub widgets : WidgetRects

unfoldable pub inserted_of : WidgetRects → LayerId → WidgetRect → Bool → Inserted
inserted_of w layer new move-to-top = record { refusal = refusal_of (table_of w) layer new; widgets = rects_of (insert_of (table_of w) layer new move-to-top) }

unfoldable pub cleared_rects : WidgetRects → WidgetRects
cleared_rects w = rects_of (clear_of (table_of w))

-- ---- `get_layer`, `focusable_widgets_in_layer` (lines 153 to 165), from the layer's list
abbrev pub blank_widget : WidgetRect
blank_widget =
    let zeros : Rect = record { min = record { x = of_bits binary32 0; y = of_bits binary32 0 }; max = record { x = of_bits binary32 0; y = of_bits binary32 0 } } in
    record { id = 0; parent_id = 0; layer_id = record { order = 0; id = 0 }; rect = zeros; interact_rect = zeros; sense = 0; enabled = false; visible = false }

abbrev pub listing : List WidgetRect → Listing
listing list = record { count = length list; widgets = written_on (replicate widgets blank_widget) list }

abbrev pub ids_of : List ℕ → Ids
ids_of list = record { count = length list; ids = written_on (replicate widgets 0) list }

-- nothing is listed where the layer is refused
abbrev pub layer_of : LayerId → List WidgetRect → Result Listing Refusal
layer_of layer list = answer (layer_refusal layer) (listing list)

abbrev pub focusable_of : LayerId → List WidgetRect → Result Ids Refusal
focusable_of layer list = answer (layer_refusal layer) (ids_of (focusable_ids list))

unfoldable pub list_answer : Table → LayerId → Result Listing Refusal
list_answer t layer = layer_of layer (list_of t layer)

unfoldable pub ids_answer : Table → LayerId → Result Ids Refusal
ids_answer t layer = focusable_of layer (list_of t layer)
