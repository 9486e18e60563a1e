-- What the record by value means in egui's terms. Definitions only.
use Rattle.std.specs.Prelude.{ℕ, Bool, not, List, map, eqb, take}
use Rattle.layers.specs.declared.LayerId.{LayerId}
use Rattle.layer_rows.specs.declared.Row.{Row}
use Rattle.layer_rows.specs.Rows.{row_of}
use Rattle.layer_queries.specs.Queries.{shown_last, is_child_row}
use Rattle.area_table.specs.Table.{Entry, entries_of}
use Rattle.areas.specs.declared.Areas.{Areas}
use Rattle.areas.specs.Areas.{stack_of, areas_in}
use Rattle.area_maps.specs.Egui.{place_in}
use Rattle.area_maps.specs.Egui as Egui

abbrev pub layers_in : List Row → List LayerId
layers_in rows = map (λ (r : Row). r.layer) rows

abbrev pub child_in : List Row → LayerId → LayerId → Bool
child_in rows p c = is_child_row p (row_of rows c)

abbrev pub meaning : ℕ → List Row → List Entry → Egui.Areas
meaning placed rows entries = record { areas = entries; last = λ l. shown_last (row_of rows l); current = λ l. not (eqb (row_of rows l).shown 0); order = layers_in rows; order_map = place_in (take placed (layers_in rows)); on_top = λ l. not (eqb (row_of rows l).raised 0); sublayers = child_in rows }

abbrev pub entries_in : Areas → List Entry
entries_in a = entries_of (areas_in a) a.states

abbrev pub meaning_of : Areas → Egui.Areas
meaning_of a = meaning a.placed (stack_of a) (entries_in a)
