-- The record by value holds the table. Assumes nothing.
use mathlib.Core.Path.{◌≡◌, refl, ap}
use mathlib.Core.List.{[], ◌∷◌}
use Rattle.widget_rows.specs.Rows.{Table}
use Rattle.widget_table.specs.Table.{insert_of, clear_of}
use Rattle.widget_rects.specs.WidgetRects.{table_of, new_rects, inserted_of, cleared_rects}
use Rattle.widget_maps.specs.Calls.{Calls, Insert, Clear, table}
use Rattle.widget_maps.specs.Record.{record_after}

pub its_table : (calls : Calls) → table_of (record_after calls) ≡ table (table_of new_rects) calls
unfolding record_after table inserted_of cleared_rects
its_table [] = refl
its_table (Insert layer widget move-to-top ∷ before) = ap (λ (t : Table). insert_of t layer widget move-to-top) (its_table before)
its_table (Clear ∷ before) = ap clear_of (its_table before)
