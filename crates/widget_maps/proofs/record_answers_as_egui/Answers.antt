-- `widget_maps::record_answers_as_egui`: the record holds the table, and the table holds the maps. Assumes nothing.
use mathlib.Core.Path.{◌≡◌, refl}
use native.Mathlib.Omega.{arith}
use Rattle.refusal.specs.Limits.{widgets}
use Rattle.widget_rows.specs.Rows.{room_of}
use Rattle.widget_table.specs.Table.{new_table}
use Rattle.widget_queries.specs.Queries.{order_answer, widget_answer, contains_answer}
use Rattle.widget_rects.specs.WidgetRects.{table_of, new_rects, inserted_of, list_answer, ids_answer}
use Rattle.widget_maps.proofs.Holds.{theorem}
use Rattle.widget_maps.proofs.Record.{its_table}
use Rattle.widget_maps.proofs.record_answers_as_egui.Goals as goal

room : room_of (table_of new_rects).rows ≡ widgets
unfolding new_rects new_table room_of
room = refl

pub returns : goal.returns
unfolding order_answer widget_answer contains_answer list_answer ids_answer inserted_of new_rects new_table
returns c calls =
    let e = its_table calls in
    let a = rw room at (theorem (table_of new_rects) refl (rw room (omega arith)) calls) in
    (λ id. rw (e, a.0 id), λ id. rw (e, a.0 id), λ id. rw (e, a.0 id), λ layer. rw (e, a.1 layer), λ layer. rw (e, a.1 layer), λ layer widget move-to-top. rw (e, a.2 layer widget))
