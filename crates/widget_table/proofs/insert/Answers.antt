use mathlib.Core.Path.{◌≡◌, sym, ap, ◌∙◌}
use native.Mathlib.Omega.{arith}
use Rattle.std.proofs.lemmas.Grind.{common_steps}
use Rattle.refusal.specs.Refusal.{number_in}
use Rattle.widget_rows.specs.Rows.{rows_in, record_at}
use Rattle.widget_table.specs.Table.{joined_at, refusal_of, insert_of}
use Rattle.widget_rows.proofs.Places.{found_fits, room_fits, record_found}
use Rattle.widget_table.proofs.Inserts.{row_below, room_left}
use Rattle.widget_table.proofs.insert.Goals as goal

pub update-row-requires : goal.update-row-requires
update-row-requires c = rw c.held-n.ensures (found_fits _ _ _ (sym c.find-found.ensures ∙ c.in-Some.is))

pub overflow_add-row : goal.overflow_add-row
overflow_add-row c =
    let (k, i, w, r) = found_fits _ _ _ (sym c.find-found.ensures ∙ c.in-Some.is) in
    let l = row_below _ _ _ _ _ c.args.move_to_top (rw (← c.held-n.ensures) at k) c.update-row.ensures.0 in
    omega arith

pub push-requires : goal.push-requires
push-requires c =
    let l = room_left _ _ _ _ _ _ c.check_room.ensures c.both.ensures (ap number_in c.in_ok-both.was) c.in-None.is in
    room_fits _ _ _ c.room-room.ensures l

pub overflow_add-n : goal.overflow_add-n
overflow_add-n c =
    let l = room_left _ _ _ _ _ _ c.check_room.ensures c.both.ensures (ap number_in c.in_ok-both.was) c.in-None.is in
    omega arith

pub overflow_add-result : goal.overflow_add-result
overflow_add-result c =
    let l = room_left _ _ _ _ _ _ c.check_room.ensures c.both.ensures (ap number_in c.in_ok-both.was) c.in-None.is in
    omega arith

pub returns-in-Some-clause-table : goal.returns-in-Some-clause-table
unfolding refusal_of insert_of joined_at
returns-in-Some-clause-table c =
    let e : c.record_or.result ≡ record_at (rows_in c.args.ids.now c.args.words.now c.args.rects.now) c.in-Some.k 0 = record_found _ _ _ _ _ (sym c.find-found.ensures ∙ c.in-Some.is) c.record_or.ensures in
    grind (arith, common_steps)
