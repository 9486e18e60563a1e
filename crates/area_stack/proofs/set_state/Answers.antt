use mathlib.Core.Path.{ap}
use native.Mathlib.Omega.{arith}
use Rattle.std.proofs.lemmas.Grind.{common_steps}
use Rattle.refusal.specs.Refusal.{number_in}
use Rattle.area_stack.specs.Stack.{tables_in}
use Rattle.area_stack.proofs.States.{number_is, left, slot_fits, accepted}
use Rattle.area_stack.proofs.set_state.Goals as goal

pub returns-in_err-both-clause-refusal : goal.returns-in_err-both-clause-refusal
returns-in_err-both-clause-refusal c =
    let e = number_is (tables_in c.args.count c.args.states c.args.rows.now c.args.ids.now c.args.codes.now c.args.floats.now) c.args.layer c.args.state _ _ _ c.spot-k.ensures.place c.row_at-r.ensures c.spot-a.ensures _ _ _ _ _ _ _ _ _ c.room.ensures c.check_room.ensures c.room-2.ensures c.check_room-2.ensures c.both-room.ensures c.check.ensures c.check-2.ensures c.both.ensures c.both-2.ensures in
    let d = rw c.in_err-both.was at e in
    grind (arith, common_steps)

pub returns-in_err-both-clause-tables : goal.returns-in_err-both-clause-tables
returns-in_err-both-clause-tables c =
    left _ _ _ _ _ _ c.spot-k.ensures.place c.row_at-r.ensures c.spot-a.ensures _ _ _ _ _ _ _ _ _ c.room.ensures c.check_room.ensures c.room-2.ensures c.check_room-2.ensures c.both-room.ensures c.check.ensures c.check-2.ensures c.both.ensures c.both-2.ensures _ (ap number_in c.in_err-both.was)

pub overflow_add-a : goal.overflow_add-a
overflow_add-a c =
    let h = slot_fits (tables_in c.args.count c.args.states c.args.rows.now c.args.ids.now c.args.codes.now c.args.floats.now) c.args.layer c.args.state _ _ _ c.spot-k.ensures.place c.row_at-r.ensures c.spot-a.ensures _ _ _ _ _ _ _ _ _ c.room.ensures c.check_room.ensures c.room-2.ensures c.check_room-2.ensures c.both-room.ensures c.check.ensures c.check-2.ensures c.both.ensures c.both-2.ensures (ap number_in c.in_ok-both.was) in
    omega (arith, h, c.room-2)

pub returns-clause-refusal : goal.returns-clause-refusal
returns-clause-refusal c =
    rw c.in_ok-both.was at (number_is _ _ _ _ _ _ c.spot-k.ensures.place c.row_at-r.ensures c.spot-a.ensures _ _ _ _ _ _ _ _ _ c.room.ensures c.check_room.ensures c.room-2.ensures c.check_room-2.ensures c.both-room.ensures c.check.ensures c.check-2.ensures c.both.ensures c.both-2.ensures)

pub returns-clause-counts : goal.returns-clause-counts
returns-clause-counts c =
    (accepted _ _ _ _ _ _ c.spot-k.ensures.place c.row_at-r.ensures c.spot-a.ensures _ _ _ _ _ _ _ _ _ c.room.ensures c.check_room.ensures c.room-2.ensures c.check_room-2.ensures c.both-room.ensures c.check.ensures c.check-2.ensures c.both.ensures c.both-2.ensures (ap number_in c.in_ok-both.was) _ c.put.ensures _ c.shown.ensures _ c.put_row.ensures _ _ c.held.ensures c.max.ensures _ _ c.held-2.ensures c.max-2.ensures).0

pub returns-clause-tables : goal.returns-clause-tables
returns-clause-tables c =
    (accepted _ _ _ _ _ _ c.spot-k.ensures.place c.row_at-r.ensures c.spot-a.ensures _ _ _ _ _ _ _ _ _ c.room.ensures c.check_room.ensures c.room-2.ensures c.check_room-2.ensures c.both-room.ensures c.check.ensures c.check-2.ensures c.both.ensures c.both-2.ensures (ap number_in c.in_ok-both.was) _ c.put.ensures _ c.shown.ensures _ c.put_row.ensures _ _ c.held.ensures c.max.ensures _ _ c.held-2.ensures c.max-2.ensures).1
