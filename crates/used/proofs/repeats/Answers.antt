use native.Mathlib.Omega.{arith}
use Rattle.used.proofs.Twice.{unfound_new, found_twice, unset_new, shown_more, shown_once}
use Rattle.used.proofs.repeats.Goals as goal
use Rattle.used.proofs.repeats.Goals.{else-joined-cells-via-then-joined-cells+else-contains, else-joined-cells-via-else-joined-cells}

pub returns-then-contains : goal.returns-then-contains
returns-then-contains c = found_twice c.args.ids.now c.loop-i.i _ c.contains.ensures.cases (omega arith) c.if-contains.true

pub loop-i-preserved : goal.loop-i-preserved
loop-i-preserved c =
    shown_more c.args.ids.now c.loop-i.i _ c.loop-i.invariant
    (elim c.else-joined-cells.branch [
      | else-joined-cells-via-then-joined-cells+else-contains w ↦ unfound_new c.args.ids.now c.loop-i.i _ w.contains.ensures.cases (omega arith) w.if-contains.false
      | else-joined-cells-via-else-joined-cells w ↦ unset_new c.args.ids.now c.loop-i.i _ c.loop-i.invariant w.if-joined-cells.false
    ])

pub returns : goal.returns
returns c = shown_once c.args.ids.now c.loop-i.i _ c.loop-i.invariant (omega arith)
