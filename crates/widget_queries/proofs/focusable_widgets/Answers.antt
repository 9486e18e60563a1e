use mathlib.Core.Path.{refl}
use native.Mathlib.Omega.{arith}
use Rattle.widget_rows.specs.Rows.{lent}
use Rattle.widget_queries.proofs.Rest.{all_left, none_left, one_left}
use Rattle.tables.proofs.Written.{none_written}
use Rattle.widget_queries.proofs.Focusable.{write_focusable, all_focusable}
use Rattle.widget_queries.proofs.focusable_widgets.Goals as goal

pub loop-next-init : goal.loop-next-init
loop-next-init c = (omega arith, none_written _ _ _ refl)

pub put_focusable-n-requires : goal.put_focusable-n-requires
put_focusable-n-requires c =
    let (l, h, e) = one_left (lent c.args.table) _ _ _ c.next_in_layer.ensures _ _ c.in-Some.is in
    omega arith

pub loop-next-smaller : goal.loop-next-smaller
loop-next-smaller c =
    let (l, h, e) = one_left (lent c.args.table) _ _ _ c.next_in_layer.ensures _ _ c.in-Some.is in
    omega arith

pub loop-next-preserved : goal.loop-next-preserved
loop-next-preserved c =
    let (l, h, e) = one_left (lent c.args.table) _ _ _ c.next_in_layer.ensures _ _ c.in-Some.is in
    let (p, k) = write_focusable _ _ _ _ _ c.loop-next.invariant.1 _ _ _ _ e c.put_focusable-n.ensures in
    (omega arith, p)

pub returns : goal.returns
returns c =
    rw (← all_left) (all_focusable _ _ _ _ _ c.loop-next.invariant.1 (none_left (lent c.args.table) _ _ _ c.next_in_layer.ensures c.in_default.is))
