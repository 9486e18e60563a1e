use mathlib.Core.Path.{ap, ◌∙◌}
use native.Mathlib.Omega.{arith}
use lib.ListN.{length, replicate}
use borrow.Author.Rules.{rules}
use Rattle.refusal.specs.Limits.{widgets}
use Rattle.widget_queries.proofs.Rest.{all_left, none_left, one_left}
use Rattle.widget_rows.specs.Rows.{Table, lent}
use Rattle.tables.proofs.Written.{none_written, write}
use Rattle.widget_rects.proofs.Written.{all_listed}
use Rattle.widget_rects.proofs.WidgetRects.list.Goals as goal

pub loop-next-init : goal.loop-next-init
loop-next-init c = (ap (λ (t : Table). length t.rows.ids) c.table-table.ensures ∙ search (rules, c.well_formed), omega arith, none_written _ _ _ (ap (replicate widgets) c.blank-widgets.ensures))

pub offset_bounds-widgets-count : goal.offset_bounds-widgets-count
offset_bounds-widgets-count c =
    let (l, h, e) = one_left (lent c.table-table.result) _ _ _ c.next_in_layer.ensures _ _ c.in-Some.is in
    omega arith

pub bounds-widgets-count : goal.bounds-widgets-count
bounds-widgets-count c =
    let (l, h, e) = one_left (lent c.table-table.result) _ _ _ c.next_in_layer.ensures _ _ c.in-Some.is in
    omega arith

pub overflow_add-count : goal.overflow_add-count
overflow_add-count c =
    let (l, h, e) = one_left (lent c.table-table.result) _ _ _ c.next_in_layer.ensures _ _ c.in-Some.is in
    omega arith

pub loop-next-smaller : goal.loop-next-smaller
loop-next-smaller c =
    let (l, h, e) = one_left (lent c.table-table.result) _ _ _ c.next_in_layer.ensures _ _ c.in-Some.is in
    omega arith

pub loop-next-preserved : goal.loop-next-preserved
loop-next-preserved c =
    let (l, h, e) = one_left (lent c.table-table.result) _ _ _ c.next_in_layer.ensures _ _ c.in-Some.is in
    (c.loop-next.invariant.0, omega arith, write _ _ _ _ _ c.loop-next.invariant.2 _ _ e)

pub returns : goal.returns
returns c =
    rw (← c.table-table.ensures, ← all_left) (all_listed _ _ _ _ c.loop-next.invariant.2 (none_left (lent c.table-table.result) _ _ _ c.next_in_layer.ensures c.in_default.is))
