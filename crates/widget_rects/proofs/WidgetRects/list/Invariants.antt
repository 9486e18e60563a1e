-- The invariant: the list of the rows passed is written.
use Rattle.std.proofs.Common.{◌≡◌, ◌-◌, ◌≤◌, length, replicate}
use Rattle.refusal.specs.Limits.{widgets}
use Rattle.widget_rows.specs.Rows.{lent}
use Rattle.widget_rects.specs.WidgetRects.{blank_widget}
use Rattle.widget_queries.proofs.Rest.{rest_of}
use Rattle.tables.proofs.Written.{Written}
use Rattle.widget_rects.proofs.WidgetRects.list.Given as goal

abbrev pub invariant-loop-next : goal.invariant-loop-next
invariant-loop-next l =
    let list = rest_of (lent l.table) l.layer in
    (length (lent l.table).rows.ids ≡ widgets) × (l.count ≤ l.from) × Written (replicate widgets blank_widget) (list 0) (list l.from) l.widgets l.count

abbrev pub decreases-loop-next : goal.decreases-loop-next
decreases-loop-next l = widgets - l.from
