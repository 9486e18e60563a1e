-- The invariant: the ids of the focusable widgets of the rows passed are written.
use Rattle.std.proofs.Common.{◌-◌, ◌≤◌, length}
use Rattle.widget_rows.specs.Rows.{lent}
use Rattle.widget_queries.specs.Queries.{focusable_ids}
use Rattle.widget_queries.proofs.Rest.{rest_of}
use Rattle.tables.proofs.Written.{Written}
use Rattle.widget_queries.proofs.focusable_widgets.Given as goal

abbrev pub invariant-loop-next : goal.invariant-loop-next
invariant-loop-next l =
    let list = rest_of (lent l.table) l.layer in
    (l.n ≤ l.from) × Written l.initial.out (focusable_ids (list 0)) (focusable_ids (list l.from)) l.out l.n

abbrev pub decreases-loop-next : goal.decreases-loop-next
decreases-loop-next l = length (lent l.table).rows.ids - l.from
