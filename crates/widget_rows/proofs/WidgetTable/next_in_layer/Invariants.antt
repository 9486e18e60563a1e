-- The invariant: the first from the start is the first from k on.
use Rattle.std.proofs.Common.{◌≡◌, ◌-◌}
use Rattle.widget_rows.specs.Rows.{lent, held_of, listed_in}
use Rattle.widget_rows.proofs.WidgetTable.next_in_layer.Given as goal

abbrev pub invariant-loop-k : goal.invariant-loop-k
invariant-loop-k l =
    let t = lent l.self in
    listed_in t.rows l.layer (held_of t - l.from) l.from ≡ listed_in t.rows l.layer (held_of t - l.k) l.k
