-- The invariant: the rows passed are of other layers.
use Rattle.layer_rows.specs.Rows.{lent}
use Rattle.layer_rows.proofs.Rows.{Passed}
use Rattle.layer_rows.proofs.LayerRows.spot.Given as goal

abbrev pub invariant-loop-k : goal.invariant-loop-k
invariant-loop-k l = Passed (lent l.self) l.layer l.k
