-- `area_stack::next_layer` meets its contract. The invariant: the rows passed are not listed. Assumes nothing.
use Rattle.layer_rows.specs.Rows.{lent as rows_lent}
use Rattle.area_stack.proofs.Listings.{Passed}
use Rattle.area_stack.proofs.next_layer.Given as goal

abbrev pub invariant-loop-k : goal.invariant-loop-k
invariant-loop-k l = Passed l.listing (rows_lent l.rows) l.from l.k
