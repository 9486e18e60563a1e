-- `layer_table::some_child` meets its contract. The invariant: none of the rows passed is one. Assumes nothing.
use Rattle.layer_rows.specs.Rows.{lent}
use Rattle.layer_queries.specs.Queries.{is_child_row}
use Rattle.layer_table.proofs.Families.{Passed}
use Rattle.layer_table.proofs.some_child.Given as goal

abbrev pub invariant-loop-k : goal.invariant-loop-k
invariant-loop-k l = Passed (is_child_row l.layer) (lent l.rows) l.k
