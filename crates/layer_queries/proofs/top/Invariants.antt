-- `layer_queries::top` meets its contract. The invariant: above the rows that are left there is none. Assumes nothing.
use Rattle.layer_rows.specs.Rows.{lent}
use Rattle.layer_queries.specs.Queries.{is_top_row}
use Rattle.layer_queries.proofs.Tops.{Left}
use Rattle.layer_queries.proofs.top.Given as goal

abbrev pub invariant-loop-k : goal.invariant-loop-k
invariant-loop-k l = Left (is_top_row l.order) (lent l.rows) l.k
