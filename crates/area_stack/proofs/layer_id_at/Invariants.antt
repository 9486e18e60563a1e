-- `area_stack::layer_id_at` meets its contract. The invariant: above the rows that are left there is none that the point hits. Assumes nothing.
use Rattle.area_table.specs.Table.{lent as areas_lent}
use Rattle.layer_rows.specs.Rows.{lent as rows_lent}
use Rattle.layer_queries.proofs.Tops.{Left}
use Rattle.area_stack.specs.Stack.{hit_row}
use Rattle.area_stack.proofs.layer_id_at.Given as goal

abbrev pub invariant-loop-k : goal.invariant-loop-k
invariant-loop-k l = Left (hit_row (areas_lent l.areas) l.areas.count l.pos) (rows_lent l.rows) l.k
