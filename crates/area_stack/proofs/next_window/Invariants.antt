-- `area_stack::next_window` meets its contract. The invariant: the rows passed are no windows with a state. Assumes nothing.
use Rattle.area_table.specs.Table.{lent as areas_lent}
use Rattle.layer_rows.specs.Rows.{lent as rows_lent}
use Rattle.area_stack.proofs.WindowRows.{Passed}
use Rattle.area_stack.proofs.next_window.Given as goal

abbrev pub invariant-loop-k : goal.invariant-loop-k
invariant-loop-k l = Passed (areas_lent l.areas) l.areas.count (rows_lent l.rows) l.from l.k
