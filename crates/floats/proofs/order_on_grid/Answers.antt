-- `floats::order_on_grid`: the laws are proved in Counts.antt. Assumes nothing.
use Rattle.floats.proofs.Counts.{lt_count, le_count}
use Rattle.floats.proofs.order_on_grid.Goals as goal

pub returns : goal.returns
returns c = λ n h x y a b p q. (lt_count n h x y a b p q, le_count n h x y a b p q)
