-- `floats::sum_on_grid`: the law is proved in Counts.antt. Assumes nothing.
use Rattle.floats.proofs.Counts.{add_count}
use Rattle.floats.proofs.sum_on_grid.Goals as goal

pub returns : goal.returns
returns c = add_count
