-- `floats::difference_on_grid`: the law is proved in Counts.antt. Assumes nothing.
use Rattle.floats.proofs.Counts.{sub_count}
use Rattle.floats.proofs.difference_on_grid.Goals as goal

pub returns : goal.returns
returns c = sub_count
