-- `floats::half_on_grid`: the law is proved in Scale.antt. Assumes nothing.
use Rattle.floats.proofs.Scale.{half_count}
use Rattle.floats.proofs.half_on_grid.Goals as goal

pub returns : goal.returns
returns c = half_count
