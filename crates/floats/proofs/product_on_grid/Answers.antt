-- `floats::product_on_grid`: the law is proved in Scale.antt. Assumes nothing.
use Rattle.floats.proofs.Scale.{mul_count}
use Rattle.floats.proofs.product_on_grid.Goals as goal

pub returns : goal.returns
returns c = mul_count
