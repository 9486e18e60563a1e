-- `emath::choice_on_grid`: the laws are proved in Choice.antt. Assumes nothing.
use Rattle.emath.proofs.Choice.{max_count, min_count}
use Rattle.emath.proofs.choice_on_grid.Goals as goal

pub returns : goal.returns
returns c = λ n h x y a b p q. (max_count n h x y a b p q, min_count n h x y a b p q)
