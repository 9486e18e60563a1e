-- `grid::taken_steps`: the laws are proved in Accepted.antt. Assumes nothing.
use Rattle.grid.proofs.Accepted.{within_count, count_within}
use Rattle.grid.proofs.taken_steps.Goals as goal

pub returns : goal.returns
returns c = (within_count, count_within)
