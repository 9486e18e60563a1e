-- `grid::taken_sides`: the laws are proved in Accepted.antt. Assumes nothing.
use Rattle.grid.proofs.Accepted.{side_count, count_side}
use Rattle.grid.proofs.taken_sides.Goals as goal

pub returns : goal.returns
returns c = (side_count, count_side)
