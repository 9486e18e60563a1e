-- `grid::pivot_pos` meets its contract. Assumes nothing.
use Rattle.grid.proofs.pivot_pos.Goals as goal

pub returns : goal.returns
returns c = rw (c.both.ensures, c.pivot-2.ensures, c.pivot.ensures)
