-- `grid::pos` meets its contract. Assumes nothing.
use Rattle.grid.proofs.pos.Goals as goal

pub returns : goal.returns
returns c = rw (c.both.ensures, c.corner-2.ensures, c.corner.ensures)
