-- `grid::size` meets its contract. Assumes nothing.
use Rattle.grid.proofs.size.Goals as goal

pub returns : goal.returns
returns c = rw (c.both.ensures, c.side-2.ensures, c.side.ensures)
