-- `search::nothing` meets its contract. Assumes nothing.
use lib.Ieee.{of_bits}
use Rattle.search.proofs.nothing.Goals as goal

pub returns : goal.returns
unfolding of_bits
returns c = rw c.everything.ensures
