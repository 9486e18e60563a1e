-- The theorem `search::walk_in_tie_order`. Assumes nothing.
use Rattle.search.proofs.InOrder.{by_the_order}
use Rattle.search.proofs.walk_in_tie_order.Goals as goal

pub returns : goal.returns
returns c = by_the_order
