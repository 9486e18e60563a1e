-- `search::nothing_found`: the law of `Steps.antt`. Assumes nothing.
use Rattle.search.proofs.Steps.{found_none}
use Rattle.search.proofs.nothing_found.Goals as goal

pub returns : goal.returns
returns c table focused current direction = found_none focused current direction table
