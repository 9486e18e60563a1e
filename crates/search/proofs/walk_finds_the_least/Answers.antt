-- `search::walk_finds_the_least`: the law of `EguiLeast.antt`. Assumes nothing.
use Rattle.search.proofs.EguiLeast.{finds_the_least}
use Rattle.search.proofs.walk_finds_the_least.Goals as goal

pub returns : goal.returns
returns c = finds_the_least
