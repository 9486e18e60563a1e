-- `area::corners_on_grid`: the law is proved in Grid.antt. Assumes nothing.
use Rattle.area.proofs.Grid.{corners}
use Rattle.area.proofs.corners_on_grid.Goals as goal

pub returns : goal.returns
returns c = corners
