-- `area::AreaState::with_left_top` meets its contract. Assumes nothing.
use Rattle.area.proofs.Steps.{moved}
use Rattle.area.proofs.AreaState.with_left_top.Goals as goal

pub returns : goal.returns
returns c = search moved
