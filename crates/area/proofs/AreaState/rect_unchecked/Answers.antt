-- `area::AreaState::rect_unchecked` meets its contract. Assumes nothing.
use Rattle.area.proofs.Steps.{placed}
use Rattle.area.proofs.AreaState.rect_unchecked.Goals as goal

pub returns : goal.returns
returns c = search placed
