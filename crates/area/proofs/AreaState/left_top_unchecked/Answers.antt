-- `area::AreaState::left_top_unchecked` meets its contract. Assumes nothing.
use Rattle.area.proofs.Steps.{left_top_lem}
use Rattle.area.proofs.AreaState.left_top_unchecked.Goals as goal

pub returns : goal.returns
returns c = search left_top_lem
