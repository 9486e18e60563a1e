-- `area::to_factor` meets its contract. Assumes nothing.
use Rattle.area.specs.Area.{to_factor}
use Rattle.area.proofs.Steps.{high}
use Rattle.area.proofs.to_factor.Goals as goal

pub returns-in-0 : goal.returns-in-0
unfolding to_factor
returns-in-0 c = rw c.in-0.is

pub returns-in-1 : goal.returns-in-1
unfolding to_factor
returns-in-1 c = rw c.in-1.is

pub returns-in_default : goal.returns-in_default
returns-in_default c = search high
