use Rattle.memory_rules.proofs.Numbers.{listed}
use Rattle.memory_rules.proofs.refusals_are_numbered.Goals as goal

pub returns : goal.returns
returns c = listed
