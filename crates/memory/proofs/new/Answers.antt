-- `memory::new` meets its contract. Assumes nothing.
use Rattle.memory_rules.specs.State.{new_memory}
use Rattle.memory.proofs.new.Goals as goal

pub returns : goal.returns
unfolding new_memory
returns c = cc
