-- `memory_maps::refuses_as_the_table_says` meets its contract. Assumes nothing.
use Rattle.memory_maps.proofs.Holds.{new_agrees}
use Rattle.memory_maps.proofs.refuses_as_the_table_says.Goals as goal

pub returns : goal.returns
returns c calls = (new_agrees calls).refusals
