-- `memory_maps::any_record_agrees` meets its contract. Assumes nothing.
use Rattle.memory_maps.proofs.Holds.{agrees}
use Rattle.memory_maps.proofs.any_record_agrees.Goals as goal

pub returns : goal.returns
returns c = agrees
