-- `memory_maps::tables_are_maps` meets its contract. Assumes nothing.
use Rattle.memory_maps.proofs.Holds.{maps}
use Rattle.memory_maps.proofs.tables_are_maps.Goals as goal

pub returns : goal.returns
returns c = maps
