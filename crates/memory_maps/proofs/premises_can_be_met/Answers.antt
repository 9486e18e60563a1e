-- `memory_maps::premises_can_be_met` meets its contract. Assumes nothing.
use Rattle.memory_maps.proofs.Blanks.{new_fits, new_blank, new_means}
use Rattle.memory_maps.proofs.premises_can_be_met.Goals as goal

pub returns : goal.returns
returns c = (new_fits, new_blank, new_means)
