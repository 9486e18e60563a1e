-- `memory_maps::record_means_egui` meets its contract. Assumes nothing.
use Rattle.memory_maps.proofs.Holds.{new_agrees}
use Rattle.memory_maps.proofs.record_means_egui.Goals as goal

pub returns : goal.returns
returns c calls = (new_agrees calls).means
