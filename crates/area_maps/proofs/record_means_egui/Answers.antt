-- `area_maps::record_means_egui` meets its contract. Assumes nothing.
use Rattle.area_maps.proofs.Holds.{new_agrees}
use Rattle.area_maps.proofs.record_means_egui.Goals as goal

pub returns : goal.returns
returns c calls = (new_agrees calls).means
