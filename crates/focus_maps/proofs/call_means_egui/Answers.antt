-- `focus_maps::call_means_egui` meets its contract. Assumes nothing.
use Rattle.focus_maps.proofs.Holds.{step}
use Rattle.focus_maps.proofs.call_means_egui.Goals as goal

pub returns : goal.returns
returns c f call = step f call
