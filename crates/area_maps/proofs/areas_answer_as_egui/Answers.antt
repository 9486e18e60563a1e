-- `area_maps::areas_answer_as_egui` meets its contract. Assumes nothing.
use Rattle.area_maps.proofs.Holds.{new_agrees}
use Rattle.area_maps.proofs.areas_answer_as_egui.Goals as goal

pub returns : goal.returns
returns c calls = (new_agrees calls).area_answers
