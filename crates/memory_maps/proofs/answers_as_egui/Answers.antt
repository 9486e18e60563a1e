-- `memory_maps::answers_as_egui` meets its contract. Assumes nothing.
use Rattle.memory_maps.proofs.Holds.{new_agrees}
use Rattle.memory_maps.proofs.answers_as_egui.Goals as goal

pub returns : goal.returns
returns c calls =
    let agrees = new_agrees calls in
    (agrees.focus_answers, agrees.layer_answers, agrees.areas_answers, agrees.popup_answers)
