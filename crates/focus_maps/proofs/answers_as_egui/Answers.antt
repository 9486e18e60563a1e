-- `focus_maps::answers_as_egui` meets its contract. Assumes nothing.
use mathlib.Core.Path.{refl}
use Rattle.focus_maps.proofs.Means.{focused_answer, last_answer}
use Rattle.focus_maps.proofs.answers_as_egui.Goals as goal

pub returns : goal.returns
returns c = (λ f. focused_answer f.nav, λ f id. last_answer f.nav id, λ f. refl)
