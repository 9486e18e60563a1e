use Rattle.confirm_box.proofs.Places.{frees_places}
use Rattle.confirm_box.proofs.ignoring_frees_places.Goals as goal

pub returns : goal.returns
returns c = frees_places
