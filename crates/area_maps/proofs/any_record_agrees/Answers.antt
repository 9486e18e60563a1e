-- `area_maps::any_record_agrees` meets its contract. Assumes nothing.
use Rattle.area_maps.proofs.Holds.{agrees}
use Rattle.area_maps.proofs.any_record_agrees.Goals as goal

pub returns : goal.returns
returns c limit reset start empties fits = agrees limit reset empties start fits
