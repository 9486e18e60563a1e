-- `area_maps::premises_can_be_met` meets its contract. Assumes nothing.
use Rattle.area_maps.proofs.Blanks.{new_fits, new_blank, by_value, in_place}
use Rattle.area_maps.proofs.premises_can_be_met.Goals as goal

pub returns : goal.returns
returns c = (new_fits, new_blank, by_value, in_place)
