-- `area_maps::blank_record_fits` meets its contract. Assumes nothing.
use Rattle.area_maps.proofs.Blanks.{blank_fits, blank_means}
use Rattle.area_maps.proofs.blank_record_fits.Goals as goal

pub returns : goal.returns
returns c limit a room blank = (blank_fits a blank limit room, blank_means a blank)
