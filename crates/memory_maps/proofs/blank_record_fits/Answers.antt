-- `memory_maps::blank_record_fits` meets its contract. Assumes nothing.
use Rattle.memory_maps.proofs.Blanks.{blank_fits, no_areas, none_cached}
use Rattle.memory_maps.proofs.blank_record_fits.Goals as goal

pub returns : goal.returns
returns c layer_limit cache_limit m room blank =
    (blank_fits m blank layer_limit cache_limit room, no_areas m blank, none_cached m blank)
