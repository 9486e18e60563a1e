-- `focus_maps::cache_is_a_map` meets its contract. Assumes nothing.
use Rattle.focus_maps.proofs.Distinct.{distinct}
use Rattle.focus_maps.proofs.cache_is_a_map.Goals as goal

pub returns : goal.returns
returns c = distinct
