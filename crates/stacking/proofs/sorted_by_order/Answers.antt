-- `stacking::sorted_by_order` is stacked-rising of proofs/Rising.antt. Assumes nothing.
use Rattle.stacking.proofs.Rising.{stacked_rising}
use Rattle.stacking.proofs.sorted_by_order.Goals as goal

pub returns : goal.returns
returns c raised isChild order pairs = stacked_rising raised isChild order pairs
