-- `stacking::any_order_of_parents` is moved-families of proofs/Moved.antt. Assumes nothing.
use Rattle.stacking.specs.Stacking.{sorted, stacked}
use Rattle.stacking.proofs.Moved.{moved_families}
use Rattle.stacking.proofs.Stack.{pairs_ranked}
use Rattle.stacking.proofs.any_order_of_parents.Goals as goal

pub returns : goal.returns
unfolding stacked
returns c raised isChild order parents orders pairs once all = moved_families isChild (sorted raised order) (pairs_ranked raised isChild order orders pairs) parents once all
