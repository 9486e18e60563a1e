-- `stacking::children_after_parent` is stack-children of proofs/Stack.antt. Assumes nothing.
use Rattle.stacking.proofs.Stack.{stack_children}
use Rattle.stacking.proofs.children_after_parent.Goals as goal

pub returns : goal.returns
returns c raised isChild order orders pairs = stack_children raised isChild order orders pairs
