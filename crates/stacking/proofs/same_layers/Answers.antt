-- `stacking::same_layers` is stack-layers of proofs/Stack.antt. Assumes nothing.
use Rattle.stacking.proofs.Stack.{stack_layers}
use Rattle.stacking.proofs.same_layers.Goals as goal

pub returns : goal.returns
returns c raised isChild order distinct orders pairs = stack_layers raised isChild order orders pairs distinct
