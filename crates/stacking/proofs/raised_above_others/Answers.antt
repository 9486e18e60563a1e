-- `stacking::raised_above_others` is stack-tops of proofs/Stack.antt. Assumes nothing.
use Rattle.stacking.proofs.Stack.{stack_tops}
use Rattle.stacking.proofs.raised_above_others.Goals as goal

pub returns : goal.returns
returns c raised isChild order orders pairs = stack_tops raised isChild order orders pairs
