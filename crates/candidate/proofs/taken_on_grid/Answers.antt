-- The theorem `candidate::taken_on_grid`. Assumes nothing.
use Rattle.candidate.proofs.Apart.{taken_apart}
use Rattle.candidate.proofs.taken_on_grid.Goals as goal

pub returns : goal.returns
returns c = taken_apart
