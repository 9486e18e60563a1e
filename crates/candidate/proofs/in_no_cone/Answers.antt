-- The theorem `candidate::in_no_cone`. Assumes nothing.
use Rattle.candidate.proofs.Reach.{zero_outside, off_outside}
use Rattle.candidate.proofs.in_no_cone.Goals as goal

pub returns : goal.returns
returns c = (zero_outside, off_outside)
