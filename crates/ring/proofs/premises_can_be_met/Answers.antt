-- `ring::premises_can_be_met` meets its contract. Assumes nothing.
use Rattle.ring.proofs.Instance.{met}
use Rattle.ring.proofs.premises_can_be_met.Goals as goal

pub returns : goal.returns
returns c = met
