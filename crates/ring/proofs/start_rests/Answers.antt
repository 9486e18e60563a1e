-- `ring::start_rests` meets its contract. Assumes nothing.
use Rattle.ring.proofs.Rounds.{start_rests}
use Rattle.ring.proofs.start_rests.Goals as goal

pub returns : goal.returns
returns c = start_rests
