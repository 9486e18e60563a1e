-- `ring::rounds_join` meets its contract. Assumes nothing.
use Rattle.ring.proofs.Joined.{joined}
use Rattle.ring.proofs.rounds_join.Goals as goal

pub returns : goal.returns
returns c = joined
