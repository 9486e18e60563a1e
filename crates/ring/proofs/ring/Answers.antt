-- `ring::ring` meets its contract. Assumes nothing.
use Rattle.ring.proofs.Rounds.{ring}
use Rattle.ring.proofs.ring.Goals as goal

pub returns : goal.returns
returns c = ring
