-- `ring::ring_from` meets its contract. Assumes nothing.
use Rattle.ring.proofs.Rounds.{ring_from}
use Rattle.ring.proofs.ring_from.Goals as goal

pub returns : goal.returns
returns c = ring_from
