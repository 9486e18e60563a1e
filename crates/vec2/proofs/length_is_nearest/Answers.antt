-- `vec2::length_is_nearest`: the law is proved in Closest.antt. Assumes nothing.
use Rattle.vec2.proofs.Closest.{length_nearest}
use Rattle.vec2.proofs.length_is_nearest.Goals as goal

pub returns : goal.returns
returns c = length_nearest
