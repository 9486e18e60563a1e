-- `candidate::judge` meets its contract: each return by a law of `Reach.antt`. Assumes nothing.
use mathlib.Core.Path.{◌∙◌}
use lib.Ieee.{nan_bits}
use Rattle.candidate.proofs.Reach.{not_ahead, aside, by_cone}
use Rattle.candidate.proofs.judge.Goals as goal

pub returns-then-ahead : goal.returns-then-ahead
returns-then-ahead c = not_ahead _ _ _ c.along-ahead.ensures c.if-ahead.true

pub returns-then-is_farther : goal.returns-then-is_farther
returns-then-is_farther c = aside _ _ _ c.along-ahead.ensures _ c.is_farther.ensures c.if-is_farther.true

pub returns : goal.returns
returns c =
    c.then_some.ensures ∙ by_cone _ _ _ c.along-ahead.ensures c.if-ahead.false _ c.length-distance.ensures

pub float_from_bits-then_some : goal.float_from_bits-then_some
unfolding nan_bits
float_from_bits-then_some c = tt
