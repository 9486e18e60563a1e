use Rattle.confirm_box.proofs.Opens.{spread_stays, spread_hits}
use Rattle.confirm_box.proofs.spread_box_by_the_rule_keeps_out.Goals as goal

pub returns : goal.returns
returns c = λ m p s order calls o h a. (spread_stays m p s o order calls h a, spread_hits m p s o order calls h)
