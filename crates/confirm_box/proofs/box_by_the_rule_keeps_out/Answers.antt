use Rattle.confirm_box.proofs.Opens.{ruled_stays}
use Rattle.confirm_box.proofs.box_by_the_rule_keeps_out.Goals as goal

pub returns : goal.returns
returns c = λ m b calls o h p u f. ruled_stays m b o p u f calls h
