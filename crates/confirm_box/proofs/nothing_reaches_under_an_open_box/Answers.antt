use Rattle.confirm_box.proofs.Opens.{ruled_stays, ruled_hits}
use Rattle.confirm_box.proofs.nothing_reaches_under_an_open_box.Goals as goal

pub returns : goal.returns
returns c = λ m b calls o h. (λ p u f. ruled_stays m b o p u f calls h, ruled_hits m b o calls h)
