use Rattle.confirm_box.proofs.Opens.{opened_stays}
use Rattle.confirm_box.proofs.opened_box_keeps_out.Goals as goal

pub returns : goal.returns
returns c = λ m b p calls o u f. opened_stays m b o p u f calls
