use Rattle.confirm_box.proofs.Opens.{opens}
use Rattle.confirm_box.proofs.opening_keeps_out.Goals as goal

pub returns : goal.returns
returns c = opens
