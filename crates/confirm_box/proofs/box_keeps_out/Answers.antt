use Rattle.confirm_box.proofs.Under.{box_kept}
use Rattle.confirm_box.proofs.box_keeps_out.Goals as goal

pub returns : goal.returns
returns c = box_kept
