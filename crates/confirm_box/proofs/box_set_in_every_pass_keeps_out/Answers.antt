use Rattle.confirm_box.proofs.Under.{short_kept}
use Rattle.confirm_box.proofs.box_set_in_every_pass_keeps_out.Goals as goal

pub returns : goal.returns
returns c = short_kept
