use Rattle.confirm_box.proofs.Kept.{list_kept}
use Rattle.confirm_box.proofs.list_keeps_out.Goals as goal

pub returns : goal.returns
returns c = list_kept
