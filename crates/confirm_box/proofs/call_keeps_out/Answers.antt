use Rattle.confirm_box.proofs.Kept.{call_kept}
use Rattle.confirm_box.proofs.call_keeps_out.Goals as goal

pub returns : goal.returns
returns c = call_kept
