use Rattle.confirm_box.proofs.Opens.{spread_kept}
use Rattle.confirm_box.proofs.spread_rule_keeps_out.Goals as goal

pub returns : goal.returns
returns c = spread_kept
