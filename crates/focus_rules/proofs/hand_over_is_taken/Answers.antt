-- `focus_rules::hand_over_is_taken` meets its contract. Assumes nothing.
use Rattle.focus_rules.proofs.Page.{hand_over}
use Rattle.focus_rules.proofs.hand_over_is_taken.Goals as goal

pub returns : goal.returns
returns c = hand_over
