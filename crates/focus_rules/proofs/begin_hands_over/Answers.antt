-- `focus_rules::begin_hands_over` meets its contract. Assumes nothing.
use Rattle.focus_rules.proofs.Page.{handed_back}
use Rattle.focus_rules.proofs.begin_hands_over.Goals as goal

pub returns : goal.returns
returns c = handed_back
