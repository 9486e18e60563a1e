-- `focus_rules::shift_tab_moves_back` meets its contract. Assumes nothing.
use Rattle.focus_rules.proofs.Page.{shift_tab_goes_back}
use Rattle.focus_rules.proofs.shift_tab_moves_back.Goals as goal

pub returns : goal.returns
returns c = shift_tab_goes_back
