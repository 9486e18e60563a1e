-- `focus_rules::tab_moves_on` meets its contract. Assumes nothing.
use Rattle.focus_rules.proofs.Page.{tab_goes_on, tab_ends}
use Rattle.focus_rules.proofs.tab_moves_on.Goals as goal

pub returns : goal.returns
returns c = (tab_goes_on, tab_ends)
