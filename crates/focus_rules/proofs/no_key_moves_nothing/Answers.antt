-- `focus_rules::no_key_moves_nothing` meets its contract. Assumes nothing.
use Rattle.focus_rules.proofs.Page.{no_key}
use Rattle.focus_rules.proofs.no_key_moves_nothing.Goals as goal

pub returns : goal.returns
returns c = no_key
