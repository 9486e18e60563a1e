use Rattle.confirm_box.proofs.Modal.{under_stays}
use Rattle.confirm_box.proofs.turned_away_changes_nothing.Goals as goal

pub returns : goal.returns
returns c = under_stays
