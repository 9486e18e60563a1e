use Rattle.confirm_box.proofs.Kept.{ignored_stays}
use Rattle.confirm_box.proofs.ignored_is_not_focused.Goals as goal

pub returns : goal.returns
returns c = ignored_stays
