use Rattle.confirm_box.proofs.Hits.{hit_not_under}
use Rattle.confirm_box.proofs.hit_is_not_below.Goals as goal

pub returns : goal.returns
returns c = hit_not_under
