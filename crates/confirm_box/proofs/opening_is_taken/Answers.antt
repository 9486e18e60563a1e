use Rattle.confirm_box.proofs.Places.{all_taken}
use Rattle.confirm_box.proofs.opening_is_taken.Goals as goal

pub returns : goal.returns
returns c = all_taken
