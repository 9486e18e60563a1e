-- `requests::past_is_refused`: the law is proved in Bounds.antt. Assumes nothing.
use Rattle.requests.proofs.Bounds.{past}
use Rattle.requests.proofs.past_is_refused.Goals as goal

pub returns : goal.returns
returns c = past
