-- `requests::coordinates_are_exact`: the law is proved in Bounds.antt. Assumes nothing.
use Rattle.requests.proofs.Bounds.{exact}
use Rattle.requests.proofs.coordinates_are_exact.Goals as goal

pub returns : goal.returns
returns c = exact
