-- `layers::one_layer` meets its contract. Assumes nothing.
use Rattle.layers.proofs.Equal.{equal, one}
use Rattle.layers.proofs.one_layer.Goals as goal

pub returns : goal.returns
returns c = λ a b. (equal a b, one a b)
