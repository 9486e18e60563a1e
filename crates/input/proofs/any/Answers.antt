-- `input::any` meets its contract. Assumes nothing.
use Rattle.input.proofs.Bits.{any_bits}
use Rattle.input.proofs.any.Goals as goal

pub returns : goal.returns
returns c = any_bits _
