-- `float_bits::reads_back` meets its contract. Assumes nothing.
use Rattle.float_bits.proofs.Laws.{float_back, pattern_back}
use Rattle.float_bits.proofs.reads_back.Goals as goal

pub returns : goal.returns
returns c = (float_back, pattern_back)
