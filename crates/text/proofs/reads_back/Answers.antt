-- `text::reads_back` meets its contract. Assumes nothing.
use Rattle.text.proofs.Back.{back}
use Rattle.text.proofs.reads_back.Goals as goal

pub returns : goal.returns
returns c = back
