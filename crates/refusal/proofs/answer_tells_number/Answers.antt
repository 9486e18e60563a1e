-- `refusal::answer_tells_number` meets its contract. Assumes nothing.
use Rattle.refusal.proofs.Laws.{told}
use Rattle.refusal.proofs.answer_tells_number.Goals as goal

pub returns : goal.returns
returns c c2 = told
