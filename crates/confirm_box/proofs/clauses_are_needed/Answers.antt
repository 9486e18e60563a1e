use Rattle.confirm_box.proofs.Instance.{computed}
use Rattle.confirm_box.proofs.clauses_are_needed.Goals as goal

pub returns : goal.returns
returns c = computed.2
