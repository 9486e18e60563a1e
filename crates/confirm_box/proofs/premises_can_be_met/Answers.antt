use Rattle.confirm_box.proofs.Instance.{computed}
use Rattle.confirm_box.proofs.premises_can_be_met.Goals as goal

pub returns : goal.returns
returns c = computed.0
