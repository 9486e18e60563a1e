use Rattle.confirm_box.proofs.Instance.{computed}
use Rattle.confirm_box.proofs.rule_is_needed.Goals as goal

pub returns : goal.returns
returns c = computed.3
