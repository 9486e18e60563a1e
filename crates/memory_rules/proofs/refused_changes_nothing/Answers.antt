use Rattle.memory_rules.proofs.Refused.{refused}
use Rattle.memory_rules.proofs.refused_changes_nothing.Goals as goal

pub returns : goal.returns
returns c = refused
