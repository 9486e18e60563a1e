use native.Mathlib.Omega.{arith}
use Rattle.refusal.proofs.Laws.{first_lower, second_lower}
use Rattle.refusal.proofs.lower.Goals as goal

pub returns-then-from : goal.returns-then-from
returns-then-from c = second_lower _ _ (omega arith)

pub returns-else-from : goal.returns-else-from
returns-else-from c = first_lower _ _ (omega arith)
