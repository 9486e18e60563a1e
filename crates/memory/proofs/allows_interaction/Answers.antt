-- `memory::allows_interaction` meets its contract. Assumes nothing.
use Rattle.memory.proofs.Parts.{own}
use Rattle.memory_rules.specs.Memory.{allows_answer}
use Rattle.memory.proofs.allows_interaction.Goals as goal

pub returns : goal.returns
returns c =
    own c.args.m (λ m. allows_answer m c.args.layer) _ c.fields_of.ensures _ (c.allows_interaction.ensures _ _)
