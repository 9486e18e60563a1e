-- `memory::lost_focus` meets its contract. Assumes nothing.
use Rattle.memory.proofs.Parts.{answers}
use Rattle.memory_rules.specs.Memory.{of_id, lost_focus}
use Rattle.memory.proofs.lost_focus.Goals as goal

pub returns : goal.returns
returns c =
    search (answers c.args.m (λ m. of_id lost_focus m c.args.id))
