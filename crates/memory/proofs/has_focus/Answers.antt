-- `memory::has_focus` meets its contract. Assumes nothing.
use Rattle.memory.proofs.Parts.{answers}
use Rattle.memory_rules.specs.Memory.{of_id, has_focus}
use Rattle.memory.proofs.has_focus.Goals as goal

pub returns : goal.returns
returns c =
    search (answers c.args.m (λ m. of_id has_focus m c.args.id))
