-- `memory::had_focus_last_frame` meets its contract. Assumes nothing.
use Rattle.memory.proofs.Parts.{answers}
use Rattle.memory_rules.specs.Memory.{of_id, had_focus}
use Rattle.memory.proofs.had_focus_last_frame.Goals as goal

pub returns : goal.returns
returns c =
    search (answers c.args.m (λ m. of_id had_focus m c.args.id))
