-- `memory::popups::popup_position` meets its contract. Assumes nothing.
use Rattle.memory.proofs.Parts.{answers}
use Rattle.memory_rules.specs.Memory.{position_answer}
use Rattle.memory.proofs.popups.popup_position.Goals as goal

pub returns : goal.returns
returns c =
    search (answers c.args.m (λ m. position_answer m c.args.id))
