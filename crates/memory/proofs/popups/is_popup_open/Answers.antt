-- `memory::popups::is_popup_open` meets its contract. Assumes nothing.
use Rattle.memory.proofs.Parts.{answers}
use Rattle.refusal.specs.Refusal.{id_refusal, answer}
use Rattle.memory_rules.specs.Memory.{is_popup_open}
use Rattle.memory.proofs.popups.is_popup_open.Goals as goal

pub returns : goal.returns
returns c =
    search (answers c.args.m (λ m. answer (id_refusal c.args.id) (is_popup_open m c.args.id)))
