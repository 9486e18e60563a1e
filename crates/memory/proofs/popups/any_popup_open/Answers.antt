-- `memory::popups::any_popup_open` meets its contract. Assumes nothing.
use Rattle.memory.proofs.Parts.{answers}
use Rattle.memory_rules.specs.Memory.{any_popup_open}
use Rattle.memory.proofs.popups.any_popup_open.Goals as goal

pub returns : goal.returns
returns c = search (answers c.args.m any_popup_open)
