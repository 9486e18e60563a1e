-- `memory::popups::close_all_popups` meets its contract. Assumes nothing.
use Rattle.memory.proofs.Parts.{leaves}
use Rattle.memory_rules.specs.Memory.{all_closed}
use Rattle.memory.proofs.popups.close_all_popups.Goals as goal

pub returns : goal.returns
returns c = search (leaves c.args.m all_closed)
