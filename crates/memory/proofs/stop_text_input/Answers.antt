-- `memory::stop_text_input` meets its contract. Assumes nothing.
use Rattle.memory.proofs.Parts.{leaves}
use Rattle.memory_rules.specs.Memory.{text_stopped}
use Rattle.memory.proofs.stop_text_input.Goals as goal

pub returns : goal.returns
returns c = search (leaves c.args.m text_stopped)
