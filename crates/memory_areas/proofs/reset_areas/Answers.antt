-- `memory_areas::reset_areas` meets its contract. Assumes nothing.
use Rattle.memory.proofs.Parts.{leaves}
use Rattle.memory_rules.specs.Memory.{areas_reset}
use Rattle.memory_areas.proofs.reset_areas.Goals as goal

pub returns : goal.returns
returns c = search (leaves c.args.m areas_reset)
