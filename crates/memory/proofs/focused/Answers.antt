-- `memory::focused` meets its contract. Assumes nothing.
use Rattle.memory.proofs.Parts.{answers}
use Rattle.focus_rules.specs.Rules.{id_or_nothing}
use Rattle.memory_rules.specs.State.{nav_of}
use Rattle.memory.proofs.focused.Goals as goal

pub returns : goal.returns
returns c =
    search (answers c.args.m (λ m. id_or_nothing (nav_of m).focused))
