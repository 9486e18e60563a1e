-- `memory::top_modal_layer` meets its contract. Assumes nothing.
use Rattle.memory.proofs.Parts.{answers}
use Rattle.focus_rules.specs.Rules.{layer_or_nothing}
use Rattle.memory_rules.specs.State.{nav_of}
use Rattle.memory.proofs.top_modal_layer.Goals as goal

pub returns : goal.returns
returns c =
    search (answers c.args.m (λ m. layer_or_nothing (nav_of m).top_modal_layer))
