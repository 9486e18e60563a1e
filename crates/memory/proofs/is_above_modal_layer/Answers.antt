-- `memory::is_above_modal_layer` meets its contract. Assumes nothing.
use Rattle.memory.proofs.Parts.{own}
use Rattle.memory_rules.specs.Memory.{above_answer}
use Rattle.memory.proofs.is_above_modal_layer.Goals as goal

pub returns : goal.returns
returns c =
    own c.args.m (λ m. above_answer m c.args.layer) _ c.fields_of.ensures _ (c.is_above_modal_layer.ensures _ _)
