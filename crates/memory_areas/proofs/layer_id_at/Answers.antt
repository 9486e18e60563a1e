-- `memory_areas::layer_id_at` meets its contract. Assumes nothing.
use Rattle.memory.proofs.Parts.{own}
use Rattle.memory_rules.specs.Memory.{layer_id_at}
use Rattle.memory_areas.proofs.layer_id_at.Goals as goal

pub returns : goal.returns
returns c =
    own c.args.m (λ m. layer_id_at m c.args.pos) _ c.fields_of.ensures _ (c.layer_id_at.ensures _)
