-- `memory_mut::layer_id_at` meets its contract. Assumes nothing.
use Rattle.memory_rules.specs.Memory.{layer_id_at}
use Rattle.memory_mut.proofs.Parts.{answers}
use Rattle.memory_mut.proofs.layer_id_at.Goals as goal

pub returns : goal.returns
returns c = answers c.args.m.now (λ m. layer_id_at m c.args.pos) _ c.fields_of.ensures _ (c.layer_id_at.ensures _)
