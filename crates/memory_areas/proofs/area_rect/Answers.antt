-- `memory_areas::area_rect` meets its contract. Assumes nothing.
use Rattle.memory.proofs.Parts.{own}
use Rattle.memory_rules.specs.Memory.{area_rect}
use Rattle.memory_areas.proofs.area_rect.Goals as goal

pub returns : goal.returns
returns c =
    own c.args.m (λ m. area_rect m c.args.id) _ c.fields_of.ensures _ (c.area_rect.ensures _ _)
