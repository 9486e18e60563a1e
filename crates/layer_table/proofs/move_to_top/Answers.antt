use Rattle.std.proofs.Common.{rules}
use Rattle.layer_table.specs.Layers.{raised_row, to_top}
use Rattle.layer_table.proofs.Changes.{top_fits}
use Rattle.layer_table.proofs.move_to_top.Goals as goal

pub mark_at-requires-clause-room : goal.mark_at-requires-clause-room
mark_at-requires-clause-room c = rw c.in_ok-k.ensures.place (top_fits _ _ _ c.in_ok-k.ensures.refusal)

pub returns-clause-count : goal.returns-clause-count
unfolding to_top
returns-clause-count c = (c.mark_at.ensures raised_row (λ r s made. search rules)).0

pub returns-clause-rows : goal.returns-clause-rows
unfolding to_top
returns-clause-rows c = rw (← c.in_ok-k.ensures.refusal) (c.mark_at.ensures raised_row (λ r s made. search rules)).1
