use Rattle.std.proofs.Common.{rules}
use Rattle.layer_table.specs.Layers.{same, child_row}
use Rattle.layer_table.proofs.Changes.{parent_fits, child_fits, paired}
use Rattle.layer_table.proofs.set_sublayer.Goals as goal

pub mark-n-requires-clause-room : goal.mark-n-requires-clause-room
mark-n-requires-clause-room c = parent_fits _ _ _ _ (rw c.in_ok-check_sublayer.was at c.check_sublayer.ensures)

pub mark-requires-clause-room : goal.mark-requires-clause-room
mark-requires-clause-room c = child_fits _ _ _ _ (rw c.in_ok-check_sublayer.was at c.check_sublayer.ensures) _ _ (c.mark-n.ensures same (λ r s made. search rules))

pub returns-clause-count : goal.returns-clause-count
returns-clause-count c =
    (paired _ _ _ _ (rw c.in_ok-check_sublayer.was at c.check_sublayer.ensures) _ _ (c.mark-n.ensures same (λ r s made. search rules)) _ _ (c.mark.ensures (child_row c.args.parent.id) (λ r s made. search rules))).0

pub returns-clause-rows : goal.returns-clause-rows
returns-clause-rows c =
    (paired _ _ _ _ (rw c.in_ok-check_sublayer.was at c.check_sublayer.ensures) _ _ (c.mark-n.ensures same (λ r s made. search rules)) _ _ (c.mark.ensures (child_row c.args.parent.id) (λ r s made. search rules))).1
