-- The invariant: the layers of the rows passed are written.
use Rattle.std.proofs.Common.{◌≡◌, ◌*◌, ◌-◌, ◌≤◌, length, drop, replicate}
use Rattle.refusal.specs.Limits.{layers}
use Rattle.tables.proofs.Written.{Written}
use Rattle.layer_rows.specs.Rows.{lent}
use Rattle.areas.specs.Areas.{no_layer}
use Rattle.areas.proofs.Listings.{layers_in}
use Rattle.areas.proofs.Areas.list.Given as goal

abbrev pub invariant-loop-next : goal.invariant-loop-next
invariant-loop-next l =
    let list = layers_in l.listing in
    (length l.stack.words.now ≡ 8 * layers) × (l.count ≤ l.from) × Written (replicate layers no_layer) (list (lent l.stack)) (list (drop l.from (lent l.stack))) l.layers l.count

abbrev pub decreases-loop-next : goal.decreases-loop-next
decreases-loop-next l = layers - l.from
