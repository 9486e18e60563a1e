use native.Mathlib.Omega.{arith}
use Rattle.layers.specs.Layers.{is_layer}
use Rattle.layer_rows.proofs.Rows.{spot_next}
use Rattle.layer_rows.proofs.LayerRows.spot.Goals as goal

pub loop-k-preserved : goal.loop-k-preserved
unfolding is_layer
loop-k-preserved c = spot_next _ _ _ _ _ c.held-n.ensures c.loop-k.invariant (omega arith) _ c.read.ensures _ c.eq.ensures c.if-eq.false
