use native.Mathlib.Omega.{arith}
use Rattle.layer_queries.proofs.Tops.{all_left, none_left, last_found, less_left}
use Rattle.area_stack.specs.Stack.{layer_id_at}
use Rattle.area_stack.proofs.layer_id_at.Goals as goal

pub loop-k-init : goal.loop-k-init
loop-k-init c = search all_left

pub returns-then-hit_row : goal.returns-then-hit_row
unfolding layer_id_at
returns-then-hit_row c = last_found _ _ _ _ c.loop-k.invariant (omega arith) _ _ c.row_at-r.ensures _ c.hit_row.ensures c.if-hit_row.true

pub loop-k-preserved : goal.loop-k-preserved
loop-k-preserved c = less_left _ _ _ _ c.loop-k.invariant (omega arith) _ _ c.row_at-r.ensures _ c.hit_row.ensures c.if-hit_row.false

pub returns : goal.returns
unfolding layer_id_at
returns c = none_left _ _ _ _ c.loop-k.invariant (omega arith)
