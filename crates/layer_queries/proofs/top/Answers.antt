use native.Mathlib.Omega.{arith}
use Rattle.layer_queries.proofs.Tops.{all_left, last_found, less_left}
use Rattle.layer_queries.proofs.top.Goals as goal

pub loop-k-init : goal.loop-k-init
loop-k-init c = search all_left

pub returns-then-is_top : goal.returns-then-is_top
returns-then-is_top c = last_found _ _ _ _ c.loop-k.invariant (omega arith) _ _ c.row_at-r.ensures _ c.is_top.ensures c.if-is_top.true

pub loop-k-preserved : goal.loop-k-preserved
loop-k-preserved c = less_left _ _ _ _ c.loop-k.invariant (omega arith) _ _ c.row_at-r.ensures _ c.is_top.ensures c.if-is_top.false
