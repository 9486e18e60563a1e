use native.Mathlib.Omega.{arith}
use Rattle.layer_table.proofs.Families.{none_found, one_found, one_passed}
use Rattle.layer_table.proofs.some_child.Goals as goal

pub returns-then-is_child : goal.returns-then-is_child
returns-then-is_child c = one_found _ _ _ _ _ c.held-k-end.ensures c.loop-k.invariant (omega arith) _ _ c.row_at.ensures _ c.is_child.ensures c.if-is_child.true

pub loop-k-preserved : goal.loop-k-preserved
loop-k-preserved c = one_passed _ _ _ _ _ c.held-k-end.ensures c.loop-k.invariant (omega arith) _ _ c.row_at.ensures _ c.is_child.ensures c.if-is_child.false

pub returns : goal.returns
returns c = none_found _ _ _ _ _ c.held-k-end.ensures c.loop-k.invariant (omega arith)
