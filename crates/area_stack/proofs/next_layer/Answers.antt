use native.Mathlib.Omega.{arith}
use Rattle.area_stack.proofs.Listings.{none_found, one_found, one_passed}
use Rattle.area_stack.proofs.next_layer.Goals as goal

pub returns-then-is_listed : goal.returns-then-is_listed
returns-then-is_listed c = one_found _ _ _ _ _ _ c.loop-k.invariant c.held-k-end.ensures (omega arith) _ _ c.row_at-r.ensures _ c.is_listed.ensures c.if-is_listed.true

pub loop-k-preserved : goal.loop-k-preserved
loop-k-preserved c = one_passed _ _ _ _ _ _ c.loop-k.invariant c.held-k-end.ensures (omega arith) _ _ c.row_at-r.ensures _ c.is_listed.ensures c.if-is_listed.false

pub returns : goal.returns
returns c = none_found _ _ _ _ _ _ c.loop-k.invariant c.held-k-end.ensures (omega arith)
