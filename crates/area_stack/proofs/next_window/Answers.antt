use native.Mathlib.Omega.{arith}
use Rattle.area_stack.proofs.WindowRows.{none_found, one_found, one_passed}
use Rattle.area_stack.proofs.next_window.Goals as goal

pub returns-in-Some : goal.returns-in-Some
returns-in-Some c = one_found _ _ _ _ _ _ _ c.loop-k.invariant c.held-k-end.ensures (omega arith) _ _ c.row_at-r.ensures _ c.window_state.ensures _ c.in-Some.is

pub loop-k-preserved : goal.loop-k-preserved
loop-k-preserved c = one_passed _ _ _ _ _ _ _ c.loop-k.invariant c.held-k-end.ensures (omega arith) _ _ c.row_at-r.ensures _ c.window_state.ensures c.in_default.is

pub returns : goal.returns
returns c = none_found _ _ _ _ _ _ _ c.loop-k.invariant c.held-k-end.ensures (omega arith)
