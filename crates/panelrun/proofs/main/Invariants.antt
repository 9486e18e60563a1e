-- The loop of `panelrun::main`: what has come stands in the array.
use Rattle.std.proofs.Common.{◌≤◌}
use Rattle.panelrun.proofs.main.Given as goal

abbrev pub invariant-loop : goal.invariant-loop
invariant-loop l = l.len ≤ 65537
