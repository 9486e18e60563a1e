-- The loop of `session::run`: the answers so far and those to the lines that are left.
use Rattle.session.proofs.Running.{Running}
use Rattle.session.proofs.run.Given as goal

abbrev pub invariant-loop : goal.invariant-loop
invariant-loop l = Running l.input l.fn.out l.m l.rest l.out l.at l.counter
