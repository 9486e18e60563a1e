-- `session::runner::end` meets its contract. Assumes nothing.
use Rattle.session.proofs.Calls.{used_lent, used_refused}
use Rattle.session.proofs.runner.end.Goals as goal

pub returns-in-Ok : goal.returns-in-Ok
returns-in-Ok c = λ xs h. used_lent c.args.m.now c.args.used.now xs h c.in-Ok.ensures.refusal _ c.in-Ok.ensures.entries _ _ _ c.end_pass.ensures c.done.ensures

pub returns-in-Err : goal.returns-in-Err
returns-in-Err c = λ xs h. used_refused c.args.m.now c.args.used.now xs h c.in-Err.r _ c.in-Err.ensures.refusal c.from.ensures
