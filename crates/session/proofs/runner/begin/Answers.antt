-- `session::runner::begin` meets its contract. Assumes nothing.
use Rattle.session.proofs.Calls.{events_lent, events_refused}
use Rattle.session.proofs.runner.begin.Goals as goal

pub returns-in-Ok : goal.returns-in-Ok
returns-in-Ok c = λ xs h. events_lent c.args.m.now c.args.events.now xs h c.in-Ok.ensures.refusal _ c.in-Ok.ensures.words _ _ _ c.begin_pass.ensures c.done.ensures

pub returns-in-Err : goal.returns-in-Err
returns-in-Err c = λ xs h. events_refused c.args.m.now c.args.events.now xs h c.in-Err.r _ c.in-Err.ensures.refusal c.from.ensures
