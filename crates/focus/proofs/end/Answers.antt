use Rattle.focus.proofs.Stays.{end_left, used_lent, many_used_left}
use Rattle.focus.proofs.end.Goals as goal

pub returns-in_err-used-clause-focus : goal.returns-in_err-used-clause-focus
returns-in_err-used-clause-focus c = many_used_left _ _ _ c.in_err-used.was c.args.u.now c.lent.ensures.refusal

pub returns-in_err-end-clause-focus : goal.returns-in_err-end-clause-focus
returns-in_err-end-clause-focus c = end_left c.args.f.now _ _ c.in_err-end.was _ _ c.args.u.now _ c.in_ok-used.ensures.entries (used_lent _ _ c.in_ok-used.was c.args.f.now c.args.u.now c.lent.ensures.refusal) c.end_pass.ensures.refusal c.end_pass.ensures.cache
