use Rattle.focus.proofs.Stays.{interest_left}
use Rattle.focus.proofs.interest.Goals as goal

pub returns-in_err-r-clause-focus : goal.returns-in_err-r-clause-focus
returns-in_err-r-clause-focus c = interest_left c.args.f.now _ _ c.in_err-r.was _ _ _ c.interested_in_focus.ensures.refusal c.interested_in_focus.ensures.cache
