use mathlib.Core.Path.{refl}
use Rattle.refusal.proofs.Laws.{none_left, none_right}
use Rattle.refusal.proofs.both.Goals as goal

pub returns-in-Err-Err : goal.returns-in-Err-Err
returns-in-Err-Err c = rw (c.in-Err-Err.is-0, c.in-Err-Err.is-1) c.lower.ensures

pub returns-in-Err-Ok : goal.returns-in-Err-Ok
returns-in-Err-Ok c = rw (c.in-Err-Ok.is-0, c.in-Err-Ok.is-1) (none_right _ _ refl)

pub returns-in-Ok-default : goal.returns-in-Ok-default
returns-in-Ok-default c = rw c.in-Ok-default.is-0 (none_left _ _ refl)
