-- `memory::begin_pass` meets its contract. Assumes nothing.
use mathlib.Core.Path.{◌≡◌, ap, ◌∙◌}
use Rattle.std.proofs.lemmas.Result.{err_from_is_err_and}
use Rattle.refusal.specs.declared.Refusal.{Refusal}
use Rattle.refusal.specs.Refusal.{number_of}
use Rattle.memory_rules.specs.State.{done}
use Rattle.memory.proofs.Counted.{events_told}
use Rattle.memory.proofs.begin_pass.Goals as goal

pub returns-in_err-events : goal.returns-in_err-events
returns-in_err-events c =
    let e = err_from_is_err_and {Q = λ (e : Refusal). e ≡ c.in_err-events.field-0.0} c.from_residual.result c.from_residual.ensures.1 in
    ap (done c.args.m) e.1 ∙ events_told c.args.m c.args.e e.0 (ap number_of e.2 ∙ c.in_err-events.ensures.refusal)
