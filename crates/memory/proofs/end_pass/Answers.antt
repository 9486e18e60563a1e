-- `memory::end_pass` meets its contract. Assumes nothing.
use mathlib.Core.Path.{◌≡◌, ap, ◌∙◌}
use Rattle.std.proofs.lemmas.Result.{err_from_is_err_and}
use Rattle.refusal.specs.declared.Refusal.{Refusal}
use Rattle.refusal.specs.Refusal.{number_of}
use Rattle.used.specs.Used.{lent}
use Rattle.focus_cache.specs.Cache.{cache_in}
use Rattle.memory.proofs.Parts.{stores}
use Rattle.memory.proofs.Counted.{used_told, used_taken}
use Rattle.memory_rules.specs.State.{done}
use Rattle.memory_rules.specs.Memory.{ended_of}
use Rattle.memory_rules.specs.Calls.{End, done_by}
use Rattle.memory.proofs.end_pass.Goals as goal

pub returns-in_err-used : goal.returns-in_err-used
returns-in_err-used c =
    let e = err_from_is_err_and {Q = λ (e : Refusal). e ≡ c.in_err-used.field-0.0} c.from_residual.result c.from_residual.ensures.1 in
    ap (done c.args.m) e.1 ∙ used_told c.args.m c.args.u e.0 (ap number_of e.2 ∙ c.in_err-used.ensures.refusal)

pub returns : goal.returns
unfolding done_by
returns c =
    stores (End (lent c.in_ok-used.used)) c.args.m c.end_pass-ended.new.rows (cache_in c.end_pass-ended.new.ids c.end_pass-ended.new.rects) _ c.fields_of.ensures c.end_pass-ended.result c.done.result c.done.ensures (c.end_pass-ended.ensures _)
    ∙ ap (ended_of c.args.m) c.in_ok-used.ensures.entries ∙ used_taken c.args.m c.args.u c.in_ok-used.ensures.refusal
