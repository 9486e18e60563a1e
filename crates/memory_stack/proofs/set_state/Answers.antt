-- `memory_stack::set_state` meets its contract. Assumes nothing.
use mathlib.Core.Path.{◌≡◌, ap, ◌∙◌}
use Rattle.std.proofs.lemmas.Result.{err_from_is_err_and}
use Rattle.refusal.specs.declared.Refusal.{Refusal}
use Rattle.refusal.specs.Refusal.{number_of}
use Rattle.area_table.specs.Table.{table_in}
use Rattle.memory_rules.specs.State.{done_of}
use Rattle.memory_stack.proofs.Stacked.{state_refused}
use Rattle.memory_stack.proofs.set_state.Goals as goal

pub returns-in_err-counts : goal.returns-in_err-counts
returns-in_err-counts c =
    λ cache. let e = err_from_is_err_and {Q = λ (e : Refusal). e ≡ c.in_err-counts.field-0.0} c.from_residual.result c.from_residual.ensures.1 in
    ap (λ r. done_of c.args.fields r c.set_state.new.rows (table_in c.set_state.new.ids c.set_state.new.codes c.set_state.new.floats) cache) e.1
    ∙ state_refused c.args.fields c.args.rows.now _ cache _ _ e.0 (ap number_of e.2 ∙ c.in_err-counts.ensures.refusal) _ _ _ _ c.in_err-counts.ensures.tables
