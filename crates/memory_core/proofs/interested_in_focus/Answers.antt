-- `memory_core::interested_in_focus` meets its contract. Assumes nothing.
use mathlib.Core.Path.{◌≡◌, sym, ap, ◌∙◌}
use Rattle.std.proofs.lemmas.Result.{err_from_is_err_and}
use Rattle.refusal.specs.declared.Refusal.{Refusal}
use Rattle.refusal.specs.Refusal.{number_of, lowest}
use Rattle.focus_cache.specs.Cache.{cache_in}
use Rattle.memory_rules.specs.State.{done_of}
use Rattle.memory_core.proofs.Interest.{interest_turned_away, interest_full, interest_taken}
use Rattle.memory_core.proofs.interested_in_focus.Goals as goal

pub returns-then-not-is_allowed : goal.returns-then-not-is_allowed
returns-then-not-is_allowed c =
    λ map. interest_turned_away c.args.fields c.args.rows.now map c.args.ids.now c.args.rects.now _ _ (c.in_ok-both.ensures ∙ (λ i. lowest (c.check_id.ensures i) (c.check.ensures i))) (sym c.if-not-is_allowed.true ∙ c.is_allowed.ensures map _)

pub returns-in_err-interested : goal.returns-in_err-interested
returns-in_err-interested c =
    λ map. let e = err_from_is_err_and {Q = λ (e : Refusal). e ≡ c.in_err-interested.field-0.0} c.from_residual-in_err-interested.result c.from_residual-in_err-interested.ensures.1 in
    ap (λ r. done_of c.args.fields r c.args.rows.now map (cache_in c.interested_in_focus.new.ids c.interested_in_focus.new.rects)) e.1
    ∙ interest_full c.args.fields c.args.rows.now map c.args.ids.now c.args.rects.now _ _ (c.in_ok-both.ensures ∙ (λ i. lowest (c.check_id.ensures i) (c.check.ensures i))) (sym c.if-not-is_allowed.false ∙ c.is_allowed.ensures map _) _ c.in_err-interested.ensures.cache e.0 (ap number_of e.2 ∙ c.in_err-interested.ensures.refusal)

pub returns : goal.returns
returns c =
    λ map. interest_taken c.args.fields c.args.rows.now map c.args.ids.now c.args.rects.now _ _ (c.in_ok-both.ensures ∙ (λ i. lowest (c.check_id.ensures i) (c.check.ensures i))) (sym c.if-not-is_allowed.false ∙ c.is_allowed.ensures map _) _ c.in_ok-interested.ensures.cache c.in_ok-interested.ensures.refusal _ _ _ c.in_ok-interested.ensures.after
