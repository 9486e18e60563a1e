use mathlib.Core.Path.{◌≡◌, sym, ◌∙◌}
use native.Mathlib.Omega.{arith}
use Rattle.std.proofs.Common.{rules}
use Rattle.refusal.specs.Refusal.{number_in, number_of}
use borrow.Author.Tests.{eqb-true, eqb-false}
use Rattle.focus_pass.proofs.Whole.{whole_worst, worst_left, whole_heard, last_worst, last_heard, none_worst, none_heard}
use Rattle.focus_pass.proofs.listen_to.Goals as goal

pub returns-in-Err-clause-refusal : goal.returns-in-Err-clause-refusal
returns-in-Err-clause-refusal c =
    let cut = c.as_chunks.ensures in
    c.lowest_from.ensures
    ∙ worst_left c.args.words.now _ cut.front c.loop-i.i (omega (arith, cut.front_len)) _ c.event_of-event.ensures _ _ c.loop-i.invariant.0 c.in-Err.ensures

pub loop-i-preserved : goal.loop-i-preserved
loop-i-preserved c =
    let cut = c.as_chunks.ensures in
    let i = c.loop-i.i in (
      whole_worst c.args.words.now _ cut.front i (omega (arith, cut.front_len)) _ c.event_of-event.ensures _ _ c.loop-i.invariant.0 c.in_default.ensures,
      whole_heard c.args.words.now _ cut.front i (omega (arith, cut.front_len)) _ c.event_of-event.ensures c.args.filter _ _ c.heard-heard.ensures ∙ c.loop-i.invariant.1,
    )

pub returns-in_ok-check-clause-refusal : goal.returns-in_ok-check-clause-refusal
returns-in_ok-check-clause-refusal c =
    let cut = c.as_chunks.ensures in
    last_worst c.args.words.now _ cut.back c.loop-i.i (omega (arith, cut.front_len)) (omega (arith, eqb-false _ 0 (sym c.is_empty.ensures ∙ c.if-not-is_empty.true))) _ c.event-event.ensures _ _ c.loop-i.invariant.0 c.in_ok-check.ensures

pub returns-in_ok-check-clause-heard : goal.returns-in_ok-check-clause-heard
returns-in_ok-check-clause-heard c =
    let cut = c.as_chunks.ensures in
    last_heard c.args.words.now _ cut.back c.loop-i.i (omega (arith, cut.front_len)) (omega (arith, eqb-false _ 0 (sym c.is_empty.ensures ∙ c.if-not-is_empty.true))) _ c.event-event.ensures c.args.filter _ _ _ c.loop-i.invariant.1 c.heard-heard-then-not-is_empty.ensures

pub returns-else-not-is_empty-clause-refusal : goal.returns-else-not-is_empty-clause-refusal
returns-else-not-is_empty-clause-refusal c =
    let cut = c.as_chunks.ensures in
    none_worst c.args.words.now _ cut.back c.loop-i.i (omega (arith, cut.front_len)) (eqb-true _ 0 (sym c.is_empty.ensures ∙ c.if-not-is_empty.false)) _ _ c.loop-i.invariant.0

pub returns-else-not-is_empty-clause-heard : goal.returns-else-not-is_empty-clause-heard
returns-else-not-is_empty-clause-heard c =
    let cut = c.as_chunks.ensures in
    none_heard c.args.words.now _ cut.back c.loop-i.i (omega (arith, cut.front_len)) (eqb-true _ 0 (sym c.is_empty.ensures ∙ c.if-not-is_empty.false)) c.args.filter _ _ c.loop-i.invariant.1

pub returns-in_err-check-clause-refusal : goal.returns-in_err-check-clause-refusal
returns-in_err-check-clause-refusal c =
    let cut = c.as_chunks.ensures in
    let told : number_in c.from_residual.result ≡ number_of c.in_err-check.field-0.0 = search rules in
    told ∙ last_worst c.args.words.now _ cut.back c.loop-i.i (omega (arith, cut.front_len)) (omega (arith, eqb-false _ 0 (sym c.is_empty.ensures ∙ c.if-not-is_empty.true))) _ c.event-event.ensures _ _ c.loop-i.invariant.0 c.in_err-check.ensures
