use mathlib.Core.Path.{sym, ◌∙◌}
use native.Mathlib.Omega.{arith}
use borrow.Author.Tests.{eqb-true, eqb-false}
use Rattle.focus_pass.proofs.Whole.{whole_more, last_more, none_worst}
use Rattle.focus_pass.proofs.lowest_from.Goals as goal

pub loop-kind-preserved : goal.loop-kind-preserved
loop-kind-preserved c =
    let cut = c.as_chunks.ensures in
    whole_more c.args.words.now _ cut.front c.loop-kind.kind-index (omega (arith, cut.front_len)) _ c.event_of-event.ensures _ _ _ c.check.ensures c.joined-refused.ensures ∙ c.loop-kind.invariant

pub returns-then-is_empty : goal.returns-then-is_empty
returns-then-is_empty c =
    let cut = c.as_chunks.ensures in
    none_worst c.args.words.now _ cut.back c.loop-kind.kind-index (omega (arith, cut.front_len)) (eqb-true _ 0 (sym c.is_empty.ensures ∙ c.if-is_empty.true)) _ _ c.loop-kind.invariant

pub returns : goal.returns
returns c =
    let cut = c.as_chunks.ensures in
    last_more c.args.words.now _ cut.back c.loop-kind.kind-index (omega (arith, cut.front_len)) (omega (arith, eqb-false _ 0 (sym c.is_empty.ensures ∙ c.if-is_empty.false))) _ c.event.ensures _ _ _ c.check-2.ensures c.joined.ensures
    ∙ c.loop-kind.invariant
