-- the array has four numbers for each of 64 events
use mathlib.Core.Path.{◌≡◌, ◌∙◌, ap}
use native.Mathlib.Omega.{arith}
use lib.ListN.{length}
use Rattle.focus_pass.specs.Pass.{begin_of}
use Rattle.focus.specs.Focus.{held_of}
use Rattle.focus.proofs.Stays.{begin_left, many_events_left}
use Rattle.focus.proofs.begin.Goals as goal

pub returns-in_err-words-clause-focus : goal.returns-in_err-words-clause-focus
returns-in_err-words-clause-focus c = many_events_left _ _ _ c.in_err-words.was c.args.e.now c.lent.ensures.refusal

pub returns-in_err-f-clause-focus : goal.returns-in_err-f-clause-focus
returns-in_err-f-clause-focus c =
    begin_left _ _ _ c.in_err-f.was c.args.e.now (c.begin_pass.ensures.refusal ∙ ap (λ e. (begin_of c.args.f.now.nav (held_of c.args.f.now) e).refusal) c.in_ok-words.ensures.words)
