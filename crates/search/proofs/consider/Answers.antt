-- `search::consider` meets its contract, return by return (`Turns.antt`). Assumes nothing.
use mathlib.Core.Path.{sym, ◌∙◌}
use Rattle.search.proofs.Turns.{free_place, itself, passed_over, outside, taken, left}
use Rattle.search.proofs.consider.Goals as goal

pub returns-then-c-eq0 : goal.returns-then-c-eq0
returns-then-c-eq0 c = search free_place

pub returns-then-c-focused : goal.returns-then-c-focused
returns-then-c-focused c = search itself

pub returns-then-is_farther : goal.returns-then-is_farther
returns-then-is_farther c =
    passed_over _ _ _ _ _ c.if-c-eq0.false c.if-c-focused.false _ c.to_candidate-difference.ensures (sym c.is_farther.ensures ∙ c.if-is_farther.true)

pub returns-then-is_better : goal.returns-then-is_better
returns-then-is_better c =
    taken _ _ _ _ _ c.if-c-eq0.false c.if-c-focused.false _ c.to_candidate-difference.ensures _ c.judge.ensures _ c.in-Some.is _ c.is_better.ensures c.if-is_better.true

pub returns-in-None : goal.returns-in-None
returns-in-None c =
    outside _ _ _ _ _ c.if-c-eq0.false c.if-c-focused.false _ c.to_candidate-difference.ensures _ c.judge.ensures c.in-None.is

pub returns-else-is_better : goal.returns-else-is_better
returns-else-is_better c =
    left _ _ _ _ _ c.if-c-eq0.false c.if-c-focused.false _ c.to_candidate-difference.ensures _ c.judge.ensures _ c.in-Some.is _ c.is_better.ensures c.if-is_better.false
