-- `candidate::range_diff` meets its contract. Assumes nothing.
use mathlib.Core.Path.{refl}
use Rattle.candidate.proofs.Laws.{overlapping, separate}
use Rattle.candidate.proofs.range_diff.Goals as goal

pub returns-then-min-span : goal.returns-then-min-span
returns-then-min-span c =
    overlapping _ _ _ _ _ _ _ _ c.intersection-overlap.ensures c.span.ensures c.span-2.ensures c.min.ensures c.span-3.ensures c.if-min-span.true refl

pub returns : goal.returns
returns c =
    separate _ _ _ _ _ _ _ _ c.intersection-overlap.ensures c.span.ensures c.span-2.ensures c.min.ensures c.span-3.ensures c.if-min-span.false refl _ _ c.center.ensures c.center-2.ensures
