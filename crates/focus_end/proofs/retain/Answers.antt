use native.Mathlib.Omega.{arith}
use Rattle.focus_cache.proofs.Calls.{held_fits}
use Rattle.focus_end.proofs.Calls.{none_retained, retained_lengths, all_retained, few_left, retain_more}
use Rattle.focus_end.proofs.retain.Goals as goal

pub loop-i-init : goal.loop-i-init
loop-i-init c = none_retained _ _ _

pub keep-so_far-requires : goal.keep-so_far-requires
keep-so_far-requires c =
    (c.requires.0, c.requires.1, omega (arith, held_fits _ _ _ _ c.held-n.ensures, (retained_lengths _ _ _ _ _ _ c.loop-i.invariant).0), few_left _ _ _ _ _ _ c.loop-i.invariant)

pub loop-i-preserved : goal.loop-i-preserved
loop-i-preserved c =
    retain_more _ _ _ _ _ _ c.loop-i.invariant (omega arith) _ _ c.keep-so_far.ensures.0 c.keep-so_far.ensures.1

pub shape_of-ids : goal.shape_of-ids
shape_of-ids c = (retained_lengths _ _ _ _ _ _ c.loop-i.invariant).0

pub shape_of-rects : goal.shape_of-rects
shape_of-rects c = (retained_lengths _ _ _ _ _ _ c.loop-i.invariant).1

pub returns : goal.returns
returns c = all_retained _ _ _ _ _ _ c.loop-i.invariant (omega arith)
