use mathlib.Core.Path.{◌≡◌, ◌∙◌, sym}
use native.Mathlib.Omega.{arith}
use Rattle.focus_cache.proofs.Entries.{without_none, on_held}
use Rattle.focus_cache.proofs.Calls.{held_fits, none_removed, removed_lengths, all_removed, few_left, remove_passed, remove_kept}
use Rattle.focus_cache.proofs.remove.Goals as goal
use Rattle.focus_cache.proofs.remove.Goals.{then-here-id, else-here-id}

pub returns-then-not-contains : goal.returns-then-not-contains
returns-then-not-contains c =
    rw (without_none _ _ (sym c.contains.ensures ∙ c.if-not-contains.true)) (c.held-n.ensures, sym (on_held _ _ _))

pub loop-i-init : goal.loop-i-init
loop-i-init c = none_removed _ _ _

pub offset_bounds-ids-i : goal.offset_bounds-ids-i
offset_bounds-ids-i c = omega (arith, held_fits _ _ _ _ c.held-n.ensures)

pub bounds-ids-i : goal.bounds-ids-i
bounds-ids-i c = omega (arith, held_fits _ _ _ _ c.held-n.ensures, (removed_lengths _ _ _ _ _ _ c.loop-i.invariant).0)

pub overflow_add-kept : goal.overflow_add-kept
overflow_add-kept c = omega (arith, few_left _ _ _ _ _ _ c.loop-i.invariant)

pub loop-i-preserved : goal.loop-i-preserved
loop-i-preserved c =
    elim c.if-here-id.branch [
      | then-here-id w ↦ rw (w.ids-is, w.rects-is, w.kept-is) (remove_kept _ _ _ _ _ _ c.loop-i.invariant (omega arith) _ _ w.if-here-id.true w.rect_at.ensures w.put.ensures)
      | else-here-id w ↦ rw (w.ids-is, w.rects-is, w.kept-is) (remove_passed _ _ _ _ _ _ c.loop-i.invariant (omega arith) w.if-here-id.false)
    ]

pub shape_of-ids : goal.shape_of-ids
shape_of-ids c = (removed_lengths _ _ _ _ _ _ c.loop-i.invariant).0

pub shape_of-rects : goal.shape_of-rects
shape_of-rects c = (removed_lengths _ _ _ _ _ _ c.loop-i.invariant).1

pub returns : goal.returns
returns c = all_removed _ _ _ _ _ _ c.loop-i.invariant (omega arith)
