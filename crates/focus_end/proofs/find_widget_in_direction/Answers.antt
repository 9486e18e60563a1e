-- `focus_end::find_widget_in_direction` meets its contract. Assumes nothing.
use mathlib.Core.Path.{refl}
use native.Mathlib.Omega.{arith}
use Rattle.focus_end.proofs.Calls.{unfocused, fresh_few, fresh_fits, fresh_part, uncached, finds}
use Rattle.focus_end.proofs.find_widget_in_direction.Goals as goal

pub returns-in_default : goal.returns-in_default
returns-in_default c = unfocused _ _ _ _ _ _ _ c.focused_widget.ensures c.in_default.is c.held.ensures

pub slice_bounds-rect_of-end : goal.slice_bounds-rect_of-end
slice_bounds-rect_of-end c = (fresh_fits _ _ _ _ _ c.retain-n.ensures.0 _ c.retain-n.ensures.1).0

pub slice_bounds-rect_of-end-2 : goal.slice_bounds-rect_of-end-2
slice_bounds-rect_of-end-2 c = (fresh_part _ _ _ _ _ c.retain-n.ensures.0 _ c.retain-n.ensures.1).0

pub overflow_mul-n : goal.overflow_mul-n
overflow_mul-n c = omega (arith, c.well_formed, (fresh_few _ _ _ _ _ c.retain-n.ensures.0).1)

pub slice_bounds-rect_of-end-3 : goal.slice_bounds-rect_of-end-3
slice_bounds-rect_of-end-3 c = (fresh_fits _ _ _ _ _ c.retain-n.ensures.0 _ c.retain-n.ensures.1).1

pub slice_bounds-rect_of-end-4 : goal.slice_bounds-rect_of-end-4
slice_bounds-rect_of-end-4 c = (fresh_part _ _ _ _ _ c.retain-n.ensures.0 _ c.retain-n.ensures.1).1

pub rect_of-requires : goal.rect_of-requires
rect_of-requires c = omega (arith, fresh_part _ _ _ _ _ c.retain-n.ensures.0 _ c.retain-n.ensures.1)

pub returns-in_default-rect_of : goal.returns-in_default-rect_of
returns-in_default-rect_of c =
    uncached _ _ _ _ _ c.retain-n.ensures.0 _ c.retain-n.ensures.1 _ _ c.in-Some.ensures _ refl _ c.rect_of.ensures c.in_default-rect_of.is

pub slice_bounds-find-end : goal.slice_bounds-find-end
slice_bounds-find-end c = (fresh_fits _ _ _ _ _ c.retain-n.ensures.0 _ c.retain-n.ensures.1).0

pub slice_bounds-find-end-2 : goal.slice_bounds-find-end-2
slice_bounds-find-end-2 c = (fresh_part _ _ _ _ _ c.retain-n.ensures.0 _ c.retain-n.ensures.1).0

pub overflow_mul-n-2 : goal.overflow_mul-n-2
overflow_mul-n-2 c = omega (arith, c.well_formed, (fresh_few _ _ _ _ _ c.retain-n.ensures.0).1)

pub slice_bounds-find-end-3 : goal.slice_bounds-find-end-3
slice_bounds-find-end-3 c = (fresh_fits _ _ _ _ _ c.retain-n.ensures.0 _ c.retain-n.ensures.1).1

pub slice_bounds-find-end-4 : goal.slice_bounds-find-end-4
slice_bounds-find-end-4 c = (fresh_part _ _ _ _ _ c.retain-n.ensures.0 _ c.retain-n.ensures.1).1

pub returns : goal.returns
returns c =
    finds _ _ _ _ _ c.retain-n.ensures.0 _ c.retain-n.ensures.1 _ _ c.in-Some.ensures _ refl _ c.in-Some-rect_of.ensures _ _ refl c.find.ensures
