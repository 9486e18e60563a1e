-- `focus_end::keep` meets its contract. Assumes nothing.
use mathlib.Core.Path.{refl}
use native.Mathlib.Omega.{arith}
use Rattle.focus_end.proofs.Calls.{found_fits, keeps, leaves_out}
use Rattle.focus_end.proofs.keep.Goals as goal

pub overflow_add-result-in-Some : goal.overflow_add-result-in-Some
overflow_add-result-in-Some c =
    omega (arith, c.well_formed, found_fits _ _ _ _ c.in-Some.ensures _ refl)

pub returns-in-Some : goal.returns-in-Some
returns-in-Some c =
    keeps _ _ _ _ _ c.in-Some.ensures _ _ c.requires.0 c.requires.1 _ _ _ refl c.rect_at-rect.ensures c.put.ensures

pub returns-in-None : goal.returns-in-None
returns-in-None c = leaves_out _ _ _ _ _ c.in-None.ensures _ _ refl
