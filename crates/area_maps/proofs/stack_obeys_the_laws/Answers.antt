-- `area_maps::stack_obeys_the_laws` meets its contract. Assumes nothing.
use mathlib.Core.Path.{subst}
use Rattle.refusal.specs.Limits.{layers}
use Rattle.stacking.specs.Stacking.{Distinct, Orders, Pairs}
use Rattle.area_maps.specs.Egui as Egui
use Rattle.area_maps.specs.Calls.{Calls, egui_after}
use Rattle.area_maps.proofs.Holds.{new_agrees}
use Rattle.area_maps.proofs.stack_obeys_the_laws.Goals as goal

abbrev Lawful : Egui.Areas → Type 0
Lawful e = Distinct e.order × Orders e.order × Pairs e.order e.sublayers

lawful : (calls : Calls) → Lawful (egui_after layers calls)
lawful calls =
    let agrees = new_agrees calls in
    let stack = agrees.fits.stack in
    subst Lawful agrees.means (stack.distinct, stack.orders, stack.pairs)

pub returns : goal.returns
returns c calls = (lawful calls, (new_agrees calls).layer_answers.0)
