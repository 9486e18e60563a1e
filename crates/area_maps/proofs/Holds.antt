-- From every record that fits its tables: after every list of calls it fits them still and means
-- what egui holds, and so refuses and answers as egui does. Assumes nothing.
use mathlib.Core.Path.{refl, ap, ◌∙◌, subst}
use mathlib.Core.List.{[], ◌∷◌}
use Prim.Native.Nat.{ℕ}
use Rattle.refusal.specs.Limits.{layers}
use Rattle.areas.specs.declared.Areas.{Areas}
use Rattle.areas.specs.Areas.{new_areas, state_set, to_top_of, sublayer_set}
use Rattle.area_maps.specs.Egui as Egui
use Rattle.area_maps.specs.Calls.{Call, SetState, MoveToTop, SetSublayer, EndPass, Reset, Calls}
use Rattle.area_maps.specs.Calls.{record_step, egui_step, record_from, egui_from}
use Rattle.area_maps.specs.Calls.{record_after, egui_after}
use Rattle.area_maps.specs.Meaning.{meaning_of}
use Rattle.area_maps.specs.Fits.{Fits, Empties}
use Rattle.area_maps.specs.Answers.{Refusals, Agrees}
use Rattle.area_maps.proofs.Blanks.{blank_fits, blank_means, new_blank, new_fits, by_value}
use Rattle.area_maps.proofs.Answers.{layer_answers, area_answers}
use Rattle.area_maps.proofs.Steps.{Leaves, end_step, top_refusal_lem, top_step}
use Rattle.area_maps.proofs.Pairing.{sub_refusal, sub_step}
use Rattle.area_maps.proofs.States.{state_refusal_lem, state_step}

-- ---- a record that fits agrees with what it means
module _ (limit : ℕ) (a : Areas) (s : Fits limit a) where
  refusals : Refusals limit a (meaning_of a)
  unfolding state_set to_top_of sublayer_set
  refusals = record {
    set_state = state_refusal_lem limit a s;
    move_to_top = top_refusal_lem limit a s;
    set_sublayer = sub_refusal limit a s;
  }

  agrees_now : Agrees limit a (meaning_of a)
  agrees_now = record {
    fits = s;
    means = refl;
    refusals = refusals;
    layer_answers = layer_answers a s.stack;
    area_answers = area_answers a s.stack;
  }

-- ---- each call, and a list of them
module _ (limit : ℕ) (reset : Areas → Areas) (empties : Empties limit reset) where
  step : (call : Call) (a : Areas) → Fits limit a
      → Leaves limit (record_step reset call a) (egui_step limit call (meaning_of a))
  step (SetState l state) a s = state_step limit a s l state
  step (MoveToTop l) a s = top_step limit a s l
  step (SetSublayer parent child) a s = sub_step limit a s parent child
  step EndPass a s = end_step limit a s
  step Reset a s =
      let (room, blank) = empties a s.room in
      (blank_fits (reset a) blank limit room, blank_means (reset a) blank)

  module _ (start : Areas) (s : Fits limit start) where
    holds : (calls : Calls)
        → Leaves limit (record_from reset start calls) (egui_from limit (meaning_of start) calls)
    unfolding record_from egui_from
    holds [] = (s, refl)
    holds (call ∷ before) =
        let (fits, means) = holds before in
        let (next, same) = step call (record_from reset start before) fits in
        (next, same ∙ ap (egui_step limit call) means)

    pub agrees : (calls : Calls)
        → Agrees limit (record_from reset start calls) (egui_from limit (meaning_of start) calls)
    agrees calls =
        let (fits, means) = holds calls in
        let a = record_from reset start calls in
        subst (Agrees limit a) means (agrees_now limit a fits)

-- ---- from a new record
pub new_agrees : (calls : Calls) → Agrees layers (record_after calls) (egui_after layers calls)
new_agrees calls =
    subst (λ (e : Egui.Areas). Agrees layers (record_after calls) (egui_from layers e calls))
    (blank_means new_areas new_blank)
    (agrees layers (λ a. new_areas) by_value new_areas new_fits calls)
