-- From every record that fits its tables: after every list of calls it fits them still and means
-- what egui holds, and so refuses and answers as egui does. Assumes nothing.
use Rattle.std.specs.Prelude.{◌≡◌, ℕ, [], ◌∷◌}
use mathlib.Core.Path.{refl, ap, ◌∙◌, subst}
use Rattle.refusal.specs.Limits.{layers, cached}
use Rattle.memory_rules.specs.declared.Memory.{Memory}
use Rattle.memory_rules.specs.State.{new_memory}
use Rattle.memory_maps.specs.Egui as Egui
use Rattle.memory_maps.specs.Calls.{Calls, meaning_of, egui_step, record_from, egui_from}
use Rattle.memory_maps.specs.Calls.{record_after, egui_after}
use Rattle.memory_maps.specs.Fits.{Fits}
use Rattle.memory_maps.specs.Answers.{Agrees, AreMaps}
use Rattle.memory_maps.proofs.Steps.{step}
use Rattle.memory_maps.proofs.Answers.{focus_answers, layer_answers, areas_answers, popup_answers}
use Rattle.memory_maps.proofs.Blanks.{new_fits, new_means}

module _ (layers cached : ℕ) where
  -- ---- a record that fits agrees with what it means
  agrees_now : (m : Memory) → Fits layers cached m → Agrees layers cached m (meaning_of m)
  agrees_now m fits = record {
    fits = fits;
    means = refl;
    refusals = λ call. (step layers cached m fits call).0;
    focus_answers = focus_answers m;
    layer_answers = layer_answers m layers cached fits;
    areas_answers = areas_answers m layers cached fits;
    popup_answers = popup_answers m;
  }

  -- ---- a list of calls
  module _ (start : Memory) (s : Fits layers cached start) where
    holds : (calls : Calls) → Fits layers cached (record_from start calls)
        × (meaning_of (record_from start calls) ≡ egui_from layers cached (meaning_of start) calls)
    unfolding record_from egui_from
    holds [] = (s, refl)
    holds (call ∷ before) =
        let (fits, means) = holds before in
        let (same, (next, left)) = step layers cached (record_from start before) fits call in
        (next, left ∙ ap (egui_step layers cached call) means)

    pub agrees : (calls : Calls) → Agrees layers cached (record_from start calls)
        (egui_from layers cached (meaning_of start) calls)
    agrees calls =
        let (fits, means) = holds calls in
        let m = record_from start calls in
        subst (Agrees layers cached m) means (agrees_now m fits)

    pub maps : (calls : Calls) → AreMaps (egui_from layers cached (meaning_of start) calls)
    maps calls =
        let (fits, means) = holds calls in
        subst AreMaps means (fits.0.stack.entries_distinct, fits.1.distinct)

-- ---- from a new record
pub new_agrees : (calls : Calls)
    → Agrees layers cached (record_after calls) (egui_after layers cached calls)
new_agrees calls =
    let m = record_after calls in
    subst (λ (e : Egui.Memory). Agrees layers cached m (egui_from layers cached e calls)) new_means
    (agrees layers cached new_memory new_fits calls)
