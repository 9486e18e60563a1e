-- The record answers every query as egui's Memory does that it means. Assumes nothing.
use Rattle.std.specs.Prelude.{◌≡◌, ℕ, Bool, true, false, cond, not, ◌&&◌, ◌||◌, eqb}
use mathlib.Core.Path.{refl, sym, ap, ◌∙◌}
use Rattle.refusal.specs.Refusal.{zero_id, id_refusal, answer}
use Rattle.refusal.specs.Refusal.{none as notRefused}
use Rattle.layers.specs.Layers.{layer_refusal}
use Rattle.std.specs.Prelude.{Option, None, Some}
use Rattle.area.specs.declared.AreaState.{AreaState}
use Rattle.areas.specs.declared.Areas.{Areas}
use Rattle.areas.specs.Areas.{layers_of}
use Rattle.area_maps.specs.Egui as EguiAreas
use Rattle.area_maps.proofs.Answers.{area_answers}
use Rattle.area_maps.proofs.Answers.{layer_answers as area_layer_answers}
use Rattle.focus_rules.specs.declared.Nav.{Nav}
use Rattle.focus_maps.specs.Egui as EguiFocus
use Rattle.focus_maps.proofs.Means.{focused_means, is_means, focused_answer}
use Rattle.memory_rules.specs.declared.Memory.{Memory}
use Rattle.memory_rules.specs.State.{areas_of, nav_of, popup_of}
use Rattle.memory_rules.specs.Memory.{rect_in, area_rect, is_popup_open}
use Rattle.memory_maps.specs.Egui as Egui
use Rattle.memory_maps.specs.Calls.{meaning_of}
use Rattle.memory_maps.specs.Answers.{FocusAnswers, LayerAnswers, AreasAnswers, PopupAnswers}
use Rattle.memory_maps.specs.Fits.{Fits}
use Rattle.memory_maps.proofs.Layers.{above_means, allowed_means, hit_means}
use Rattle.memory_maps.proofs.Popups.{some_means, same_means, position_means}

-- an id that is 0 is refused whatever is asked of it
asked : {A : Type 0} (id : ℕ) (a b : A) → (eqb id 0 ≡ false → a ≡ b) → answer (id_refusal id) a ≡ answer (id_refusal id) b
asked id a b h = go (eqb id 0) h
  where
    go : (t : Bool) → (t ≡ false → a ≡ b) → answer (cond t zero_id notRefused) a ≡ answer (cond t zero_id notRefused) b
    go true h = refl
    go false h = ap (answer notRefused) (h refl)

module _ (m : Memory) where
  abbrev e : Egui.Memory
  e = meaning_of m

  abbrev n : Nav
  n = nav_of m

  -- ---- the focus
  module _ (id : ℕ) (h : eqb id 0 ≡ false) where
    had : eqb n.id_previous_frame id ≡ Egui.had_focus_last_frame e id
    had = sym (is_means n.id_previous_frame id h)

    before : eqb n.id_two_frames_ago id ≡ EguiFocus.is e.focus.id_two_frames_ago id
    before = sym (is_means n.id_two_frames_ago id h)

    has : eqb n.focused id ≡ Egui.has_focus e id
    has = rw (focused_means n) (sym (is_means n.focused id h))

  pub focus_answers : FocusAnswers m e
  focus_answers = (
    focused_answer n,
    λ id. asked id _ _ (had id),
    λ id. asked id _ _ (has id),
    λ id. asked id _ _ (λ h i. (had id h i || before id h i) && not (has id h i)),
    λ id. asked id _ _ (λ h i. not (had id h i) && has id h i),
    refl,
    λ id. asked id _ _ (has id),
    refl,
  )

  -- ---- the layers
  module _ (layers cached : ℕ) (fit : Fits layers cached m) where
    abbrev a : Areas
    a = areas_of m

    rect : (h : Option AreaState) → rect_in h ≡ Egui.rect_in h
    rect None = refl
    rect (Some s) = refl

    pub areas_answers : AreasAnswers m e
    areas_answers = (area_layer_answers a fit.0.stack, area_answers a fit.0.stack)

    pub layer_answers : LayerAnswers m e
    unfolding area_rect layers_of
    layer_answers = (
      refl,
      λ layer. ap (answer (layer_refusal layer)) (above_means m fit.0.stack layer),
      λ layer. ap (answer (layer_refusal layer)) (allowed_means m fit.0.stack layer),
      λ pos. hit_means m fit.0.stack pos,
      areas_answers.0.0,
      λ id. asked id _ _ (λ h. ap rect_in (areas_answers.1.1 id) ∙ rect (EguiAreas.get e.areas id)),
    )

  -- ---- the popup
  pub popup_answers : PopupAnswers m e
  unfolding is_popup_open
  popup_answers = (
    λ id. asked id _ _ (λ h. ap (λ (b : Bool). b || m.everything_is_visible) (same_means (popup_of m) id h)),
    ap (λ (b : Bool). b || m.everything_is_visible) (some_means (popup_of m)),
    λ id. asked id _ _ (position_means (popup_of m) id),
    refl,
  )
