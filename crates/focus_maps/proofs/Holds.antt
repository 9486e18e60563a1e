-- The three theorems: a call means egui's method, it is refused as the table says, and after every list of calls the record means what egui holds. Assumes nothing.
use mathlib.Core.Path.{◌≡◌, refl, ap, ◌∙◌}
use mathlib.Core.List.{[], ◌∷◌}
use Prim.Native.Nat.{ℕ, zero, suc}
use Rattle.refusal.specs.Refusal.{kept}
use Rattle.refusal.specs.Limits.{cached}
use Rattle.focus_cache.specs.Cache.{held_in}
use Rattle.focus.specs.declared.Focus.{Focus}
use Rattle.focus.specs.Focus.{Done, new_focus}
use Rattle.focus_maps.specs.Egui as Egui
use Rattle.focus_maps.specs.Calls.{Call, Calls, meaning_of, done_by, refusal_of, egui_call, egui_step, record_after, egui_after}
use Rattle.focus_maps.proofs.Steps.{limit, accepted, done, accepted_means, accepted_room}

module _ (f : Focus) (call : Call) where
  pub refused : (done_by call f).refusal ≡ refusal_of (limit f) call (meaning_of f)
  refused = ap (λ (d : Done). d.refusal) (done f call)

  abbrev left : ℕ → Focus
  left r = kept r f (accepted call f)

  pub leaves : (done_by call f).focus ≡ left (refusal_of (limit f) call (meaning_of f))
  leaves = ap (λ (d : Done). d.focus) (done f call)

  pub unchanged : ((done_by call f).refusal ≡ 0 → ⊥) → (done_by call f).focus ≡ f
  unchanged h = leaves ∙ go (refusal_of (limit f) call (meaning_of f)) (λ e. h (refused ∙ e))
    where
      go : (r : ℕ) → (r ≡ 0 → ⊥) → left r ≡ f
      go zero h = absurd (h refl)
      go (suc r) h = refl

  pub step : meaning_of (done_by call f).focus ≡ egui_step (limit f) call (meaning_of f)
  step = ap meaning_of leaves ∙ go (refusal_of (limit f) call (meaning_of f)) refl
    where
      go : (r : ℕ) → refusal_of (limit f) call (meaning_of f) ≡ r → meaning_of (left r) ≡ kept r (meaning_of f) (egui_call call (meaning_of f))
      go zero e = accepted_means f call e
      go (suc r) e = refl

  room : limit (done_by call f).focus ≡ limit f
  room = ap limit leaves ∙ go (refusal_of (limit f) call (meaning_of f))
    where
      go : (r : ℕ) → limit (left r) ≡ limit f
      go zero = accepted_room f call
      go (suc r) = refl

pub holds : (calls : Calls) → (limit (record_after calls) ≡ cached) × (meaning_of (record_after calls) ≡ egui_after cached calls)
unfolding record_after egui_after new_focus held_in Egui.empty
holds [] = (refl, refl)
holds (call ∷ before) =
    let (r, m) = holds before in
    (room (record_after before) call ∙ r, step (record_after before) call ∙ rw (r, m))
