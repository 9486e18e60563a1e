-- What a call that is not refused leaves of the focus, where Memory makes it: the laws of crate focus_maps for one call, and those of begin and end for a list of events or entries. Assumes nothing.
use Rattle.std.specs.Prelude.{◌≡◌, ℕ, zero, suc, ◌≤◌, List, length}
use mathlib.Core.Path.{refl, sym, ap, ◌∙◌}
use native.Mathlib.Omega.{arith}
use Rattle.refusal.specs.Refusal.{kept}
use Rattle.refusal.specs.Limits.{used as usedLimit}
use Rattle.input.specs.declared.Event.{Event}
use Rattle.search.specs.declared.Candidate.{Candidate}
use Rattle.focus_rules.specs.declared.Nav.{Nav}
use Rattle.focus_rules.specs.Rules.{changed_to}
use Rattle.focus_cache.specs.Cache.{cache_on, room_in}
use Rattle.focus_cache.proofs.Entries.{held_length, held_on, on_room}
use Rattle.focus_pass.specs.Pass.{nav_begun, begin_refusal, begin_of}
use Rattle.used.specs.Used.{used_refusal}
use Rattle.focus_end.specs.End.{cache_ended, nav_ended, end_of}
use Rattle.focus.specs.declared.Focus.{Focus}
use Rattle.focus.specs.Focus.{cache_of, held_of, focus_with, begun_with, ended_with}
use Rattle.focus_maps.specs.Egui as Egui
use Rattle.focus_maps.specs.Calls.{Call, meaning, meaning_of, done_by, refusal_of, egui_call}
use Rattle.focus_maps.proofs.Begun.{begin_means}
use Rattle.focus_maps.proofs.Ended.{ended_length, end_means}
use Rattle.focus_maps.proofs.Steps.{accepted, accepted_means, accepted_room}
use Rattle.focus_maps.proofs.Holds.{refused, leaves}

abbrev room : Focus → ℕ
room f = room_in f.ids f.rects

-- the tables keep their room, and the record means what egui's method leaves
abbrev pub Leaves : Focus → Focus → Egui.Focus → Type 0
Leaves f after m = (room after ≡ room f) × (meaning_of after ≡ m)

pub taken : (f : Focus) (call : Call) → (done_by call f).refusal ≡ 0 → Leaves f (done_by call f).focus (egui_call call (meaning_of f))
taken f call e = rw left (accepted_room f call, accepted_means f call none)
  where
    none : refusal_of (room f) call (meaning_of f) ≡ 0
    none = sym (refused f call) ∙ e

    left : (done_by call f).focus ≡ accepted call f
    left = leaves f call ∙ ap (λ (n : ℕ). kept n f (accepted call f)) none

-- ---- begin
changed_refusal : (n : ℕ) (before after : Nav) → (changed_to n before after).refusal ≡ n
changed_refusal zero before after = refl
changed_refusal (suc n) before after = refl

changed_nav : (n : ℕ) (before after : Nav) → n ≡ 0 → (changed_to n before after).nav ≡ after
changed_nav zero before after e = refl
changed_nav (suc n) before after e = absurd (omega arith)

module _ (f : Focus) (events : List Event) where
  pub begun_refusal : (begun_with f events).refusal ≡ begin_refusal events
  unfolding begin_of
  begun_refusal = changed_refusal (begin_refusal events) f.nav (nav_begun f.nav (held_of f) events)

  begun_nav : begin_refusal events ≡ 0 → (begin_of f.nav (held_of f) events).nav ≡ nav_begun f.nav (held_of f) events
  unfolding begin_of
  begun_nav e = changed_nav (begin_refusal events) f.nav (nav_begun f.nav (held_of f) events) e

  pub begun_leaves : (begun_with f events).refusal ≡ 0 → Leaves f (begun_with f events).focus (Egui.begin_pass (meaning_of f) events)
  begun_leaves e =
      let none : begin_refusal events ≡ 0 = sym begun_refusal ∙ e in
      (refl, ap (λ (nav : Nav). meaning nav (held_of f)) (begun_nav none) ∙ begin_means f.nav (held_of f) events none)

-- ---- end
module _ (f : Focus) (used : List Candidate) where
  abbrev entries : List Candidate
  entries = cache_ended f.nav (held_of f) used

  abbrev left : Focus
  left = focus_with (nav_ended f.nav (held_of f) used) (cache_on (cache_of f) entries) (length entries) f.slot

  pub ended_refusal : (ended_with f used).refusal ≡ used_refusal usedLimit used
  unfolding end_of
  ended_refusal = refl

  ended_focus : used_refusal usedLimit used ≡ 0 → (ended_with f used).focus ≡ left
  unfolding end_of
  ended_focus e = go (used_refusal usedLimit used) e
    where
      go : (n : ℕ) → n ≡ 0 → focus_with (kept n f.nav (nav_ended f.nav (held_of f) used)) (kept n (cache_of f) (cache_on (cache_of f) entries)) (kept n f.count (length entries)) f.slot ≡ left
      go zero e = refl
      go (suc n) e = absurd (omega arith)

  fits : length entries ≤ room f
  fits = omega (arith, ended_length f.nav (held_of f) used, held_length f.count f.ids f.rects)

  pub ended_held : (ended_with f used).refusal ≡ 0 → held_of (ended_with f used).focus ≡ entries
  ended_held e =
      ap held_of (ended_focus (sym ended_refusal ∙ e)) ∙ held_on (cache_of f) entries fits

  pub ended_leaves : (ended_with f used).refusal ≡ 0 → Leaves f (ended_with f used).focus (Egui.end_pass (meaning_of f) used)
  ended_leaves e =
      let same : (ended_with f used).focus ≡ left = ended_focus (sym ended_refusal ∙ e) in
      (ap (λ (g : Focus). room g) same ∙ on_room (cache_of f) entries, ap meaning_of same ∙ rw (held_on (cache_of f) entries fits) (end_means f.nav (held_of f) used))
