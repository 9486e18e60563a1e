-- A refused call leaves the memory as it was. Assumes nothing.
use mathlib.Core.Path.{◌≡◌, refl, sym, ap, ◌∙◌}
use Prim.Native.Nat.{ℕ, zero, suc}
use native.Mathlib.Omega.{arith}
use Rattle.refusal.specs.declared.Refusal.{Refusal}
use Rattle.refusal.specs.Refusal.{number_of, kept}
use Rattle.refusal.proofs.Laws.{positive}
use Rattle.memory_rules.specs.declared.Memory.{Memory}
use Rattle.memory_rules.specs.State.{Done, done_with}
use Rattle.memory_rules.specs.Memory.{begun_of, ended_of, interested_of, filter_set, requested, requested_next, surrendered, ignored_of, moved, modal_set, popup_kept, closed, toggled}
use Rattle.memory_rules.specs.Calls.{Call, Begin, Interest, End, SetFocusLockFilter, RequestFocus, RequestFocusNextFrame, SurrenderFocus, IgnoreFocus, MoveFocus, SetModalLayer, StopTextInput, ResetAreas, InterruptIme, OpenPopupAt, KeepPopupOpen, ClosePopup, TogglePopup, CloseAllPopups, SetEverythingIsVisible, SetState, MoveToTop, SetSublayer, done_by, taken}

-- ---- what a call that is refused for r leaves: k is r's number by definition
module _ (r : Refusal) (k : ℕ) (e : number_of r ≡ k) where
  pub keeps : {A : Type 0} (before after : A) → kept k before after ≡ before
  keeps before after = ap (λ (n : ℕ). kept n before after) (sym e) ∙ go (number_of r) (λ z. let p = positive r in omega arith)
    where
      go : (n : ℕ) → (n ≡ 0 → ⊥) → kept n before after ≡ before
      go zero h = absurd (h refl)
      go (suc n) h = refl

  pub leaves : (m after : Memory) → ◌≡◌ {A = Done} (record { memory = m; refusal = number_of r }) (done_with k m after)
  leaves m after = λ i. record { memory = sym (keeps m after) i; refusal = e i }

-- ---- every call
abbrev Stays : Memory → Done → Type 0
Stays m d = (d.refusal ≡ 0 → ⊥) → d.memory ≡ m

stays : (n : ℕ) (m after : Memory) → Stays m (done_with n m after)
stays zero m after h = absurd (h refl)
stays (suc n) m after h = refl

accepted : (m after : Memory) → Stays m (taken after)
accepted m after h = absurd (h refl)

pub refused : (m : Memory) (call : Call) → Stays m (done_by call m)
unfolding done_by begun_of ended_of interested_of filter_set requested requested_next surrendered ignored_of moved modal_set popup_kept closed toggled
refused m (Begin events) = stays _ _ _
refused m (Interest id layer) = stays _ _ _
refused m (End used) = stays _ _ _
refused m (SetFocusLockFilter id filter) = stays _ _ _
refused m (RequestFocus id) = stays _ _ _
refused m (RequestFocusNextFrame id) = stays _ _ _
refused m (SurrenderFocus id) = stays _ _ _
refused m (IgnoreFocus id) = stays _ _ _
refused m (MoveFocus direction) = stays _ _ _
refused m (SetModalLayer layer) = stays _ _ _
refused m StopTextInput = accepted _ _
refused m ResetAreas = accepted _ _
refused m InterruptIme = accepted _ _
refused m (OpenPopupAt id pos) = stays _ _ _
refused m (KeepPopupOpen id) = stays _ _ _
refused m (ClosePopup id) = stays _ _ _
refused m (TogglePopup id) = stays _ _ _
refused m CloseAllPopups = accepted _ _
refused m (SetEverythingIsVisible all) = accepted _ _
refused m (SetState layer s) = stays _ _ _
refused m (MoveToTop layer) = stays _ _ _
refused m (SetSublayer parent child) = stays _ _ _
