-- What a call of Memory leaves of its focus, in egui's terms, and what all calls keep that keep it one by one. Assumes nothing.
use Rattle.std.specs.Prelude.{ℕ, zero, suc, Bool, true, false, cond, ◌≡◌, None, List, [], ◌∷◌, take, length}
use mathlib.Core.Path.{refl, sym, ◌∙◌, subst}
use borrow.Author.Tests.{not-true, eqb-false}
use lib.Seq.{take_all}
use native.Mathlib.Omega.{arith}
use Rattle.refusal.specs.Refusal.{none, lowest, id_refusal, kept}
use Rattle.refusal.proofs.Laws.{both_none}
use Rattle.input.specs.declared.Event.{Event}
use Rattle.layers.specs.declared.LayerId.{LayerId}
use Rattle.layers.specs.Layers.{layer_refusal}
use Rattle.search.specs.declared.Candidate.{Candidate}
use Rattle.focus_maps.specs.Egui as Egui
use Rattle.focus_maps.specs.Calls as Focus
use Rattle.focus_maps.proofs.Holds.{refused}
use Rattle.memory_rules.specs.declared.Memory.{Memory}
use Rattle.memory_rules.specs.State.{focus_of, with_focus}
use Rattle.memory_rules.specs.Memory.{is_allowed, stays_modal, is_popup_open, begun_of, ended_of, interested_of, filter_set, requested, requested_next, surrendered, ignored_of, moved, modal_set, text_stopped, popup_kept, closed, toggled}
use Rattle.memory_rules.specs.Calls.{Call, Begin, Interest, End, SetFocusLockFilter, RequestFocus, RequestFocusNextFrame, SurrenderFocus, IgnoreFocus, MoveFocus, SetModalLayer, StopTextInput, ResetAreas, InterruptIme, OpenPopupAt, KeepPopupOpen, ClosePopup, TogglePopup, CloseAllPopups, SetEverythingIsVisible, SetState, MoveToTop, SetSublayer, done_by}
use Rattle.confirm_box.specs.KeptOut.{is_taken, run, none_is}
use Rattle.confirm_box.proofs.Egui.{both, either}
use Rattle.confirm_box.proofs.Methods.{Moves, letgo_keeps, filter_keeps}
use Rattle.memory_rules.proofs.Refused.{refused as nothing_changed}
use Rattle.memory_maps.proofs.Focuses.{Leaves, taken, begun_leaves, ended_leaves}

-- the focus, in egui's terms
abbrev pub focus_in : Memory → Egui.Focus
focus_in m = Focus.meaning_of (focus_of m)

-- ---- what a call that is not refused does to it
unfoldable pub focus_after : Call → Memory → Egui.Focus → Egui.Focus
focus_after (Begin events) m f = Egui.begin_pass f events
focus_after (Interest id layer) m f = cond (is_allowed m layer) (Egui.interested_in_focus f id) f
focus_after (End used) m f = Egui.end_pass f used
focus_after (SetFocusLockFilter id filter) m f = Egui.set_focus_lock_filter f id filter
focus_after (RequestFocus id) m f = Egui.request_focus f id
focus_after (RequestFocusNextFrame id) m f = Egui.request_focus_next_frame f id
focus_after (SurrenderFocus id) m f = Egui.surrender_focus f id
focus_after (IgnoreFocus id) m f = Egui.ignore_focus f id
focus_after (MoveFocus direction) m f = Egui.move_focus f direction
focus_after (SetModalLayer layer) m f = cond (stays_modal m layer) f (Egui.set_modal_layer f layer)
focus_after StopTextInput m f = Egui.with_widget f None
focus_after call m f = f

-- the tables keep their room, and the focus is that
abbrev pub Left : Memory → Memory → Egui.Focus → Type 0
Left m after f = Leaves (focus_of m) (focus_of after) f

module _ (m : Memory) where
  unless : (r : ℕ) (after : Memory) (f : Egui.Focus) → (r ≡ 0 → Left m after f) → Left m (kept r m after) (kept r (focus_in m) f)
  unless zero after f h = h refl
  unless (suc r) after f h = (refl, refl)

  same : (r : ℕ) (after : Memory) → Left m after (focus_in m) → Left m (kept r m after) (kept r (focus_in m) (focus_in m))
  same r after h = unless r after (focus_in m) (λ z. h)

  either_same : (b : Bool) (x y : Memory) → Left m x (focus_in m) → Left m y (focus_in m) → Left m (cond b x y) (focus_in m)
  either_same true x y p q = p
  either_same false x y p q = q

  wanted : (id : ℕ) (layer : LayerId) (b : Bool) → ◌≡◌ {A = ℕ} (cond b (Focus.done_by (Focus.Interest id) (focus_of m)).refusal none) 0
      → Left m (cond b (with_focus m (Focus.done_by (Focus.Interest id) (focus_of m)).focus) m) (cond b (Egui.interested_in_focus (focus_in m) id) (focus_in m))
  wanted id layer true h = taken (focus_of m) (Focus.Interest id) h
  wanted id layer false h = (refl, refl)

  set : (layer : LayerId) (b : Bool) → layer_refusal layer ≡ 0
      → Left m (cond b m (with_focus m (Focus.done_by (Focus.SetModalLayer layer) (focus_of m)).focus)) (cond b (focus_in m) (Egui.set_modal_layer (focus_in m) layer))
  set layer true h = (refl, refl)
  set layer false h = taken (focus_of m) (Focus.SetModalLayer layer) (refused (focus_of m) (Focus.SetModalLayer layer) ∙ h)

  pub leaves : (call : Call) → Left m (done_by call m).memory (kept (done_by call m).refusal (focus_in m) (focus_after call m (focus_in m)))
  unfolding done_by focus_after begun_of interested_of ended_of filter_set requested requested_next surrendered ignored_of moved modal_set text_stopped popup_kept closed toggled
  leaves (Begin events) = unless _ _ _ (begun_leaves (focus_of m) events)
  leaves (Interest id layer) = unless _ _ _ (λ h. wanted id layer (is_allowed m layer) (both_none (lowest (id_refusal id) (layer_refusal layer)) _ h).1)
  leaves (End used) = unless _ _ _ (ended_leaves (focus_of m) used)
  leaves (SetFocusLockFilter id filter) = unless _ _ _ (taken (focus_of m) (Focus.SetFocusLockFilter id filter))
  leaves (RequestFocus id) = unless _ _ _ (taken (focus_of m) (Focus.RequestFocus id))
  leaves (RequestFocusNextFrame id) = unless _ _ _ (taken (focus_of m) (Focus.RequestFocusNextFrame id))
  leaves (SurrenderFocus id) = unless _ _ _ (taken (focus_of m) (Focus.SurrenderFocus id))
  leaves (IgnoreFocus id) = unless _ _ _ (taken (focus_of m) (Focus.IgnoreFocus id))
  leaves (MoveFocus direction) = unless _ _ _ (taken (focus_of m) (Focus.MoveFocus direction))
  leaves (SetModalLayer layer) = unless _ _ _ (set layer (stays_modal m layer))
  leaves StopTextInput = (refl, refl)
  leaves ResetAreas = (refl, refl)
  leaves InterruptIme = (refl, refl)
  leaves (OpenPopupAt id pos) = same _ _ (refl, refl)
  leaves (KeepPopupOpen id) = same _ _ (either_same _ _ _ (refl, refl) (refl, refl))
  leaves (ClosePopup id) = same _ _ (either_same (is_popup_open m id) _ _ (refl, refl) (refl, refl))
  leaves (TogglePopup id) = same _ _ (either_same (is_popup_open m id) _ _ (refl, refl) (refl, refl))
  leaves CloseAllPopups = (refl, refl)
  leaves (SetEverythingIsVisible all) = (refl, refl)
  leaves (SetState layer s) = same _ _ (refl, refl)
  leaves (MoveToTop layer) = same _ _ (refl, refl)
  leaves (SetSublayer parent child) = same _ _ (refl, refl)

-- ---- what every call keeps that these methods keep, where the call is such that they do, and the changes that the others are made of
module _ (m : Memory) (P : Egui.Focus → Type 0) (Ok : Call → Type 0) where
  pub record Methods : Type 0 where
    pub begin : (events : List Event) → Ok (Begin events) → (f : Egui.Focus) → P f → P (Egui.begin_pass f events)
    pub want : (id : ℕ) (layer : LayerId) → Ok (Interest id layer) → is_allowed m layer ≡ true → (f : Egui.Focus) → P f → P (Egui.interested_in_focus f id)
    pub end : (used : List Candidate) → Ok (End used) → (f : Egui.Focus) → P f → P (Egui.end_pass f used)
    pub ask : (id : ℕ) → Ok (RequestFocus id) → (f : Egui.Focus) → P f → P (Egui.request_focus f id)
    pub ask_next : (id : ℕ) → Ok (RequestFocusNextFrame id) → (f : Egui.Focus) → P f → P (Egui.request_focus_next_frame f id)
    pub ignore : (id : ℕ) → (f : Egui.Focus) → P f → P (Egui.ignore_focus f id)
    pub set : (layer : LayerId) → Ok (SetModalLayer layer) → (f : Egui.Focus) → P f → P (Egui.set_modal_layer f layer)

  module _ (moves : Moves P) (methods : Methods) where
    wants : (id : ℕ) (layer : LayerId) (b : Bool) → is_allowed m layer ≡ b → Ok (Interest id layer) → (f : Egui.Focus) → P f → P (cond b (Egui.interested_in_focus f id) f)
    wants id layer true e ok f k = methods.want id layer ok e f k
    wants id layer false e ok f k = k

    accepted : (call : Call) → Ok call → (f : Egui.Focus) → P f → P (focus_after call m f)
    unfolding focus_after
    accepted (Begin events) ok f k = methods.begin events ok f k
    accepted (Interest id layer) ok f k = wants id layer (is_allowed m layer) refl ok f k
    accepted (End used) ok f k = methods.end used ok f k
    accepted (SetFocusLockFilter id filter) ok f k = filter_keeps P moves f id filter k
    accepted (RequestFocus id) ok f k = methods.ask id ok f k
    accepted (RequestFocusNextFrame id) ok f k = methods.ask_next id ok f k
    accepted (SurrenderFocus id) ok f k = letgo_keeps P moves f id k
    accepted (IgnoreFocus id) ok f k = methods.ignore id f k
    accepted (MoveFocus direction) ok f k = moves.turn f direction k
    accepted (SetModalLayer layer) ok f k = either P (stays_modal m layer) k (methods.set layer ok f k)
    accepted StopTextInput ok f k = moves.drop f k
    accepted ResetAreas ok f k = k
    accepted InterruptIme ok f k = k
    accepted (OpenPopupAt id pos) ok f k = k
    accepted (KeepPopupOpen id) ok f k = k
    accepted (ClosePopup id) ok f k = k
    accepted (TogglePopup id) ok f k = k
    accepted CloseAllPopups ok f k = k
    accepted (SetEverythingIsVisible all) ok f k = k
    accepted (SetState layer s) ok f k = k
    accepted (MoveToTop layer) ok f k = k
    accepted (SetSublayer parent child) ok f k = k

    -- refused or not
    pub keeps : (call : Call) → Ok call → P (focus_in m) → P (focus_in (done_by call m).memory)
    keeps call ok k = subst P (sym (leaves m call).1) (go (done_by call m).refusal)
      where
        go : (r : ℕ) → P (kept r (focus_in m) (focus_after call m (focus_in m)))
        go zero = accepted call ok (focus_in m) k
        go (suc r) = k

-- a call that is refused leaves the memory as it was
pub unless_refused : (I : Memory → Type 0) (m : Memory) (call : Call) → (is_taken m call ≡ true → I (done_by call m).memory) → I m → I (done_by call m).memory
unless_refused I m call step k = go (is_taken m call) refl
  where
    go : (b : Bool) → is_taken m call ≡ b → I (done_by call m).memory
    go true e = step e
    go false e = subst I (sym (nothing_changed m call (eqb-false (done_by call m).refusal 0 e))) k

-- ---- lists of calls: what each call keeps that is not such a call, is kept throughout
pub throughout : (I : Memory → Type 0) (such : Memory → Call → Bool) → ((m : Memory) (call : Call) → such m call ≡ false → I m → I (done_by call m).memory)
    → (calls : List Call) (m : Memory) → I m → none_is such m calls ≡ true → (n : ℕ) → I (run m (take n calls))
unfolding run none_is
throughout I such step calls m k h zero = k
throughout I such step [] m k h (suc n) = k
throughout I such step (call ∷ calls) m k h (suc n) =
    let (a, b) = both _ _ h in
    throughout I such step calls (done_by call m).memory (step m call (not-true (such m call) a) k) b n

-- and so at the end
pub at_end : (I : Memory → Type 0) (such : Memory → Call → Bool) → ((m : Memory) (call : Call) → such m call ≡ false → I m → I (done_by call m).memory)
    → (calls : List Call) (m : Memory) → I m → none_is such m calls ≡ true → I (run m calls)
at_end I such step calls m k h = rw (take_all (length calls) calls (omega arith)) at (throughout I such step calls m k h (length calls))
