-- Each call on the record: it is refused as the table says, and leaves what is there, or else a record that means what egui's method leaves and whose parts are fit. Assumes nothing.
use Rattle.std.specs.Prelude.{◌≡◌, ℕ, zero, suc, Bool, true, false, cond, not, ◌||◌, eqb, ltb, List, length}
use mathlib.Core.Path.{refl, sym, ap, ◌∙◌}
use Rattle.std.specs.Prelude.{Option, None}
use native.Mathlib.Omega.{arith}
use Rattle.refusal.specs.Refusal.{full, lowest, id_refusal, kept}
use Rattle.refusal.specs.Refusal.{none as notRefused}
use Rattle.refusal.proofs.Laws.{both_none}
use Rattle.area.specs.declared.AreaState.{AreaState}
use Rattle.input.specs.declared.Event.{Event}
use Rattle.layers.specs.declared.LayerId.{LayerId}
use Rattle.search.specs.declared.Candidate.{Candidate}
use Rattle.layers.specs.Layers.{layer_refusal}
use Rattle.focus_cache.specs.Cache.{enlisted}
use Rattle.areas.specs.declared.Areas.{Areas}
use Rattle.areas.specs.Areas.{state_set, to_top_of, sublayer_set}
use Rattle.area_maps.specs.Egui as EguiAreas
use Rattle.area_maps.proofs.Steps.{Leaves, end_step, top_refusal_lem, top_step}
use Rattle.area_maps.proofs.Pairing.{sub_refusal, sub_step}
use Rattle.area_maps.proofs.States.{state_refusal_lem, state_step}
use Rattle.area_maps.proofs.Blanks.{blank_fits, blank_means, in_place}
use Rattle.focus.specs.declared.Focus.{Focus}
use Rattle.focus.specs.Focus.{held_of, begun_with, ended_with}
use Rattle.focus_maps.specs.Egui as EguiFocus
use Rattle.focus_maps.specs.Calls as Focus
use Rattle.focus_maps.proofs.Means.{id_taken}
use Rattle.focus_maps.proofs.Holds.{refused}
use Rattle.focus_maps.proofs.Distinct.{ended_distinct, done_distinct}
use Rattle.memory_rules.specs.declared.Memory.{Memory}
use Rattle.memory_rules.specs.State.{Done, areas_of, focus_of, popup_of, with_areas, with_focus, with_popup, with_ime, done_with}
use Rattle.memory_rules.specs.Memory.{emptied}
use Rattle.memory_rules.specs.Memory.{begun_of, ended_of, interested_of, filter_set, requested, requested_next, surrendered, ignored_of, moved, modal_set, text_stopped, popup_at, kept_open, popup_kept, is_popup_open, is_allowed, stays_modal, closed, toggled, all_closed}
use Rattle.memory_rules.specs.Calls.{Call, Begin, Interest, End, SetFocusLockFilter, RequestFocus, RequestFocusNextFrame, SurrenderFocus, IgnoreFocus, MoveFocus, SetModalLayer, StopTextInput, ResetAreas, InterruptIme, OpenPopupAt, KeepPopupOpen, ClosePopup, TogglePopup, CloseAllPopups, SetEverythingIsVisible, SetState, MoveToTop, SetSublayer, with_stack, done_by}
use Rattle.memory_maps.specs.Egui as Egui
use Rattle.memory_maps.specs.Calls.{meaning_of, popup_meaning, refusal_of, egui_call, egui_step}
use Rattle.memory_maps.specs.Fits.{CacheFits, Fits}
use Rattle.memory_maps.proofs.Layers.{allowed_means, stays_means}
use Rattle.memory_maps.proofs.Focuses.{taken, begun_refusal, begun_leaves}
use Rattle.memory_maps.proofs.Focuses.{ended_refusal, ended_held, ended_leaves}
use Rattle.memory_maps.proofs.Popups.{same_means, ended_means, keep_means, opened_means}

-- a refusal that is named twice counts once
one_lowest : (n : ℕ) → lowest 1 n ≡ 1
unfolding lowest
one_lowest zero = refl
one_lowest (suc n) = omega arith

twice : (b : Bool) (l n : ℕ) → (let i = cond {A = ℕ} b 1 0 in lowest (lowest i l) (lowest i n) ≡ lowest (lowest i l) n)
unfolding lowest
twice true l n = rw (one_lowest l) (one_lowest (lowest 1 n) ∙ sym (one_lowest n))
twice false l n = refl

module _ (layers cached : ℕ) (m : Memory) (fit : Fits layers cached m) where
  abbrev a : Areas
  a = areas_of m

  abbrev f : Focus
  f = focus_of m

  abbrev e : Egui.Memory
  e = meaning_of m

  -- what is to be shown of a call that is not refused
  abbrev Takes : Memory → Egui.Memory → Type 0
  Takes after next = Fits layers cached after × (meaning_of after ≡ next)

  -- and of every call
  abbrev pub Steps : Call → Done → Type 0
  Steps call d =
      (d.refusal ≡ refusal_of layers cached call e)
      × Takes d.memory (egui_step layers cached call e)

  stepped : (call : Call) (r : ℕ) (after : Memory) → r ≡ refusal_of layers cached call e → (r ≡ 0 → Takes after (egui_call call e)) → Steps call (done_with r m after)
  stepped call r after same takes = let (t, n) = go r takes in (same, (t, n ∙ ap (λ (k : ℕ). kept k e (egui_call call e)) same))
    where
      go : (k : ℕ) → (k ≡ 0 → Takes after (egui_call call e))
          → Takes (kept k m after) (kept k e (egui_call call e))
      go zero takes = takes refl
      go (suc k) takes = (fit, refl)

  -- ---- the focus
  abbrev refused_by : Focus.Call → ℕ
  refused_by call = (Focus.done_by call f).refusal

  abbrev left : Focus.Call → Focus
  left call = (Focus.done_by call f).focus

  cache_fits : (call : Focus.Call) → refused_by call ≡ 0 → CacheFits cached (left call)
  cache_fits call h = record {
    room = (taken f call h).0 ∙ fit.1.room;
    distinct = done_distinct f fit.1.distinct call;
  }

  on_focus : (call : Focus.Call) → refused_by call ≡ 0
      → Takes (with_focus m (left call)) (Egui.with_focus e (Focus.egui_call call e.focus))
  on_focus call h =
      let means = ap (λ (g : EguiFocus.Focus). Egui.with_focus e g) (taken f call h).1 in
      ((fit.0, cache_fits call h), means)

  interrupting : (call : Focus.Call) → refused_by call ≡ 0
      → Takes (with_ime (with_focus m (left call)) true)
      (Egui.interrupt_ime (Egui.with_focus e (Focus.egui_call call e.focus)))
  interrupting call h = let (fits, means) = on_focus call h in (fits, ap Egui.interrupt_ime means)

  -- ---- interest: what is let through, and what is turned away
  module _ (id : ℕ) (layer : LayerId) where
    abbrev full_in : Bool → ℕ
    full_in b = cond b (cond (ltb cached (length (enlisted (held_of f) id))) full notRefused) notRefused

    interest_refusal_lem : (b : Bool) → lowest (lowest (id_refusal id) (layer_refusal layer)) (cond b (refused_by (Focus.Interest id)) notRefused) ≡ lowest (lowest (id_refusal id) (layer_refusal layer)) (full_in b)
    interest_refusal_lem true =
        ap (λ (n : ℕ). lowest (lowest (id_refusal id) (layer_refusal layer)) n)
        (refused f (Focus.Interest id))
        ∙ rw fit.1.room (twice (eqb id 0) (layer_refusal layer) (full_in true))
    interest_refusal_lem false = refl

    interest_takes : (b : Bool) → ◌≡◌ {A = ℕ} (cond b (refused_by (Focus.Interest id)) notRefused) 0 → Takes (cond b (with_focus m (left (Focus.Interest id))) m) (cond (not b) e (Egui.with_focus e (EguiFocus.interested_in_focus e.focus id)))
    interest_takes true h = on_focus (Focus.Interest id) h
    interest_takes false h = (fit, refl)

    interest_step : Steps (Interest id layer) (interested_of m id layer)
    unfolding interested_of
    interest_step = stepped (Interest id layer) _ _ (interest_refusal_lem (is_allowed m layer) ∙ ap (λ (b : Bool). lowest (lowest (id_refusal id) (layer_refusal layer)) (full_in b)) same) (λ h.
        let (p, q) = both_none (lowest (id_refusal id) (layer_refusal layer)) (cond (is_allowed m layer) (refused_by (Focus.Interest id)) notRefused) h in
        let (t, n) = interest_takes (is_allowed m layer) q in
        (t, n ∙ ap (λ (b : Bool). cond (not b) e (Egui.with_focus e (EguiFocus.interested_in_focus e.focus id))) same))
      where
        same : is_allowed m layer ≡ Egui.allows_interaction e layer
        same = allowed_means m fit.0.stack layer

  -- ---- set_modal_layer
  modal_takes : (layer : LayerId) (b : Bool) → refused_by (Focus.SetModalLayer layer) ≡ 0 → Takes (cond b m (with_focus m (left (Focus.SetModalLayer layer)))) (cond b e (Egui.with_focus e (EguiFocus.set_modal_layer e.focus layer)))
  modal_takes layer true h = (fit, refl)
  modal_takes layer false h = on_focus (Focus.SetModalLayer layer) h

  modal_step : (layer : LayerId) → Steps (SetModalLayer layer) (modal_set m layer)
  unfolding modal_set
  modal_step layer = stepped (SetModalLayer layer) _ _ refl (λ h.
      let (t, n) = modal_takes layer (stays_modal m layer) (refused f (Focus.SetModalLayer layer) ∙ h) in
      let next = Egui.with_focus e (EguiFocus.set_modal_layer e.focus layer) in
      (t, n ∙ ap (λ (b : Bool). cond b e next) (stays_means m fit.0.stack layer)))

  -- ---- the areas
  on_areas : (after : Areas) (next : EguiAreas.Areas) (r : ℕ)
      → Leaves layers after (kept r e.areas next) → r ≡ 0
      → Takes (with_areas m after) (Egui.with_areas e next)
  on_areas after next r (fits, means) h =
      let same = means ∙ ap (λ (k : ℕ). kept k e.areas next) h in
      ((fits, fit.1), ap (λ (b : EguiAreas.Areas). Egui.with_areas e b) same)

  state_steps : (layer : LayerId) (state : AreaState) → Steps (SetState layer state) (with_stack m (state_set a layer state))
  unfolding state_set
  state_steps layer state =
      let same = state_refusal_lem layers a fit.0 layer state in
      let leaves = state_step layers a fit.0 layer state in
      stepped (SetState layer state) _ _ same (λ h. on_areas _ _ _ leaves (sym same ∙ h))

  top_steps : (layer : LayerId) → Steps (MoveToTop layer) (with_stack m (to_top_of a layer))
  unfolding to_top_of
  top_steps layer =
      let same = top_refusal_lem layers a fit.0 layer in
      let leaves = top_step layers a fit.0 layer in
      stepped (MoveToTop layer) _ _ same (λ h. on_areas _ _ _ leaves (sym same ∙ h))

  sub_steps : (parent child : LayerId) → Steps (SetSublayer parent child) (with_stack m (sublayer_set a parent child))
  unfolding sublayer_set
  sub_steps parent child =
      let same = sub_refusal layers a fit.0 parent child in
      let leaves = sub_step layers a fit.0 parent child in
      stepped (SetSublayer parent child) _ _ same (λ h. on_areas _ _ _ leaves (sym same ∙ h))

  emptied_leaves : Leaves layers (emptied a) EguiAreas.empty
  emptied_leaves =
      let (room, blank) = in_place layers a fit.0.room in
      (blank_fits (emptied a) blank layers room, blank_means (emptied a) blank)

  -- ---- begin and end
  begun_fits : (events : List Event) → (begun_with f events).refusal ≡ 0
      → CacheFits cached (begun_with f events).focus
  begun_fits events h = record {
    room = (begun_leaves f events h).0 ∙ fit.1.room;
    distinct = fit.1.distinct;
  }

  begin_step : (events : List Event) → Steps (Begin events) (begun_of m events)
  unfolding begun_of
  begin_step events = stepped (Begin events) _ _ (begun_refusal f events) (λ h.
      let p = (begun_leaves f events h).1 in
      let begun = λ (g : EguiFocus.Focus). Egui.with_focus (Egui.with_ime e false) g in
      ((fit.0, begun_fits events h), ap begun p))

  ended_fits : (used : List Candidate) → (ended_with f used).refusal ≡ 0
      → CacheFits cached (ended_with f used).focus
  ended_fits used h = record {
    room = (ended_leaves f used h).0 ∙ fit.1.room;
    distinct = rw (ended_held f used h) (ended_distinct f.nav (held_of f) used fit.1.distinct);
  }

  end_steps : (used : List Candidate) → Steps (End used) (ended_of m used)
  unfolding ended_of
  end_steps used = stepped (End used) _ _ (ended_refusal f used) (λ h.
      let (s, q) = end_step layers a fit.0 in
      let p = (ended_leaves f used h).1 in
      let k = ended_means (popup_of m) in
      let next = λ (b : EguiAreas.Areas). Egui.with_areas e b in
      ((s, ended_fits used h), λ i. Egui.with_popup (Egui.with_focus (next (q i)) (p i)) (k i)))

  -- ---- the popup
  abbrev with_popups : Option Egui.OpenPopup → Egui.Memory
  with_popups p = Egui.with_popup e p

  keep_step : (id : ℕ) → Steps (KeepPopupOpen id) (popup_kept m id)
  unfolding popup_kept
  keep_step id = stepped (KeepPopupOpen id) _ _ refl (λ h. go (eqb (popup_of m).id id) (keep_means (popup_of m) id))
    where
      go : (b : Bool) → popup_meaning (cond b (kept_open (popup_of m)) (popup_of m)) ≡ Egui.kept_open e.popup id → Takes (cond b (with_popup m (kept_open (popup_of m))) m) (Egui.keep_popup_open e id)
      go true p = (fit, ap with_popups p)
      go false p = (fit, ap with_popups p)

  open_means : (id : ℕ) → id_refusal id ≡ 0 → is_popup_open m id ≡ Egui.is_popup_open e id
  unfolding is_popup_open
  open_means id h = ap (λ (b : Bool). b || m.everything_is_visible) (same_means (popup_of m) id (id_taken id h))

  close_step : (id : ℕ) → Steps (ClosePopup id) (closed m id)
  unfolding closed
  close_step id = stepped (ClosePopup id) _ _ refl (λ h.
      let (t, n) = go (is_popup_open m id) in
      (t, n ∙ ap (λ (b : Bool). cond b (Egui.close_all_popups e) e) (open_means id h)))
    where
      go : (b : Bool) → Takes (cond b (all_closed m) m) (cond b (Egui.close_all_popups e) e)
      go true = (fit, refl)
      go false = (fit, refl)

  toggle_step : (id : ℕ) → Steps (TogglePopup id) (toggled m id)
  unfolding toggled
  toggle_step id = stepped (TogglePopup id) _ _ refl (λ h.
      let (t, n) = go h (is_popup_open m id) in
      (t, n ∙ ap (λ (b : Bool). cond b (cond b (Egui.close_all_popups e) e) (Egui.open_popup e id)) (open_means id h)))
    where
      go : id_refusal id ≡ 0 → (b : Bool) → Takes (cond b (all_closed m) (with_popup m (popup_at id None))) (cond b (cond b (Egui.close_all_popups e) e) (Egui.open_popup e id))
      go h true = (fit, refl)
      go h false = (fit, ap with_popups (opened_means id (id_taken id h) None))

  -- ---- every call
  pub step : (call : Call) → Steps call (done_by call m)
  unfolding done_by filter_set requested requested_next surrendered ignored_of moved text_stopped
  step (Begin events) = begin_step events
  step (Interest id layer) = interest_step id layer
  step (End used) = end_steps used
  step (SetFocusLockFilter id filter) = stepped (SetFocusLockFilter id filter) _ _ (refused f (Focus.SetFocusLockFilter id filter)) (on_focus (Focus.SetFocusLockFilter id filter))
  step (RequestFocus id) = stepped (RequestFocus id) _ _ (refused f (Focus.RequestFocus id)) (interrupting (Focus.RequestFocus id))
  step (RequestFocusNextFrame id) = stepped (RequestFocusNextFrame id) _ _ (refused f (Focus.RequestFocusNextFrame id)) (interrupting (Focus.RequestFocusNextFrame id))
  step (SurrenderFocus id) = stepped (SurrenderFocus id) _ _ (refused f (Focus.SurrenderFocus id)) (on_focus (Focus.SurrenderFocus id))
  step (IgnoreFocus id) = stepped (IgnoreFocus id) _ _ (refused f (Focus.IgnoreFocus id)) (on_focus (Focus.IgnoreFocus id))
  step (MoveFocus direction) = stepped (MoveFocus direction) _ _ (refused f (Focus.MoveFocus direction)) (on_focus (Focus.MoveFocus direction))
  step (SetModalLayer layer) = modal_step layer
  step StopTextInput =
      (refl, ((fit.0, record { room = fit.1.room; distinct = fit.1.distinct }), refl))
  step ResetAreas =
      let (fits, means) = emptied_leaves in
      (refl, ((fits, fit.1), ap (λ (b : EguiAreas.Areas). Egui.with_areas e b) means))
  step InterruptIme = (refl, (fit, refl))
  step (OpenPopupAt id pos) = stepped (OpenPopupAt id pos) _ _ refl (λ h. (fit, ap with_popups (opened_means id (id_taken id h) pos)))
  step (KeepPopupOpen id) = keep_step id
  step (ClosePopup id) = close_step id
  step (TogglePopup id) = toggle_step id
  step CloseAllPopups = (refl, (fit, refl))
  step (SetEverythingIsVisible all) = (refl, (fit, refl))
  step (SetState layer state) = state_steps layer state
  step (MoveToTop layer) = top_steps layer
  step (SetSublayer parent child) = sub_steps parent child
