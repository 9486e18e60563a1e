-- What the numbers of the record say in egui's options, test by test, the calls that only change such fields, and the queries. Assumes nothing.
use mathlib.Core.Path.{◌≡◌, refl, sym, ap, ◌∙◌}
use mathlib.Core.Bool.{Bool, true, false, cond, not, ◌&&◌}
use mathlib.Core.List.{List}
use Rattle.std.specs.Prelude.{Option, None, Some}
use Prim.Native.Nat.{ℕ}
use native.Mathlib.Omega.{arith}
use lib.Dec.{eqb}
use borrow.Author.Tests.{eqb-true, eqb-false, ne_eqb}
use Rattle.refusal.specs.Refusal.{zero_id, answer, id_refusal, code_refusal}
use Rattle.refusal.specs.Refusal.{none as notRefused}
use Rattle.refusal.specs.Limits.{last_order}
use Rattle.refusal.proofs.Laws.{both_none}
use Rattle.input.specs.declared.EventFilter.{EventFilter}
use Rattle.input.specs.FocusDirection.{previous, next}
use Rattle.layers.specs.declared.LayerId.{LayerId}
use Rattle.layers.specs.Layers.{layer_refusal}
use Rattle.search.specs.declared.Candidate.{Candidate}
use Rattle.focus_rules.specs.declared.Nav.{Nav}
use Rattle.focus_rules.specs.declared.FocusWidget.{FocusWidget}
use Rattle.focus_rules.specs.Rules.{id_or_nothing, focused_widget, focus_on, with_focus, with_next, with_modals, is_idle, ruled, interested_of, let_go, filtered_of}
use Rattle.focus_cache.specs.Cache.{enlisted, without}
use Rattle.focus_maps.specs.Egui as Egui
use Rattle.focus_maps.specs.Calls.{option_of, meaning}

-- ---- what a refusal that is none says
pub id_taken : (id : ℕ) → id_refusal id ≡ 0 → eqb id 0 ≡ false
id_taken id e = go (eqb id 0) e
  where
    go : (t : Bool) → ◌≡◌ {A = ℕ} (cond t 1 0) 0 → t ≡ false
    go true h = absurd (omega arith)
    go false h = refl

pub layer_taken : (l : LayerId) → layer_refusal l ≡ 0 → eqb l.id 0 ≡ false
unfolding layer_refusal
layer_taken l e = id_taken l.id (both_none (id_refusal l.id) (code_refusal l.order last_order) e).0

-- ---- the tests
module _ (n : Nav) where
  pub focused_means : Egui.id_of (focused_widget n) ≡ option_of n.focused
  focused_means = go (eqb n.focused 0)
    where
      go : (b : Bool) → Egui.id_of (cond {A = Option FocusWidget} b None (Some (record { id = n.focused; filter = n.filter }))) ≡ cond b None (Some n.focused)
      go true = refl
      go false = refl

  none_means : Egui.is_none (focused_widget n) ≡ eqb n.focused 0
  none_means = go (eqb n.focused 0)
    where
      go : (b : Bool) → Egui.is_none (cond {A = Option FocusWidget} b None (Some (record { id = n.focused; filter = n.filter }))) ≡ b
      go true = refl
      go false = refl

widget_means : (id : ℕ) → Egui.widget_of (option_of id) ≡ cond {A = Option FocusWidget} (eqb id 0) None (Some (Egui.new_widget id))
widget_means id = go (eqb id 0)
  where
    go : (b : Bool) → Egui.widget_of (cond b None (Some id)) ≡ cond {A = Option FocusWidget} b None (Some (Egui.new_widget id))
    go true = refl
    go false = refl

pub is_means : (x id : ℕ) → eqb id 0 ≡ false → Egui.is (option_of x) id ≡ eqb x id
is_means x id h = go (eqb x 0) refl
  where
    go : (b : Bool) → eqb x 0 ≡ b → Egui.is (cond b None (Some x)) id ≡ eqb x id
    go true e = sym (ne_eqb x id (λ p. eqb-false id 0 h (sym p ∙ eqb-true x 0 e)))
    go false e = refl

-- a choice between two, by the record's test and by egui's
pub choose : {b d : Bool} → d ≡ b → (c : List Candidate) (x y : Nav) (u v : Egui.Focus) → meaning x c ≡ u → meaning y c ≡ v → meaning (cond b x y) c ≡ cond d u v
choose {b = true} e c x y u v p q = rw e p
choose {b = false} e c x y u v p q = rw e q

-- ---- the calls about an id
module _ (n : Nav) (c : List Candidate) (id : ℕ) (h : eqb id 0 ≡ false) where
  pub on_means : meaning (focus_on n id) c ≡ Egui.request_focus (meaning n c) id
  on_means = rw h

  held_means : Egui.is (Egui.focused (meaning n c)) id ≡ eqb n.focused id
  held_means = rw (focused_means n) (is_means n.focused id h)

  pub letgo_means : meaning (let_go n id) c ≡ Egui.surrender_focus (meaning n c) id
  unfolding let_go Egui.surrender_focus
  letgo_means = choose held_means c _ _ _ _ refl refl

  idle_means : (d : ℕ) → eqb n.focus_direction d && (Egui.is_none (focused_widget n) && not n.give_to_next) ≡ eqb n.focus_direction d && is_idle n
  idle_means d = ap (λ (b : Bool). eqb n.focus_direction d && (b && not n.give_to_next)) (none_means n)

  ruled_means : meaning (ruled n id) c ≡ Egui.ruled (meaning n c) id
  ruled_means =
      choose (ap (λ (b : Bool). n.give_to_next && not b) (is_means n.id_previous_frame id h)) c _ _ _ _ (ap (λ (m : Egui.Focus). Egui.with_give m false) on_means)
      (choose held_means c _ _ _ _
      (choose {b = eqb n.focus_direction next} refl c _ _ _ _ refl (choose {b = eqb n.focus_direction previous} refl c _ _ _ _ refl refl))
      (choose (idle_means next) c _ _ _ _ (ap Egui.reset_focus on_means)
      (choose (idle_means previous) c _ _ _ _ (ap (λ (w : Option FocusWidget). Egui.reset_focus (Egui.with_widget (meaning n c) w)) (sym (widget_means n.last_interested))) refl)))

  pub next_means : meaning (with_next n id) c ≡ Egui.request_focus_next_frame (meaning n c) id
  next_means = rw h

  -- the focused widget with another filter
  pub filter_means : (filter : EventFilter) → meaning (filtered_of n id filter) c ≡ Egui.set_focus_lock_filter (meaning n c) id filter
  unfolding filtered_of Egui.set_focus_lock_filter
  filter_means filter = rw (is_means n.id_previous_frame id h, held_means) (go (eqb n.id_previous_frame id) (eqb n.focused id) refl)
    where
      go : (p b : Bool) → eqb n.focused id ≡ b → meaning (cond (p && b) (with_focus n n.focused filter) n) c ≡ cond (p && b) (Egui.with_widget (meaning n c) (Some (record { id = id; filter = filter }))) (meaning n c)
      go false b e = refl
      go true false e = refl
      go true true e = rw (eqb-true n.focused id e, h)

-- ---- interest and ignore, with the entries after them
module _ (n : Nav) (c : List Candidate) (id : ℕ) (h : eqb id 0 ≡ false) where
  pub interest_means : meaning (interested_of n id) (enlisted c id) ≡ Egui.interested_in_focus (meaning n c) id
  unfolding interested_of Egui.interested_in_focus
  interest_means = rw h (ap (λ (m : Egui.Focus). Egui.with_last m id) (ruled_means n (enlisted c id) id h))

  pub ignore_means : meaning (let_go n id) (without c id) ≡ Egui.ignore_focus (meaning n c) id
  unfolding Egui.ignore_focus
  ignore_means = letgo_means n (without c id) id h

pub modal_means : (n : Nav) (c : List Candidate) (layer : LayerId) → eqb layer.id 0 ≡ false → meaning (with_modals n n.top_modal_layer layer) c ≡ Egui.set_modal_layer (meaning n c) layer
modal_means n c layer h = rw h

-- ---- the queries
module _ (n : Nav) where
  pub focused_answer : id_or_nothing n.focused ≡ Egui.id_of (focused_widget n)
  focused_answer = sym (focused_means n)

  pub last_answer : (id : ℕ) → answer (id_refusal id) (eqb n.id_previous_frame id) ≡ answer (id_refusal id) (Egui.is (option_of n.id_previous_frame) id)
  last_answer id = go (eqb id 0) refl
    where
      go : (b : Bool) → eqb id 0 ≡ b → answer (cond b zero_id notRefused) (eqb n.id_previous_frame id) ≡ answer (cond b zero_id notRefused) (Egui.is (option_of n.id_previous_frame) id)
      go true e = refl
      go false e = ap (answer notRefused) (sym (is_means n.id_previous_frame id e))
