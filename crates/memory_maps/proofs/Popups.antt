-- What the numbers of the popup say in egui's terms, test by test and call by call. Assumes nothing.
use Rattle.std.specs.Prelude.{◌≡◌, ℕ, Bool, true, false, cond, not, eqb}
use mathlib.Core.Path.{refl, sym, ap, ◌∙◌}
use Rattle.std.specs.Prelude.{Option, None, Some}
use Rattle.emath.specs.declared.Pos2.{Pos2}
use borrow.Author.Tests.{eqb-true, eqb-false, ne_eqb}
use Rattle.memory_rules.specs.declared.Popup.{Popup}
use Rattle.memory_rules.specs.State.{no_popup}
use Rattle.memory_rules.specs.Memory.{popup_ended, popup_at, kept_open, position_in}
use Rattle.memory_maps.specs.Egui as Egui
use Rattle.memory_maps.specs.Calls.{popup_meaning}

module _ (p : Popup) where
  -- the popup, where there is one
  abbrev it : Egui.OpenPopup
  it = record { id = p.id; pos = p.pos; open_this_frame = p.open_this_frame }

  -- ---- the tests
  pub some_means : not (eqb p.id 0) ≡ Egui.is_some (popup_meaning p)
  some_means = go (eqb p.id 0)
    where
      go : (b : Bool) → not b ≡ Egui.is_some (cond b None (Some it))
      go true = refl
      go false = refl

  pub same_means : (id : ℕ) → eqb id 0 ≡ false → eqb p.id id ≡ Egui.is_some_and_id (popup_meaning p) id
  same_means id h = go (eqb p.id 0) refl
    where
      go : (b : Bool) → eqb p.id 0 ≡ b → eqb p.id id ≡ Egui.is_some_and_id (cond b None (Some it)) id
      go true e = ne_eqb p.id id (λ q. eqb-false id 0 h (sym q ∙ eqb-true p.id 0 e))
      go false e = refl

  pub position_means : (id : ℕ) → eqb id 0 ≡ false → position_in p id ≡ Egui.position_in (popup_meaning p) id
  position_means id h = go (eqb p.id 0) refl
    where
      go : (b : Bool) → eqb p.id 0 ≡ b → position_in p id ≡ Egui.position_in (cond b None (Some it)) id
      go true e = ap (λ (s : Bool). cond s p.pos None) (ne_eqb p.id id (λ q. eqb-false id 0 h (sym q ∙ eqb-true p.id 0 e)))
      go false e = refl

  -- ---- the calls
  pub ended_means : popup_meaning (popup_ended p) ≡ Egui.cleaned_up (popup_meaning p)
  ended_means = go p.open_this_frame (eqb p.id 0) refl refl
    where
      go : (s b : Bool) → p.open_this_frame ≡ s → eqb p.id 0 ≡ b → popup_meaning (cond s (record { id = p.id; pos = p.pos; open_this_frame = false }) no_popup) ≡ Egui.cleaned_up (cond b None (Some it))
      go true true d e = rw e
      go true false d e = rw (d, e)
      go false true d e = refl
      go false false d e = rw d

  pub keep_means : (id : ℕ) → popup_meaning (cond (eqb p.id id) (kept_open p) p) ≡ Egui.kept_open (popup_meaning p) id
  keep_means id = go (eqb p.id id) (eqb p.id 0) refl refl
    where
      go : (s b : Bool) → eqb p.id id ≡ s → eqb p.id 0 ≡ b → popup_meaning (cond s (kept_open p) p) ≡ Egui.kept_open (cond b None (Some it)) id
      go true true d e = rw e
      go true false d e = rw (d, e)
      go false true d e = rw e
      go false false d e = rw (d, e)

pub opened_means : (id : ℕ) → eqb id 0 ≡ false → (pos : Option Pos2) → popup_meaning (popup_at id pos) ≡ Some (Egui.new_popup id pos)
opened_means id h pos = rw h
