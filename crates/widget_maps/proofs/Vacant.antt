-- An id that egui does not hold it does not hold after the insert of another one either. Assumes nothing.
use mathlib.Core.Path.{◌≡◌, refl, ap, ◌∙◌}
use Prim.Native.Nat.{ℕ, suc}
use mathlib.Core.Bool.{Bool, true, false, cond}
use mathlib.Core.List.{List, [], ◌∷◌}
use lib.Dec.{eqb}
use borrow.Author.Tests.{ne_eqb}
use Rattle.layers.specs.declared.LayerId.{LayerId}
use Rattle.layers.specs.Layers.{is_layer}
use Rattle.widget_rect.specs.declared.WidgetRect.{WidgetRect}
use Rattle.std.specs.Prelude.{Option, None}
use Rattle.widget_maps.specs.Egui.{WidgetRects, with_entry, new_widget, known_widget}
use Rattle.widget_maps.proofs.Shifted.{placed, shifted_placed}

placed_vacant : (i : ℕ) (ws : List WidgetRect) (x : ℕ) → placed i ws x None ≡ None
unfolding placed
placed_vacant i [] x = refl
placed_vacant i (w ∷ ws) x = ap (placed (suc i) ws x) (go (eqb w.id x) None) ∙ placed_vacant (suc i) ws x
  where
    go : (t : Bool) (e : Option (ℕ × WidgetRect)) → cond t e e ≡ e
    go true e = refl
    go false e = refl

module _ (m : WidgetRects) (layer : LayerId) (new : WidgetRect) (x : ℕ) (other : new.id ≡ x → ⊥) (vacant : m.by_id x ≡ None) where
  put_vacant : (e : Option (ℕ × WidgetRect)) → with_entry m.by_id new.id e x ≡ None
  put_vacant e = rw (ne_eqb new.id x other) vacant

  pub new_vacant : (new_widget m layer new).by_id x ≡ None
  unfolding new_widget
  new_vacant = put_vacant _

  pub known_vacant : (top : Bool) (idx : ℕ) (w : WidgetRect) → (known_widget m layer new top idx w).by_id x ≡ None
  unfolding known_widget
  known_vacant top idx w = go (is_layer w.layer_id new.layer_id) top _ _ _ (shifted_placed _ _ _ x ∙ ap (placed _ _ x) (put_vacant _) ∙ placed_vacant _ _ x) (put_vacant _) (put_vacant _)
    where
      go : (b top : Bool) (p q r : WidgetRects) → p.by_id x ≡ None → q.by_id x ≡ None → r.by_id x ≡ None → (cond b (cond top p q) r).by_id x ≡ None
      go true true p q r e f g = e
      go true false p q r e f g = f
      go false top p q r e f g = g
