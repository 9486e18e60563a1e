-- What is shown of a known widget, with its row given by its place among the rows. Assumes nothing.
use mathlib.Core.Path.{◌≡◌, ap}
use Prim.Native.Nat.{ℕ, suc, ◌<◌}
use native.Mathlib.Omega.{arith}
use mathlib.Core.Bool.{Bool, true, false}
use mathlib.Core.List.{List, ◌∷◌, ◌++◌}
use lib.ListN.{length, take, drop, set, length-append, length-take, length-drop}
use lib.Seq.{set_split}
use Rattle.layers.specs.declared.LayerId.{LayerId}
use Rattle.layers.specs.Layers.{is_layer}
use Rattle.widget_rect.specs.declared.WidgetRect.{WidgetRect}
use Rattle.widget_maps.specs.Egui.{WidgetRects, known_widget}
use Rattle.widget_maps.proofs.Row.{Row, with_held, with_listed}
use Rattle.widget_maps.proofs.Meaning.{Means, Sound}
use Rattle.widget_maps.proofs.Pushed.{pushed_on}
use Rattle.widget_maps.proofs.Known.{joined_only, put_in_place}
use Rattle.widget_maps.proofs.Moved.{without, moved}

-- w is the joined record, new the call's
module _ (rows : List Row) (m : WidgetRects) (layer : LayerId) (w new : WidgetRect) (k : ℕ) (r : Row) (law : rows ≡ take k rows ++ r ∷ drop (suc k) rows) (s : Sound rows) (means : Means rows m)
    (w-id : w.id ≡ r.held.id) (w-layer : w.layer_id ≡ r.held.layer_id) (new-id : new.id ≡ r.held.id) (new-layer : layer ≡ new.layer_id) where
  below : k < length rows
  below = omega (arith, simp (length-append, length-take, length-drop) at (ap length law))

  pub joined_only_at : (top : Bool) → is_layer w.layer_id new.layer_id ≡ false → Sound (set rows k (with_held r w)) × Means (set rows k (with_held r w)) (known_widget m layer new top r.index w)
  joined_only_at top other = rw (set_split rows k (with_held r w) below) (joined_only rows m layer w new (take k rows) r (drop (suc k) rows) law s means w-id w-layer new-id new-layer top other)

  pub put_in_place_at : is_layer w.layer_id new.layer_id ≡ true
      → Sound (set rows k (with_listed (with_held r w) w)) × Means (set rows k (with_listed (with_held r w) w)) (known_widget m layer new false r.index w)
  put_in_place_at one = rw (set_split rows k (with_listed (with_held r w) w) below) (put_in_place rows m layer w new (take k rows) r (drop (suc k) rows) law s means w-id w-layer new-id new-layer one)

  pub moved_at : is_layer w.layer_id new.layer_id ≡ true → length rows < 18446744073709551615
      → Sound (pushed_on (without w.layer_id (take k rows) (drop (suc k) rows)) w) × Means (pushed_on (without w.layer_id (take k rows) (drop (suc k) rows)) w) (known_widget m layer new true r.index w)
  moved_at = moved rows m layer w new (take k rows) r (drop (suc k) rows) law s means w-id w-layer new-id new-layer
