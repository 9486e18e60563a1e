-- No rows mean a registry that is cleared, and a row after sound ones is egui's new widget. Assumes nothing.
use mathlib.Core.Path.{◌≡◌, refl, sym, ap, ◌∙◌}
use Prim.Native.Nat.{ℕ, ◌+◌, ◌<◌}
use native.Mathlib.Nat.{zero-add}
use native.Mathlib.Omega.{arith}
use mathlib.Core.Bool.{Bool, true, false, cond}
use mathlib.Core.List.{List, [], ◌∷◌, ◌++◌, append-nil}
use lib.Dec.{eqb}
use lib.ListN.{length, length-append}
use Rattle.layers.specs.declared.LayerId.{LayerId}
use Rattle.layers.specs.Layers.{is_layer}
use Rattle.widget_rect.specs.declared.WidgetRect.{WidgetRect}
use Rattle.std.specs.Prelude.{None, Some}
use Rattle.widget_maps.specs.Egui.{WidgetRects, new_widget, cleared}
use Rattle.widget_maps.proofs.Row.{Row, new_row, next_from}
use Rattle.widget_maps.proofs.Meaning.{entry_rows, list_rows, Means, times, InOrder, Sound}
use Rattle.widget_maps.proofs.Laws.{same_layers_lem, vacant_times, entry_at, one_more_lem, list_append, in_order_with, next_is}

pub empty : Sound [] × Means [] cleared
unfolding Means cleared entry_rows list_rows times InOrder
empty = (record { distinct = λ id. omega arith; in_order = λ layer. tt }, (λ id. refl, λ layer. refl, refl))

-- a widget after rows, at the next place of its layer
abbrev row_on : List Row → WidgetRect → Row
row_on rows w = new_row (next_from 0 rows w.layer_id) w

abbrev pub pushed_on : List Row → WidgetRect → List Row
pushed_on rows w = rows ++ row_on rows w ∷ []

module _ (rows : List Row) (m : WidgetRects) (layer : LayerId) (w : WidgetRect) (s : Sound rows) (means : Means rows m) (fresh : entry_rows rows w.id ≡ None)
    (l : layer ≡ w.layer_id) (room : length rows < 18446744073709551615) where
  next : next_from 0 rows w.layer_id ≡ length (list_rows rows w.layer_id)
  next = next_is w.layer_id rows 0 (omega arith) (s.in_order w.layer_id) ∙ zero-add _

  sound : Sound (pushed_on rows w)
  unfolding InOrder
  sound = record {
    distinct = one_more_lem rows (row_on rows w) [] (rw append-nil (vacant_times rows w.id fresh)) (rw append-nil s.distinct);
    in_order = λ k. in_order_with k rows [] (row_on rows w ∷ []) 0 (λ j e o. (λ t. record { place = place k j t e; same_id = refl; same_layer = refl }, tt)) (rw append-nil (s.in_order k));
  }
    where
      place : (k : LayerId) (j : ℕ) → is_layer w.layer_id k ≡ true → j ≡ 0 + length (list_rows rows k) → next_from 0 rows w.layer_id ≡ j
      place k j t e = next ∙ ap (λ (k : LayerId). length (list_rows rows k)) (same_layers_lem w.layer_id k t) ∙ omega arith

  pub pushed : Sound (pushed_on rows w) × Means (pushed_on rows w) (new_widget m layer w)
  unfolding Means new_widget entry_rows list_rows
  pushed = (sound, (ids, lists, simp length-append (omega (arith, means.2))))
    where
      place : next_from 0 rows w.layer_id ≡ length (m.by_layer layer)
      place = next ∙ ap (λ (k : LayerId). length (list_rows rows k)) (sym l) ∙ ap length (means.1 layer)

      ids : (x : ℕ) → entry_rows (pushed_on rows w) x ≡ (new_widget m layer w).by_id x
      ids x = entry_at rows (row_on rows w) [] (vacant_times rows w.id fresh) x ∙ (λ i. cond (eqb w.id x) (Some (place i, w)) ((ap (λ (k : List Row). entry_rows k x) (append-nil rows) ∙ means.0 x) i))

      go : (k : LayerId) (t : Bool) → (t ≡ true → w.layer_id ≡ k) → list_rows rows k ++ cond t (w ∷ []) [] ≡ cond t (m.by_layer w.layer_id ++ w ∷ []) (m.by_layer k)
      go k true f = ap (λ (ws : List WidgetRect). ws ++ w ∷ []) (means.1 k ∙ ap m.by_layer (sym (f refl)))
      go k false f = append-nil (list_rows rows k) ∙ means.1 k

      lists : (k : LayerId) → list_rows (pushed_on rows w) k ≡ (new_widget m layer w).by_layer k
      lists k = list_append rows (row_on rows w ∷ []) k ∙ rw l (go k (is_layer w.layer_id k) (same_layers_lem w.layer_id k))
