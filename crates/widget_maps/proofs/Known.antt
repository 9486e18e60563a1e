-- A row whose records change in place is egui's known widget that is not moved. Assumes nothing.
use mathlib.Core.Path.{◌≡◌, refl, sym, ap, subst, ◌∙◌}
use Prim.Native.Nat.{ℕ, ◌+◌}
use mathlib.Core.Bool.{Bool, true, false, cond}
use mathlib.Core.List.{List, ◌∷◌, ◌++◌}
use lib.Dec.{eqb}
use lib.ListN.{length, set, length-append}
use lib.Seq.{set_at}
use Rattle.layers.specs.declared.LayerId.{LayerId}
use Rattle.layers.specs.Layers.{is_layer}
use Rattle.widget_rect.specs.declared.WidgetRect.{WidgetRect}
use Rattle.std.specs.Prelude.{Option, Some}
use Rattle.widget_maps.specs.Egui.{WidgetRects, with_list, with_entry, known_widget}
use Rattle.widget_maps.proofs.Row.{Row, with_held, with_listed}
use Rattle.widget_maps.proofs.Meaning.{entry_rows, list_rows, Means, next_place, InOrder, Sound}
use Rattle.widget_maps.proofs.Laws.{same_layers_lem, entry_at, one_more_lem, one_less_lem, list_append, in_order_with, stands, none_before}

-- ---- a row r of rows and what egui has
module _ (rows : List Row) (m : WidgetRects) (pre : List Row) (r : Row) (post : List Row) (law : rows ≡ pre ++ r ∷ post) (s : Sound rows) (means : Means rows m) where
  pub sound : Sound (pre ++ r ∷ post)
  sound = subst Sound law s

  pub list_of : (k : LayerId) → m.by_layer k ≡ list_rows pre k ++ cond (is_layer r.held.layer_id k) (r.listed ∷ list_rows post k) (list_rows post k)
  unfolding Means list_rows
  list_of k = sym (means.1 k) ∙ ap (λ (l : List Row). list_rows l k) law ∙ list_append pre (r ∷ post) k

  pub entry_of : (x : ℕ) → m.by_id x ≡ cond (eqb r.held.id x) (Some (r.index, r.held)) (entry_rows (pre ++ post) x)
  unfolding Means
  entry_of x = sym (means.0 x) ∙ ap (λ (l : List Row). entry_rows l x) law ∙ entry_at pre r post (none_before pre r post sound) x

  -- the row with other records: w held by its id, v in the list
  replaced : (w v : WidgetRect) → w.id ≡ r.held.id → w.layer_id ≡ r.held.layer_id → v.id ≡ r.held.id → v.layer_id ≡ r.held.layer_id → (id : ℕ) → id ≡ r.held.id
      → (lists : LayerId → List WidgetRect) → ((k : LayerId) → list_rows pre k ++ cond (is_layer r.held.layer_id k) (v ∷ list_rows post k) (list_rows post k) ≡ lists k)
      → Sound (pre ++ record { index = r.index; held = w; listed = v } ∷ post)
      × Means (pre ++ record { index = r.index; held = w; listed = v } ∷ post) (record { by_layer = lists; by_id = with_entry m.by_id id (Some (r.index, w)); len = m.len })
  unfolding Means InOrder list_rows
  replaced w v w-id w-layer v-id v-layer id new-id lists f =
      let d = one_less_lem pre r post sound.distinct in (
        record { distinct = one_more_lem pre r' post (rw w-id d.0) d.1; in_order = λ l. in_order_with l pre (r ∷ post) (r' ∷ post) 0 (order l) (sound.in_order l) },
        (
          entries,
          (λ k. list_append pre (r' ∷ post) k ∙ ap (λ (l : LayerId). list_rows pre k ++ cond (is_layer l k) (v ∷ list_rows post k) (list_rows post k)) w-layer ∙ f k),
          simp length-append (simp length-append at (ap length (sym law) ∙ means.2)),
        ),
      )
    where
      r' : Row
      r' = record { index = r.index; held = w; listed = v }

      order : (l : LayerId) (j : ℕ) → j ≡ 0 + length (list_rows pre l) → InOrder l j (r ∷ post) → InOrder l j (r' ∷ post)
      order l j e o = (
        λ t. record { place = (o.0 (ap (λ (k : LayerId). is_layer k l) (sym w-layer) ∙ t)).place; same_id = v-id ∙ sym w-id; same_layer = v-layer ∙ sym w-layer },
        subst (λ (k : LayerId). InOrder l (next_place k l j) post) (sym w-layer) o.1,
      )

      twice : (t : Bool) (e : Option (ℕ × WidgetRect)) → cond t (Some (r.index, w)) e ≡ cond t (Some (r.index, w)) (cond t (Some (r.index, r.held)) e)
      twice true e = refl
      twice false e = refl

      entries : (x : ℕ) → entry_rows (pre ++ r' ∷ post) x ≡ with_entry m.by_id id (Some (r.index, w)) x
      entries x =
          entry_at pre r' post (rw w-id (none_before pre r post sound)) x
          ∙ ap (λ (i : ℕ). cond (eqb i x) (Some (r.index, w)) (entry_rows (pre ++ post) x)) (w-id ∙ sym new-id)
          ∙ twice (eqb id x) (entry_rows (pre ++ post) x)
          ∙ ap (cond (eqb id x) (Some (r.index, w))) (rw new-id (sym (entry_of x)))

-- ---- of the rows before it, itself and the rows after it; w is the joined record, new the call's
module _ (rows : List Row) (m : WidgetRects) (layer : LayerId) (w new : WidgetRect) (pre : List Row) (r : Row) (post : List Row) (law : rows ≡ pre ++ r ∷ post) (s : Sound rows) (means : Means rows m)
    (w-id : w.id ≡ r.held.id) (w-layer : w.layer_id ≡ r.held.layer_id) (new-id : new.id ≡ r.held.id) (new-layer : layer ≡ new.layer_id) where
  pub joined_only : (top : Bool) → is_layer w.layer_id new.layer_id ≡ false → Sound (pre ++ with_held r w ∷ post) × Means (pre ++ with_held r w ∷ post) (known_widget m layer new top r.index w)
  unfolding known_widget
  joined_only top other =
      let a = stands pre r post (sound rows m pre r post law s means) in
      rw other (replaced rows m pre r post law s means w r.listed w-id w-layer a.same_id a.same_layer new.id new-id m.by_layer (λ k. sym (list_of rows m pre r post law s means k)))

  pub put_in_place : is_layer w.layer_id new.layer_id ≡ true
      → Sound (pre ++ with_listed (with_held r w) w ∷ post) × Means (pre ++ with_listed (with_held r w) w ∷ post) (known_widget m layer new false r.index w)
  unfolding known_widget
  put_in_place one = rw one (replaced rows m pre r post law s means w w w-id w-layer w-id w-layer new.id new-id (with_list m.by_layer layer (set (m.by_layer layer) r.index w)) lists)
    where
      here : layer ≡ r.held.layer_id
      here = new-layer ∙ sym (same_layers_lem w.layer_id new.layer_id one) ∙ w-layer

      go : (k : LayerId) (t : Bool) → (t ≡ true → r.held.layer_id ≡ k) → m.by_layer k ≡ list_rows pre k ++ cond t (r.listed ∷ list_rows post k) (list_rows post k)
          → list_rows pre k ++ cond t (w ∷ list_rows post k) (list_rows post k) ≡ cond t (set (m.by_layer r.held.layer_id) r.index w) (m.by_layer k)
      go k true f h =
          sym (ap (λ (ws : List WidgetRect). set ws r.index w) (ap m.by_layer (f refl) ∙ h)
          ∙ set_at (list_rows pre k) r.listed (list_rows post k) w r.index (ap (λ (l : LayerId). length (list_rows pre l)) (sym (f refl)) ∙ sym (stands pre r post (sound rows m pre r post law s means)).place))
      go k false f h = sym h

      lists : (k : LayerId) → list_rows pre k ++ cond (is_layer r.held.layer_id k) (w ∷ list_rows post k) (list_rows post k) ≡ with_list m.by_layer layer (set (m.by_layer layer) r.index w) k
      lists k = rw here (go k (is_layer r.held.layer_id k) (same_layers_lem r.held.layer_id k) (list_of rows m pre r post law s means k))
