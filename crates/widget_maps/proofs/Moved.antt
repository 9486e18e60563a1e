-- A row that is taken out and put after the others is egui's known widget that is moved to the top. Assumes nothing.
use mathlib.Core.Path.{◌≡◌, refl, sym, ap, subst, ◌∙◌}
use Prim.Native.Nat.{ℕ, suc, ◌+◌, ◌<◌}
use native.Mathlib.Numerals.{add-one}
use native.Mathlib.Omega.{arith}
use mathlib.Core.Bool.{Bool, true, false, cond}
use mathlib.Core.List.{List, [], ◌∷◌, ◌++◌, map, append_assoc}
use lib.Dec.{eqb}
use lib.ListN.{length, drop, length-append, length-map}
use lib.Seq.{take_at, drop_at, drop-append-add}
use borrow.Author.Tests.{eqb-true}
use Rattle.layers.specs.declared.LayerId.{LayerId}
use Rattle.layers.specs.Layers.{is_layer}
use Rattle.widget_rect.specs.declared.WidgetRect.{WidgetRect}
use Rattle.std.specs.Prelude.{Option, None, Some}
use Rattle.widget_maps.specs.Egui.{WidgetRects, with_entry, with_idx, removed, shifted, new_widget, known_widget}
use Rattle.widget_maps.proofs.Row.{Row, lowered}
use Rattle.widget_maps.proofs.Meaning.{entry_rows, list_rows, Means, times, next_place, InOrder, Sound}
use Rattle.widget_maps.proofs.Laws.{same_layers_lem, layer_itself, counted, counted_times, entry_append, times_append, one_less_lem, list_append, in_order_rest, in_order_with, stands}
use Rattle.widget_maps.proofs.Shifted.{placed, shifted_placed, placed_append, times_lowered, list_lowered, in_order_lowered, entry_lowered}
use Rattle.widget_maps.proofs.Pushed.{pushed_on, pushed}
use Rattle.widget_maps.proofs.Known.{sound, list_of, entry_of}

-- the rows without one of a layer: those of the layer after it stand one place before
abbrev pub without : LayerId → List Row → List Row → List Row
without l pre post = pre ++ map (lowered l) post

meaning_of : List Row → WidgetRects
meaning_of rows = record { by_layer = list_rows rows; by_id = entry_rows rows; len = length rows }

-- w is the joined record, new the call's
module _ (rows : List Row) (m : WidgetRects) (layer : LayerId) (w new : WidgetRect) (pre : List Row) (r : Row) (post : List Row) (law : rows ≡ pre ++ r ∷ post) (s : Sound rows) (means : Means rows m)
    (w-id : w.id ≡ r.held.id) (w-layer : w.layer_id ≡ r.held.layer_id) (new-id : new.id ≡ r.held.id) (new-layer : layer ≡ new.layer_id) where
  abbrev l : LayerId
  l = w.layer_id

  abbrev base : List Row
  base = without l pre post

  good : Sound (pre ++ r ∷ post)
  good = sound rows m pre r post law s means

  -- ---- the rows without r are sound, so that w can be pushed
  base_times : (x : ℕ) → times base x ≡ times (pre ++ post) x
  base_times x = times_append pre (map (lowered l) post) x ∙ ap (◌+◌ (times pre x)) (times_lowered l post x) ∙ sym (times_append pre post x)

  base_sound : Sound base
  unfolding InOrder
  base_sound = record {
    distinct = λ x. rw (base_times x) ((one_less_lem pre r post good.distinct).1 x);
    in_order = λ k. in_order_with k pre (r ∷ post) (map (lowered l) post) 0 (λ j e o. in_order_lowered l k post _ j (ap (λ (a : LayerId). next_place a k j) (sym w-layer)) o.1) (good.in_order k);
  }

  base_fresh : entry_rows base w.id ≡ None
  base_fresh = go (entry_rows base w.id) (omega (arith, counted_times base w.id, base_times w.id, ap (times (pre ++ post)) w-id, (one_less_lem pre r post good.distinct).0))
    where
      go : (e : Option (ℕ × WidgetRect)) → counted e ≡ 0 → e ≡ None
      go None h = refl
      go (Some (i, v)) h = absurd (omega arith)

  base_length : suc (length base) ≡ length rows
  base_length = rw law (simp (length-append, length-map) (omega arith))

  on_top_lem : length rows < 18446744073709551615 → Sound (pushed_on base w) × Means (pushed_on base w) (new_widget (meaning_of base) l w)
  unfolding Means meaning_of
  on_top_lem room = pushed base (meaning_of base) l w base_sound (λ x. refl, λ k. refl, refl) base_fresh refl (omega (arith, base_length))

  -- ---- egui's lists
  base_list : (k : LayerId) → list_rows base k ≡ list_rows pre k ++ list_rows post k
  base_list k = list_append pre (map (lowered l) post) k ∙ ap (◌++◌ (list_rows pre k)) (list_lowered l post k)

  list : (k : LayerId) → m.by_layer k ≡ list_rows pre k ++ cond (is_layer l k) (r.listed ∷ list_rows post k) (list_rows post k)
  list k = list_of rows m pre r post law s means k ∙ ap (λ (a : LayerId). list_rows pre k ++ cond (is_layer a k) (r.listed ∷ list_rows post k) (list_rows post k)) (sym w-layer)

  place : r.index ≡ length (list_rows pre l)
  place = (stands pre r post good).place ∙ ap (λ (a : LayerId). length (list_rows pre a)) (sym w-layer)

  rest : removed r.index (m.by_layer l) ≡ list_rows base l
  rest =
      ap (removed r.index) (list l ∙ ap (λ (t : Bool). list_rows pre l ++ cond t (r.listed ∷ list_rows post l) (list_rows post l)) (layer_itself l))
      ∙ (λ i. take_at (list_rows pre l) (r.listed ∷ list_rows post l) r.index (sym place) i ++ dropped i)
      ∙ sym (base_list l)
    where
      dropped : drop (suc r.index) (list_rows pre l ++ r.listed ∷ list_rows post l) ≡ list_rows post l
      dropped = rw (ap suc place, ← add-one) (drop-append-add (list_rows pre l) (r.listed ∷ list_rows post l) 1)

  tail : drop r.index (removed r.index (m.by_layer l) ++ w ∷ []) ≡ list_rows post l ++ w ∷ []
  tail = rw (rest, base_list l, append_assoc) (drop_at (list_rows pre l) (list_rows post l ++ w ∷ []) r.index (sym place))

  -- ---- egui's entries
  after : InOrder l (suc r.index) post
  unfolding InOrder
  after = subst (λ (j : ℕ). InOrder l j post) next (in_order_rest l pre (r ∷ post) 0 (good.in_order l)).1
    where
      next : next_place r.held.layer_id l (0 + length (list_rows pre l)) ≡ suc r.index
      next = rw (← w-layer, layer_itself) (omega (arith, place))

  ids : (n x : ℕ) → cond (eqb w.id x) (Some (length (list_rows base l), w)) (entry_rows base x) ≡ shifted r.index (list_rows post l ++ w ∷ []) (with_entry m.by_id w.id (Some (n, w))) x
  unfolding placed
  ids n x =
      go (eqb w.id x) none (entry_of rows m pre r post law s means x ∙ ap (λ (y : ℕ). cond (eqb y x) (Some (r.index, r.held)) (entry_rows (pre ++ post) x)) (sym w-id))
      ∙ sym (shifted_placed r.index (list_rows post l ++ w ∷ []) put x ∙ placed_append r.index (list_rows post l) (w ∷ []) x (put x))
    where
      put : ℕ → Option (ℕ × WidgetRect)
      put = with_entry m.by_id w.id (Some (n, w))

      run : Option (ℕ × WidgetRect) → Option (ℕ × WidgetRect)
      run = placed r.index (list_rows post l) x

      none : eqb w.id x ≡ true → times post x ≡ 0
      none t = omega (arith, times_append pre post x, ap (times (pre ++ post)) (sym (eqb-true w.id x t) ∙ w-id), (one_less_lem pre r post good.distinct).0)

      go : (t : Bool) → (t ≡ true → times post x ≡ 0) → m.by_id x ≡ cond t (Some (r.index, r.held)) (entry_rows (pre ++ post) x)
          → cond t (Some (length (list_rows base l), w)) (entry_rows base x)
          ≡ cond t (with_idx (r.index + length (list_rows post l)) (run (cond t (Some (n, w)) (m.by_id x)))) (run (cond t (Some (n, w)) (m.by_id x)))
      go true f h =
          ap (λ (i : ℕ). Some (i, w)) (ap length (base_list l) ∙ length-append (list_rows pre l) (list_rows post l) ∙ omega (arith, place))
          ∙ ap (with_idx (r.index + length (list_rows post l))) (entry_lowered l post x r.index (Some (n, w)) (omega (arith, f refl)) after)
      go false f h =
          entry_append pre (map (lowered l) post) x
          ∙ entry_lowered l post x r.index (entry_rows pre x) (omega (arith, counted_times pre x, times_append pre post x, (one_less_lem pre r post good.distinct).1 x)) after
          ∙ ap run (sym (h ∙ entry_append pre post x))

  pub moved : is_layer w.layer_id new.layer_id ≡ true → length rows < 18446744073709551615
      → Sound (pushed_on (without w.layer_id pre post) w) × Means (pushed_on (without w.layer_id pre post) w) (known_widget m layer new true r.index w)
  unfolding known_widget new_widget meaning_of Means
  moved one room =
      let top = on_top_lem room in
      rw (one, here, new-id, ← w-id) (top.0, (λ x. top.1.0 x ∙ rw tail (ids (length (removed r.index (m.by_layer l))) x), λ k. top.1.1 k ∙ go k (is_layer l k) (list k), top.1.2 ∙ base_length ∙ means.2))
    where
      here : layer ≡ l
      here = new-layer ∙ sym (same_layers_lem l new.layer_id one)

      go : (k : LayerId) (t : Bool) → m.by_layer k ≡ list_rows pre k ++ cond t (r.listed ∷ list_rows post k) (list_rows post k)
          → cond t (list_rows base l ++ w ∷ []) (list_rows base k) ≡ cond t (removed r.index (m.by_layer l) ++ w ∷ []) (m.by_layer k)
      go k true h = ap (λ (ws : List WidgetRect). ws ++ w ∷ []) (sym rest)
      go k false h = base_list k ∙ sym h
