-- What the end of a pass does in egui's terms, and that the rows still fit. Assumes nothing.
use mathlib.Core.Path.{◌≡◌, sym, ap, ◌∙◌}
use mathlib.Core.Bool.{true, true≢false, not}
use mathlib.Core.List.{List, [], ◌∷◌}
use Prim.Native.Nat.{ℕ, ◌≤◌}
use native.Mathlib.Omega.{arith}
use lib.Dec.{eqb, ltb}
use lib.ListN.{length, take}
use lib.Seq.{take_all}
use Rattle.refusal.specs.Limits.{last_order}
use Rattle.layers.specs.declared.LayerId.{LayerId}
use Rattle.layers.specs.Layers.{is_layer}
use Rattle.stacking.specs.Lists.{some}
use Rattle.stacking.specs.Stacking.{holds, Orders, stacked, times}
use Rattle.stacking.proofs.Lists.{some_count}
use Rattle.stacking.proofs.Layers.{same_layers_lem, layer_itself}
use Rattle.stacking.proofs.Stack.{stack_layers}
use Rattle.layer_rows.specs.declared.Row.{Row}
use Rattle.layer_rows.specs.Rows.{row_of}
use Rattle.layer_queries.specs.Queries.{shown_last, is_child_row}
use Rattle.layer_sort.specs.Sort.{end_rows}
use Rattle.layer_sort.proofs.Meaning.{raised_in, distinct_once, once_distinct, ended_row}
use Rattle.layer_sort.proofs.Stacked.{ended_layers}
use Rattle.area_table.specs.Table.{Entry}
use Rattle.area_maps.specs.Egui.{place_in}
use Rattle.area_maps.specs.Egui as Egui
use Rattle.area_maps.specs.Meaning.{layers_in, child_in, meaning}
use Rattle.area_maps.specs.Fits.{has_id, StackFits}
use Rattle.area_maps.proofs.Pushed.{or-true, or_right, no_pairs}
use Rattle.area_maps.proofs.Changes.{length_layers, some_still}

-- ---- each layer of a list has an Order exactly where all that it holds do
orders_held : (order : List LayerId) → Orders order → (l : LayerId) → holds order l ≡ true → l.order ≤ last_order
unfolding Orders holds some
orders_held [] o l h = absurd (true≢false (sym h))
orders_held (x ∷ order) o l h = or-true (is_layer x l) (holds order l) (l.order ≤ last_order) h (λ e. rw (← same_layers_lem x l e) o.0) (λ e. orders_held order o.1 l e)

held_orders : (order : List LayerId) → ((l : LayerId) → holds order l ≡ true → l.order ≤ last_order) → Orders order
unfolding Orders holds some
held_orders [] h = tt
held_orders (x ∷ order) h = (h x (rw (layer_itself x)), held_orders order (λ l e. h l (or_right (is_layer x l) (holds order l) e)))

holds_times : (order : List LayerId) (l : LayerId) → holds order l ≡ ltb 0 (times order l)
unfolding holds times
holds_times order l = some_count (λ x. is_layer x l) order

module _ (placed : ℕ) (rows : List Row) (entries : List Entry)
    (s : StackFits placed rows entries) where
  same_times : (l : LayerId) → times (layers_in (end_rows rows)) l ≡ times (layers_in rows) l
  same_times l = rw (ended_layers rows s.distinct s.orders s.pairs) (stack_layers (raised_in rows) (child_in rows) (layers_in rows) s.orders s.pairs s.distinct l)

  same_held : (l : LayerId) → holds (layers_in (end_rows rows)) l ≡ holds (layers_in rows) l
  same_held l = holds_times (layers_in (end_rows rows)) l ∙ ap (ltb 0) (same_times l) ∙ sym (holds_times (layers_in rows) l)

  row_after_lem : (l : LayerId) → row_of (end_rows rows) l ≡ record { layer = l; shown = 0; last = (row_of rows l).shown; raised = 0; parent = 0; area = (row_of rows l).area; key = 0 }
  row_after_lem l = ended_row rows l s.distinct

  pub ended_fits : StackFits (length (end_rows rows)) (end_rows rows) entries
  ended_fits = record {
    placed_held = omega arith;
    distinct = once_distinct (layers_in (end_rows rows)) (λ l. rw (same_times l) (distinct_once (layers_in rows) s.distinct l));
    orders = held_orders (layers_in (end_rows rows)) (λ l h. orders_held (layers_in rows) s.orders l (sym (same_held l) ∙ h));
    pairs = no_pairs (layers_in (end_rows rows)) (child_in (end_rows rows)) (λ p x. ap (is_child_row p) (row_after_lem x));
    entries_distinct = s.entries_distinct;
    entries_known = λ id h. some_still (has_id id) (layers_in rows) (layers_in (end_rows rows)) (λ x e. same_held x ∙ e) (s.entries_known id h);
  }

  pub ended_means : meaning (length (end_rows rows)) (end_rows rows) entries ≡ Egui.end_pass (meaning placed rows entries)
  unfolding Egui.end_pass
  ended_means =
      let order : layers_in (end_rows rows) ≡ stacked (raised_in rows) (child_in rows) (layers_in rows) = ended_layers rows s.distinct s.orders s.pairs in
      let whole : take (length (end_rows rows)) (layers_in (end_rows rows)) ≡ layers_in (end_rows rows) = take_all (length (end_rows rows)) (layers_in (end_rows rows)) (omega (arith, length_layers (end_rows rows))) in
      λ i. record {
        areas = entries;
        last = λ l. ap shown_last (row_after_lem l) i;
        current = λ l. ap (λ (r : Row). not (eqb r.shown 0)) (row_after_lem l) i;
        order = order i;
        order_map = place_in ((whole ∙ order) i);
        on_top = λ l. ap (λ (r : Row). not (eqb r.raised 0)) (row_after_lem l) i;
        sublayers = λ p l. ap (is_child_row p) (row_after_lem l) i;
      }
