-- What the calls that change a layer's row do in egui's terms, and that the rows still fit.
-- Assumes nothing.
use mathlib.Core.Path.{◌≡◌, refl, sym, ap}
use mathlib.Core.Bool.{Bool, true, false, not}
use mathlib.Core.List.{List, [], ◌∷◌}
use Prim.Native.Nat.{ℕ, suc, ◌≤◌}
use native.Mathlib.Omega.{arith}
use lib.Dec.{eqb}
use lib.ListN.{length, take}
use Rattle.refusal.specs.Limits.{last_order}
use Rattle.area.specs.declared.AreaState.{AreaState}
use Rattle.layers.specs.declared.LayerId.{LayerId}
use Rattle.stacking.specs.Lists.{some}
use Rattle.stacking.specs.Stacking.{holds}
use Rattle.stacking.proofs.Layers.{held_some, some_held}
use Rattle.layer_rows.specs.declared.Row.{Row}
use Rattle.layer_rows.specs.Rows.{marked}
use Rattle.layer_queries.specs.Queries.{shown_last, is_child_row}
use Rattle.layer_table.specs.Layers.{raised_row, to_top}
use Rattle.std.specs.Prelude.{◌≢◌, None}
use Rattle.area_table.specs.Table.{Entry, get_in, insert_in}
use Rattle.area_table.specs.Table as Table
use Rattle.area_stack.specs.Stack.{shown_row}
use Rattle.area_maps.specs.Egui.{pushed, place_in}
use Rattle.area_maps.specs.Egui as Egui
use Rattle.area_maps.specs.Meaning.{layers_in, child_in, meaning}
use Rattle.area_maps.specs.Fits.{has_id, StackFits}
use Rattle.area_maps.proofs.Marked.{field_same, flag_set, layers_marked, pushed_take, pushed_length}
use Rattle.area_maps.proofs.Pushed.{pushed_distinct, pushed_orders, pushed_still, pushed_self, pairs_still}

pub length_layers : (rows : List Row) → length (layers_in rows) ≡ length rows
length_layers [] = refl
length_layers (r ∷ rows) = ap suc (length_layers rows)

pub some_still : (p : LayerId → Bool) (order order' : List LayerId) → ((x : LayerId) → holds order x ≡ true → holds order' x ≡ true) → some p order ≡ true → some p order' ≡ true
some_still p order order' h e = let (l, q, r) = some_held p order e in held_some p order' l (h l q) r

module _ (f : Row → Row) (keeps : (r : Row) → (f r).layer ≡ r.layer) (l : LayerId) where
  pub mark_longer : (rows : List Row) → length rows ≤ length (marked f rows l)
  mark_longer rows = rw (sym (length_layers rows), sym (length_layers (marked f rows l)), layers_marked f keeps l rows) (pushed_length (layers_in rows) l)

  pub places : (placed : ℕ) (rows : List Row) → placed ≤ length rows → (x : LayerId) → place_in (take placed (layers_in (marked f rows l))) x ≡ place_in (take placed (layers_in rows)) x
  places placed rows h x = rw (layers_marked f keeps l rows) (ap (λ (t : List LayerId). place_in t x) (pushed_take placed (layers_in rows) l (rw (length_layers rows) h)))

-- ---- a row is changed: its layer and its parent stay
module _ (f : Row → Row) (keeps : (r : Row) → (f r).layer ≡ r.layer) (parents : (p : LayerId) (r : Row) → is_child_row p (f r) ≡ is_child_row p r) (l : LayerId) (placed : ℕ) (rows : List Row) where
  still : (x : LayerId) → holds (layers_in rows) x ≡ true → holds (layers_in (marked f rows l)) x ≡ true
  still x h = rw (layers_marked f keeps l rows) (pushed_still l (layers_in rows) x h)

  here : holds (layers_in (marked f rows l)) l ≡ true
  here = rw (layers_marked f keeps l rows) (pushed_self l (layers_in rows))

  -- the ids that have a state are those of layers
  pub marked_known : (entries entries' : List Entry) → ((id : ℕ) → (get_in entries id ≡ None → ⊥) → some (has_id id) (layers_in rows) ≡ true)
      → ((id : ℕ) → (get_in entries' id ≡ None → ⊥) → eqb l.id id ≡ false → (get_in entries id ≡ None → ⊥)) → (id : ℕ) → (get_in entries' id ≡ None → ⊥) → some (has_id id) (layers_in (marked f rows l)) ≡ true
  marked_known entries entries' old k id h = go (eqb l.id id) refl
    where
      go : (t : Bool) → eqb l.id id ≡ t → some (has_id id) (layers_in (marked f rows l)) ≡ true
      go true e = held_some (has_id id) (layers_in (marked f rows l)) l here e
      go false e = some_still (has_id id) (layers_in rows) (layers_in (marked f rows l)) still (old id (k id h e))

  pub marked_fits : l.order ≤ last_order → (entries entries' : List Entry)
      → StackFits placed rows entries → Table.Distinct entries'
      → ((id : ℕ) → get_in entries' id ≢ None → eqb l.id id ≡ false → get_in entries id ≢ None)
      → StackFits placed (marked f rows l) entries'
  marked_fits o entries entries' s d k = record {
    placed_held = omega (arith, s.placed_held, mark_longer f keeps l rows);
    distinct = rw (layers_marked f keeps l rows) (pushed_distinct l (layers_in rows) s.distinct);
    orders = rw (layers_marked f keeps l rows) (pushed_orders l (layers_in rows) s.orders o);
    pairs = pairs_still (layers_in rows) (layers_in (marked f rows l)) (child_in rows) (child_in (marked f rows l)) still (λ p x. field_same f keeps l (is_child_row p) (parents p) rows x) s.pairs;
    entries_distinct = d;
    entries_known = marked_known entries entries' s.entries_known k;
  }

-- ---- `set_state` and `move_to_top`
module _ (l : LayerId) (placed : ℕ) (rows : List Row) (entries : List Entry) (h : placed ≤ length rows) where
  pub state_means : (slot : ℕ) (s : AreaState) → meaning placed (marked (shown_row slot) rows l) (insert_in entries l.id s) ≡ Egui.set_state (meaning placed rows entries) l s
  unfolding Egui.set_state
  state_means slot s =
      let f = shown_row slot in
      let keeps : (r : Row) → (f r).layer ≡ r.layer = λ r. refl in
      λ i. record {
        areas = insert_in entries l.id s;
        last = λ x. field_same f keeps l shown_last (λ r. refl) rows x i;
        current = λ x. flag_set f keeps l (λ (r : Row). not (eqb r.shown 0)) (λ r. refl) rows x i;
        order = layers_marked f keeps l rows i;
        order_map = λ x. places f keeps l placed rows h x i;
        on_top = λ x. field_same f keeps l (λ (r : Row). not (eqb r.raised 0)) (λ r. refl) rows x i;
        sublayers = λ p x. field_same f keeps l (is_child_row p) (λ r. refl) rows x i;
      }

  pub top_means : meaning placed (to_top rows l) entries ≡ Egui.move_to_top (meaning placed rows entries) l
  unfolding Egui.move_to_top to_top
  top_means =
      let keeps : (r : Row) → (raised_row r).layer ≡ r.layer = λ r. refl in
      λ i. record {
        areas = entries;
        last = λ x. field_same raised_row keeps l shown_last (λ r. refl) rows x i;
        current = λ x. flag_set raised_row keeps l (λ (r : Row). not (eqb r.shown 0)) (λ r. refl) rows x i;
        order = layers_marked raised_row keeps l rows i;
        order_map = λ x. places raised_row keeps l placed rows h x i;
        on_top = λ x. flag_set raised_row keeps l (λ (r : Row). not (eqb r.raised 0)) (λ r. refl) rows x i;
        sublayers = λ p x. field_same raised_row keeps l (is_child_row p) (λ r. refl) rows x i;
      }
