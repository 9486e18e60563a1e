-- Rows after one that is gone: they keep their order, and egui's loop over the rest of the list gives their indices. Assumes nothing.
use mathlib.Core.Path.{◌≡◌, refl, sym, ap, ◌∙◌}
use Prim.Native.Nat.{ℕ, suc, ◌+◌, ◌-◌, ◌≤◌}
use native.Mathlib.Omega.{arith}
use mathlib.Core.Bool.{Bool, true, false, cond}
use mathlib.Core.List.{List, [], ◌∷◌, ◌++◌, map}
use lib.Dec.{eqb}
use lib.ListN.{length}
use borrow.Author.Tests.{eqb-true}
use Rattle.layers.specs.declared.LayerId.{LayerId}
use Rattle.layers.specs.Layers.{is_layer}
use Rattle.widget_rect.specs.declared.WidgetRect.{WidgetRect}
use Rattle.std.specs.Prelude.{Option, None, Some}
use Rattle.widget_maps.specs.Egui.{with_entry, with_idx, shifted}
use Rattle.widget_maps.proofs.Row.{Row, lowered}
use Rattle.widget_maps.proofs.Meaning.{entry_rows, list_rows, times, StandsAt, next_place, InOrder}
use Rattle.widget_maps.proofs.Laws.{same_layers_lem, layers_turned, or_else, counted}

-- ---- the loop, for one id
unfoldable pub placed : ℕ → List WidgetRect → ℕ → Option (ℕ × WidgetRect) → Option (ℕ × WidgetRect)
placed i [] x e = e
placed i (w ∷ ws) x e = placed (suc i) ws x (cond (eqb w.id x) (with_idx i e) e)

pub shifted_placed : (i : ℕ) (ws : List WidgetRect) (by_id : ℕ → Option (ℕ × WidgetRect)) (x : ℕ) → shifted i ws by_id x ≡ placed i ws x (by_id x)
unfolding shifted placed
shifted_placed i [] by_id x = refl
shifted_placed i (w ∷ ws) by_id x = shifted_placed (suc i) ws (with_entry by_id w.id (with_idx i (by_id w.id))) x ∙ ap (placed (suc i) ws x) (go (eqb w.id x) (eqb-true w.id x))
  where
    go : (t : Bool) → (t ≡ true → w.id ≡ x) → cond t (with_idx i (by_id w.id)) (by_id x) ≡ cond t (with_idx i (by_id x)) (by_id x)
    go true f = ap (λ (y : ℕ). with_idx i (by_id y)) (f refl)
    go false f = refl

pub placed_append : (i : ℕ) (a b : List WidgetRect) (x : ℕ) (e : Option (ℕ × WidgetRect)) → placed i (a ++ b) x e ≡ placed (i + length a) b x (placed i a x e)
unfolding placed
placed_append i [] b x e = ap (λ (j : ℕ). placed j b x e) (omega arith)
placed_append i (w ∷ a) b x e =
    let e' = cond (eqb w.id x) (with_idx i e) e in
    placed_append (suc i) a b x e' ∙ ap (λ (j : ℕ). placed j b x (placed (suc i) a x e')) (omega arith)

-- ---- rows after one of layer l
module _ (l : LayerId) where
  pub times_lowered : (rows : List Row) (x : ℕ) → times (map (lowered l) rows) x ≡ times rows x
  unfolding times lowered
  times_lowered [] x = refl
  times_lowered (r ∷ rows) x = ap (◌+◌ (cond (eqb r.held.id x) 1 0)) (times_lowered rows x)

  pub list_lowered : (rows : List Row) (k : LayerId) → list_rows (map (lowered l) rows) k ≡ list_rows rows k
  unfolding list_rows lowered
  list_lowered [] k = refl
  list_lowered (r ∷ rows) k = ap (λ (ws : List WidgetRect). cond (is_layer r.held.layer_id k) (r.listed ∷ ws) ws) (list_lowered rows k)

  pub in_order_lowered : (k : LayerId) (rows : List Row) (i j : ℕ) → i ≡ next_place l k j → InOrder k i rows → InOrder k j (map (lowered l) rows)
  unfolding InOrder lowered
  in_order_lowered k [] i j e o = tt
  in_order_lowered k (r ∷ rows) i j e o = (
    λ t. record { place = here t; same_id = (o.0 t).same_id; same_layer = (o.0 t).same_layer },
    in_order_lowered k rows (next_place r.held.layer_id k i) (next_place r.held.layer_id k j) (go (is_layer l k) (is_layer r.held.layer_id k) e) o.1,
  )
    where
      low : (t : Bool) → r.index ≡ cond t (suc j) j → cond t (r.index - 1) r.index ≡ j
      low true h = omega arith
      low false h = h

      here : is_layer r.held.layer_id k ≡ true → cond (is_layer r.held.layer_id l) (r.index - 1) r.index ≡ j
      here t =
          ap (λ (u : Bool). cond u (r.index - 1) r.index) (ap (λ (a : LayerId). is_layer a l) (same_layers_lem r.held.layer_id k t) ∙ layers_turned k l)
          ∙ low (is_layer l k) ((o.0 t).place ∙ e)

      go : (t u : Bool) → i ≡ cond t (suc j) j → cond u (suc i) i ≡ cond t (suc (cond u (suc j) j)) (cond u (suc j) j)
      go true true h = ap suc h
      go true false h = h
      go false true h = ap suc h
      go false false h = h

  -- an id that is held by e, or else among the rows
  pub entry_lowered : (rows : List Row) (x i : ℕ) (e : Option (ℕ × WidgetRect)) → counted e + times rows x ≤ 1 → InOrder l (suc i) rows
      → or_else e (entry_rows (map (lowered l) rows) x) ≡ placed i (list_rows rows l) x (or_else e (entry_rows rows x))
  unfolding entry_rows list_rows times InOrder lowered placed
  entry_lowered [] x i e h o = refl
  entry_lowered (r ∷ rows) x i e h o = go (is_layer r.held.layer_id l) (eqb r.held.id x) e (entry_lowered rows x) h o.0 (λ s. ap (λ (y : ℕ). eqb y x) (o.0 s).same_id) o.1
    where
      rest : List WidgetRect
      rest = list_rows rows l

      go : (s t : Bool) (e : Option (ℕ × WidgetRect))
          → ((i : ℕ) (e : Option (ℕ × WidgetRect)) → counted e + times rows x ≤ 1 → InOrder l (suc i) rows → or_else e (entry_rows (map (lowered l) rows) x) ≡ placed i rest x (or_else e (entry_rows rows x)))
          → counted e + (cond t 1 0 + times rows x) ≤ 1 → (s ≡ true → StandsAt (suc i) r) → (s ≡ true → eqb r.listed.id x ≡ t) → InOrder l (cond s (suc (suc i)) (suc i)) rows
          → or_else e (cond t (Some (cond s (r.index - 1) r.index, r.held)) (entry_rows (map (lowered l) rows) x))
          ≡ placed i (cond s (r.listed ∷ rest) rest) x (or_else e (cond t (Some (r.index, r.held)) (entry_rows rows x)))
      go true true None f h p q o =
          ap (λ (n : ℕ). Some (n, r.held)) (omega (arith, (p refl).place))
          ∙ f (suc i) (Some (i, r.held)) (omega arith) o
          ∙ ap (λ (u : Bool). placed (suc i) rest x (cond u (Some (i, r.held)) (Some (r.index, r.held)))) (sym (q refl))
      go true true (Some (n, w)) f h p q o = absurd (omega arith)
      go true false e f h p q o =
          let e' = or_else e (entry_rows rows x) in
          f (suc i) e (omega arith) o ∙ ap (λ (u : Bool). placed (suc i) rest x (cond u (with_idx i e') e')) (sym (q refl))
      go false true None f h p q o = f i (Some (r.index, r.held)) (omega arith) o
      go false true (Some (n, w)) f h p q o = absurd (omega arith)
      go false false e f h p q o = f i e (omega arith) o
