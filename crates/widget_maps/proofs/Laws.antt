-- What rows mean which stand one after the other, and where a row stands among sound ones. Assumes nothing.
use mathlib.Core.Path.{◌≡◌, refl, sym, ap, subst, ◌∙◌}
use Prim.Native.Nat.{ℕ, suc, ◌+◌, ◌≤◌, min}
use native.Mathlib.Nat.{zero-add}
use native.Mathlib.Omega.{arith}
use mathlib.Core.Bool.{Bool, true, false, cond, ◌&&◌, false≢true}
use mathlib.Core.List.{List, [], ◌∷◌, ◌++◌}
use lib.Dec.{eqb}
use lib.ListN.{length}
use borrow.Author.Tests.{eqb-true, eq-eqb}
use Rattle.layers.specs.declared.LayerId.{LayerId}
use Rattle.layers.specs.Layers.{is_layer}
use Rattle.widget_rect.specs.declared.WidgetRect.{WidgetRect}
use Rattle.std.specs.Prelude.{Option, None, Some}
use Rattle.widget_maps.proofs.Row.{Row, next_from}
use Rattle.widget_maps.proofs.Meaning.{entry_rows, list_rows, times, StandsAt, next_place, InOrder, Sound}

-- ---- layers
pub same_layers_lem : (a b : LayerId) → is_layer a b ≡ true → a ≡ b
unfolding is_layer
same_layers_lem a b e = go (eqb a.order b.order) (eqb a.id b.id) (eqb-true a.order b.order) (eqb-true a.id b.id) e
  where
    go : (s t : Bool) → (s ≡ true → a.order ≡ b.order) → (t ≡ true → a.id ≡ b.id) → (s && t) ≡ true → a ≡ b
    go true true f g h = λ i. record { order = f refl i; id = g refl i }
    go true false f g h = absurd (false≢true h)
    go false t f g h = absurd (false≢true h)

pub layer_itself : (a : LayerId) → is_layer a a ≡ true
unfolding is_layer
layer_itself a = rw (eq-eqb a.order a.order refl, eq-eqb a.id a.id refl)

pub layers_turned : (a b : LayerId) → is_layer a b ≡ is_layer b a
layers_turned a b = go (is_layer a b) (is_layer b a) (back a b) (back b a)
  where
    back : (a b : LayerId) → is_layer a b ≡ true → is_layer b a ≡ true
    back a b e = rw (same_layers_lem a b e) (layer_itself b)

    go : (s t : Bool) → (s ≡ true → t ≡ true) → (t ≡ true → s ≡ true) → s ≡ t
    go true t f g = sym (f refl)
    go false true f g = g refl
    go false false f g = refl

-- ---- what is held by an id
abbrev pub or_else : Option (ℕ × WidgetRect) → Option (ℕ × WidgetRect) → Option (ℕ × WidgetRect)
or_else None e = e
or_else (Some (i, w)) e = Some (i, w)

pub entry_append : (a b : List Row) (x : ℕ) → entry_rows (a ++ b) x ≡ or_else (entry_rows a x) (entry_rows b x)
unfolding entry_rows
entry_append [] b x = refl
entry_append (r ∷ a) b x = go (eqb r.held.id x) (entry_append a b x)
  where
    go : (t : Bool) → entry_rows (a ++ b) x ≡ or_else (entry_rows a x) (entry_rows b x)
        → cond t (Some (r.index, r.held)) (entry_rows (a ++ b) x) ≡ or_else (cond t (Some (r.index, r.held)) (entry_rows a x)) (entry_rows b x)
    go true h = refl
    go false h = h

-- how often an entry holds an id
abbrev pub counted : Option (ℕ × WidgetRect) → ℕ
counted None = 0
counted (Some (i, w)) = 1

pub counted_times : (rows : List Row) (x : ℕ) → counted (entry_rows rows x) ≤ times rows x
unfolding entry_rows times
counted_times [] x = omega arith
counted_times (r ∷ rows) x = go (eqb r.held.id x) (counted_times rows x)
  where
    go : (t : Bool) → counted (entry_rows rows x) ≤ times rows x → counted (cond t (Some (r.index, r.held)) (entry_rows rows x)) ≤ cond t 1 0 + times rows x
    go true h = omega arith
    go false h = omega arith

pub vacant_times : (rows : List Row) (x : ℕ) → entry_rows rows x ≡ None → times rows x ≡ 0
unfolding entry_rows times
vacant_times [] x e = refl
vacant_times (r ∷ rows) x e = go (eqb r.held.id x) (vacant_times rows x) e
  where
    go : (t : Bool) → (entry_rows rows x ≡ None → times rows x ≡ 0) → cond t (Some (r.index, r.held)) (entry_rows rows x) ≡ None → cond t 1 0 + times rows x ≡ 0
    go true f h = cc
    go false f h = omega (arith, f h)

pub times_append : (a b : List Row) (x : ℕ) → times (a ++ b) x ≡ times a x + times b x
unfolding times
times_append [] b x = omega arith
times_append (r ∷ a) b x = omega (arith, times_append a b x)

-- with a row and without it
module _ (a : List Row) (r : Row) (b : List Row) where
  pub times_at : (x : ℕ) → times (a ++ r ∷ b) x ≡ cond (eqb r.held.id x) 1 0 + times (a ++ b) x
  unfolding times
  times_at x = omega (arith, times_append a (r ∷ b) x, times_append a b x)

  pub entry_at : times a r.held.id ≡ 0 → (x : ℕ) → entry_rows (a ++ r ∷ b) x ≡ cond (eqb r.held.id x) (Some (r.index, r.held)) (entry_rows (a ++ b) x)
  unfolding entry_rows
  entry_at h x = entry_append a (r ∷ b) x ∙ go (eqb r.held.id x) (entry_rows a x) none ∙ ap (cond (eqb r.held.id x) (Some (r.index, r.held))) (sym (entry_append a b x))
    where
      none : eqb r.held.id x ≡ true → counted (entry_rows a x) ≡ 0
      none e = rw (← eqb-true r.held.id x e) (omega (arith, counted_times a r.held.id))

      go : (t : Bool) (e : Option (ℕ × WidgetRect)) → (t ≡ true → counted e ≡ 0)
          → or_else e (cond t (Some (r.index, r.held)) (entry_rows b x)) ≡ cond t (Some (r.index, r.held)) (or_else e (entry_rows b x))
      go true None f = refl
      go true (Some (i, w)) f = absurd (omega (arith, f refl))
      go false e f = refl

  pub one_more_lem : times (a ++ b) r.held.id ≡ 0 → ((x : ℕ) → times (a ++ b) x ≤ 1) → (x : ℕ) → times (a ++ r ∷ b) x ≤ 1
  one_more_lem h d x = rw (times_at x) (go (eqb r.held.id x) (λ e. ap (times (a ++ b)) (sym (eqb-true r.held.id x e)) ∙ h))
    where
      go : (t : Bool) → (t ≡ true → times (a ++ b) x ≡ 0) → cond t 1 0 + times (a ++ b) x ≤ 1
      go true f = omega (arith, f refl)
      go false f = omega (arith, d x)

  pub one_less_lem : ((x : ℕ) → times (a ++ r ∷ b) x ≤ 1) → (times (a ++ b) r.held.id ≡ 0) × ((x : ℕ) → times (a ++ b) x ≤ 1)
  one_less_lem d = (omega (arith, rw (eq-eqb r.held.id r.held.id refl) at (times_at r.held.id), d r.held.id), λ x. omega (arith, times_at x, d x))

-- ---- the list of a layer
pub list_append : (a b : List Row) (l : LayerId) → list_rows (a ++ b) l ≡ list_rows a l ++ list_rows b l
unfolding list_rows
list_append [] b l = refl
list_append (r ∷ a) b l = go (is_layer r.held.layer_id l) (list_append a b l)
  where
    go : (t : Bool) → list_rows (a ++ b) l ≡ list_rows a l ++ list_rows b l
        → cond t (r.listed ∷ list_rows (a ++ b) l) (list_rows (a ++ b) l) ≡ cond t (r.listed ∷ list_rows a l) (list_rows a l) ++ list_rows b l
    go true h = ap (◌∷◌ r.listed) h
    go false h = h

module _ (l : LayerId) where
  places : (t : Bool) (w : WidgetRect) (ws : List WidgetRect) (i : ℕ) → cond t (suc i) i + length ws ≡ i + length (cond t (w ∷ ws) ws)
  places true w ws i = omega arith
  places false w ws i = refl

  -- the rows after some
  pub in_order_rest : (a b : List Row) (i : ℕ) → InOrder l i (a ++ b) → InOrder l (i + length (list_rows a l)) b
  unfolding InOrder list_rows
  in_order_rest [] b i h = subst (λ (j : ℕ). InOrder l j b) (omega arith) h
  in_order_rest (r ∷ a) b i h =
      let t = is_layer r.held.layer_id l in
      subst (λ (j : ℕ). InOrder l j b) (places t r.listed (list_rows a l) i) (in_order_rest a b (cond t (suc i) i) h.1)

  -- other rows after them
  pub in_order_with : (a b c : List Row) (i : ℕ) → ((j : ℕ) → j ≡ i + length (list_rows a l) → InOrder l j b → InOrder l j c) → InOrder l i (a ++ b) → InOrder l i (a ++ c)
  unfolding InOrder list_rows
  in_order_with [] b c i f h = f i (omega arith) h
  in_order_with (r ∷ a) b c i f h =
      let t = is_layer r.held.layer_id l in
      (h.0, in_order_with a b c (cond t (suc i) i) (λ j e. f j (e ∙ places t r.listed (list_rows a l) i)) h.1)

  -- the index after the last, which the table counts up to the largest u64
  pub next_is : (rows : List Row) (i : ℕ) → i + length rows ≤ 18446744073709551615 → InOrder l i rows → next_from i rows l ≡ i + length (list_rows rows l)
  unfolding InOrder list_rows next_from
  next_is [] i h o = omega arith
  next_is (r ∷ rows) i h o = go (is_layer r.held.layer_id l) o.0 ∙ next_is rows (next_place r.held.layer_id l i) (room (is_layer r.held.layer_id l)) o.1 ∙ places (is_layer r.held.layer_id l) r.listed (list_rows rows l) i
    where
      room : (t : Bool) → cond t (suc i) i + length rows ≤ 18446744073709551615
      room true = omega arith
      room false = omega arith

      go : (t : Bool) → (t ≡ true → StandsAt i r) → next_from (cond t (min (r.index + 1) 18446744073709551615) i) rows l ≡ next_from (cond t (suc i) i) rows l
      go true f = ap (λ (j : ℕ). next_from j rows l) (omega (arith, (f refl).place))
      go false f = refl

-- ---- a row among sound ones
module _ (a : List Row) (r : Row) (b : List Row) (s : Sound (a ++ r ∷ b)) where
  pub stands : StandsAt (length (list_rows a r.held.layer_id)) r
  unfolding InOrder
  stands =
      let l = r.held.layer_id in
      rw zero-add at ((in_order_rest l a (r ∷ b) 0 (s.in_order l)).0 (layer_itself l))

  pub none_before : times a r.held.id ≡ 0
  none_before = omega (arith, times_append a b r.held.id, (one_less_lem a r b s.distinct).0)

pub known_entry : (rows a : List Row) (r : Row) (b : List Row) → Sound rows → rows ≡ a ++ r ∷ b → entry_rows rows r.held.id ≡ Some (r.index, r.held)
known_entry rows a r b s e =
    ap (λ (k : List Row). entry_rows k r.held.id) e
    ∙ entry_at a r b (none_before a r b (subst Sound e s)) r.held.id
    ∙ rw (eq-eqb r.held.id r.held.id refl)
