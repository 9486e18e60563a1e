-- What the rows and the table answer is what egui's maps and sets answer, and both refuse the same pairs. Assumes nothing.
use mathlib.Core.Path.{◌≡◌, refl, sym, ap, ◌∙◌}
use mathlib.Core.Bool.{Bool, true, false, cond, not, ◌&&◌, ◌||◌, and_comm, not-not, false≢true}
use mathlib.Core.List.{List, []}
use Prim.Native.Nat.{ℕ}
use lib.Dec.{eqb}
use lib.ListN.{take}
use borrow.Author.Tests.{eqb-true, eq-eqb}
use Rattle.refusal.specs.Refusal.{none, bad_pair, bad_family, lowest}
use Rattle.emath.specs.declared.Pos2.{Pos2}
use Rattle.layers.specs.declared.LayerId.{LayerId}
use Rattle.layers.specs.Layers.{is_layer}
use Rattle.stacking.specs.Lists.{keep, some, each}
use Rattle.stacking.proofs.Lists.{keep_keep, some_never, All, all_imply}
use Rattle.stacking.proofs.Layers.{held_some}
use Rattle.layer_rows.specs.declared.Row.{Row}
use Rattle.layer_rows.specs.Rows.{row_of}
use Rattle.layer_sort.proofs.Meaning.{row_layer, own_rows}
use Rattle.layer_queries.specs.declared.Listing.TheVariants.{All as Whole, Visible, Children}
use Rattle.layer_queries.specs.Queries.{shown_last, is_visible_row, is_sublayer_row, is_child_row, is_top_row, is_window_row, is_listed, rank_in, compared_by, last_of, parent_in}
use Rattle.layer_table.specs.Layers.{pair_refusal, other_parent, family_refusal}
use Rattle.std.specs.Prelude.{Option, None, Some}
use Rattle.area.specs.declared.AreaState.{AreaState}
use Rattle.area_table.specs.Table.{Table, Entry, held_of, entries_of}
use Rattle.area_table.proofs.Entries.{entries_get}
use Rattle.areas.specs.declared.Window.{Window}
use Rattle.area_stack.specs.Stack.{hit_by, hit_row, window_state}
use Rattle.areas.specs.Areas.{window_in}
use Rattle.area_maps.specs.Egui.{place_in}
use Rattle.area_maps.specs.Egui as Egui
use Rattle.area_maps.specs.Meaning.{layers_in, child_in, meaning}
use Rattle.area_maps.specs.Fits.{StackFits}
use Rattle.area_maps.proofs.Lists.{keep_map, some_map, each_map, take_map, keep_every, some_both, each_keep, last_topmost, topmost_only, rank_place}

-- ---- the layer that a row says is its layer's parent
abbrev parent_of : Row → LayerId
parent_of r = record { order = r.layer.order; id = r.parent }

is_parent : (r : Row) (p : LayerId) → is_child_row p r ≡ true → p ≡ parent_of r
is_parent r p e = go (is_sublayer_row r) (eqb r.parent p.id) (eqb r.layer.order p.order) (eqb-true r.parent p.id) (eqb-true r.layer.order p.order) e
  where
    go : (s t u : Bool) → (t ≡ true → r.parent ≡ p.id) → (u ≡ true → r.layer.order ≡ p.order) → (s && (t && u)) ≡ true → p ≡ parent_of r
    go true true true f g h = λ i. record { order = sym (g refl) i; id = sym (f refl) i }
    go true true false f g h = absurd (false≢true h)
    go true false u f g h = absurd (false≢true h)
    go false t u f g h = absurd (false≢true h)

its_parent : (r : Row) → is_child_row (parent_of r) r ≡ is_sublayer_row r
its_parent r = rw (eq-eqb r.parent r.parent refl, eq-eqb r.layer.order r.layer.order refl) (go (is_sublayer_row r))
  where
    go : (t : Bool) → (t && (true && true)) ≡ t
    go true = refl
    go false = refl

module _ (placed : ℕ) (rows : List Row) (entries : List Entry) where
  abbrev m : Egui.Areas
  m = meaning placed rows entries

  -- ---- queries that need nothing of the rows
  pub query_order : layers_in (keep (is_listed Whole) rows) ≡ m.order
  query_order = ap layers_in (keep_every rows)

  pub query_visible : (l : LayerId) → is_visible_row (row_of rows l) ≡ Egui.is_visible m l
  query_visible l = refl

  pub query_last : (l : LayerId) → shown_last (row_of rows l) ≡ m.last l
  query_last l = refl

  pub query_compare : (a b : LayerId) → compared_by (take placed rows) a b ≡ Egui.compare_order m a b
  unfolding Egui.compare_order
  query_compare a b = rw (place a, place b)
    where
      place : (l : LayerId) → rank_in (take placed rows) l ≡ place_in (take placed (layers_in rows)) l
      place l = rank_place (take placed rows) l ∙ ap (λ (order : List LayerId). place_in order l) (take_map (λ (r : Row). r.layer) placed rows)

  module _ (s : StackFits placed rows entries) where
    -- ---- a layer's parent
    pub query_sublayer : (l : LayerId) → is_sublayer_row (row_of rows l) ≡ Egui.is_sublayer m l
    query_sublayer l = go (is_sublayer_row (row_of rows l)) refl
      where
        p : LayerId
        p = parent_of (row_of rows l)

        go : (t : Bool) → is_sublayer_row (row_of rows l) ≡ t → t ≡ some (λ x. child_in rows x l) (layers_in rows)
        go true e =
            let c : child_in rows p l ≡ true = its_parent (row_of rows l) ∙ e in
            sym (held_some (λ x. child_in rows x l) (layers_in rows) p (s.pairs.held p l c) c)
        go false e = sym (some_never (λ x. child_in rows x l) (layers_in rows) (λ x. rw e))

    pub query_parent : (l : LayerId) → parent_in (row_of rows l) ≡ Egui.parent_layer m l
    unfolding Egui.parent_layer
    query_parent l = sym (topmost_only (λ x. child_in rows x l) (parent_of (row_of rows l)) (is_parent (row_of rows l)) (layers_in rows) ∙ rw (← query_sublayer l) (go (eqb (row_of rows l).parent 0)))
      where
        go : (t : Bool) → cond (not t) (Some (parent_of (row_of rows l))) None ≡ cond t None (Some (parent_of (row_of rows l)))
        go true = refl
        go false = refl

    -- ---- searches and listings: what a row says, its layer says
    at_rows : {A : Type 0} (f : Row → A) (g : LayerId → A) → ((l : LayerId) → f (row_of rows l) ≡ g l) → All (λ (r : Row). f r ≡ g r.layer) rows
    at_rows f g h = all_imply (λ (r : Row). row_of rows r.layer ≡ r) (λ (r : Row). f r ≡ g r.layer) rows (λ r e. ap f (sym e) ∙ h r.layer) (own_rows rows s.distinct)

    top_row : (o : ℕ) (l : LayerId) → is_top_row o (row_of rows l) ≡ (eqb l.order o && not (Egui.is_sublayer m l))
    top_row o l = rw (← query_sublayer l, not-not (eqb (row_of rows l).parent 0), row_layer rows l)

    pub query_top : (o : ℕ) → last_of (is_top_row o) rows ≡ Egui.top_layer_id m o
    unfolding Egui.top_layer_id
    query_top o = last_topmost (is_top_row o) (λ l. eqb l.order o && not (Egui.is_sublayer m l)) rows (at_rows (is_top_row o) _ (top_row o))

    pub query_listed_visible : layers_in (keep (is_listed Visible) rows) ≡ Egui.visible_layer_ids m
    unfolding Egui.visible_layer_ids
    query_listed_visible = keep_map (λ (r : Row). r.layer) is_visible_row (Egui.is_visible m) rows (at_rows is_visible_row (Egui.is_visible m) query_visible)

    pub query_children : (l : LayerId) → layers_in (keep (is_listed (Children l)) rows) ≡ Egui.child_layers m l
    unfolding Egui.child_layers
    query_children l = keep_map (λ (r : Row). r.layer) (is_child_row l) (child_in rows l) rows (at_rows (is_child_row l) (child_in rows l) (λ x. refl))

    -- ---- the table of the states
    module _ (t : Table) (states : ℕ) (e : entries_of t states ≡ entries) where
      pub query_get : (from id : ℕ) → held_of t states from id ≡ Egui.get m id
      unfolding Egui.get
      query_get from id = entries_get t states from id (rw e s.entries_distinct) ∙ rw e

      pub query_hit : (pos : Pos2) → last_of (hit_row t states pos) rows ≡ Egui.layer_id_at m pos
      unfolding Egui.layer_id_at
      query_hit pos = last_topmost (hit_row t states pos) (λ l. Egui.is_visible m l && hit_by pos (Egui.get m l.id)) rows (at_rows (hit_row t states pos) _ (λ l. rw (row_layer rows l, query_get (row_of rows l).area l.id)))

      pub query_windows : each (λ (r : Row). window_in r.layer (window_state t states r)) rows ≡ Egui.visible_windows m
      unfolding Egui.visible_windows Egui.visible_layer_ids
      query_windows =
          each_map (λ (r : Row). r.layer) _ (λ l. cond (is_shown l && is_top l) (window l) []) rows (at_rows _ _ (λ l. go (is_window_row (row_of rows l)) (row_of rows l).layer l (row_of rows l).area (rw (top_row 1 l) (and_comm (is_top l) (is_shown l))) (row_layer rows l)))
          ∙ sym (each_keep window (λ l. is_shown l && is_top l) (layers_in rows))
          ∙ ap (each window) (sym (keep_keep is_top is_shown (layers_in rows)))
        where
          is_shown : LayerId → Bool
          is_shown = Egui.is_visible m

          is_top : LayerId → Bool
          is_top l = eqb l.order 1 && not (Egui.is_sublayer m l)

          window : LayerId → List Window
          window l = window_in l (Egui.get m l.id)

          where_shown : (b : Bool) (l : LayerId) (h : Option AreaState) → window_in l (cond b h None) ≡ cond b (window_in l h) []
          where_shown true l h = refl
          where_shown false l h = refl

          go : (b : Bool) (x l : LayerId) (from : ℕ) → b ≡ (is_shown l && is_top l) → x ≡ l → window_in x (cond b (held_of t states from x.id) None) ≡ cond (is_shown l && is_top l) (window l) []
          go b x l from p q = rw (p, q, query_get from l.id) (where_shown (is_shown l && is_top l) l (Egui.get m l.id))

    -- ---- the refusal of a pair that does not fit: in one Order, the rows know it by the parent's id
    module _ (parent child : LayerId) where
      abbrev r : Row
      r = row_of rows child

      same_id : parent.order ≡ child.order → is_layer (parent_of r) parent ≡ eqb r.parent parent.id
      unfolding is_layer
      same_id e = rw (row_layer rows child, eq-eqb child.order parent.order (sym e))

      other_parent_lem : parent.order ≡ child.order → other_parent r parent.id ≡ some (λ p. child_in rows p child && not (is_layer p parent)) (layers_in rows)
      other_parent_lem e =
          ap (λ (b : Bool). is_sublayer_row r && not b) (sym (same_id e))
          ∙ ap (λ (b : Bool). b && not (is_layer (parent_of r) parent)) (query_sublayer child)
          ∙ sym (some_both (λ p. child_in rows p child) (not (is_layer (parent_of r) parent)) (layers_in rows))
          ∙ ap (λ (q : LayerId → Bool). some q (layers_in rows)) (λ i p. sym (at_parent p) i)
        where
          go : (p : LayerId) (t : Bool) → (t ≡ true → p ≡ parent_of r) → (t && not (is_layer p parent)) ≡ (t && not (is_layer (parent_of r) parent))
          go p true f = ap (λ (x : LayerId). not (is_layer x parent)) (f refl)
          go p false f = refl

          at_parent : (p : LayerId) → (child_in rows p child && not (is_layer p parent)) ≡ (child_in rows p child && not (is_layer (parent_of r) parent))
          at_parent p = go p (child_in rows p child) (is_parent r p)

      pub refusal_pair : parent.order ≡ child.order → family_refusal rows parent child ≡ cond (Egui.is_misfit m parent child) bad_family none
      unfolding family_refusal
      refusal_pair e = λ i. cond (other_parent_lem e i || (has_child i || query_sublayer parent i)) bad_family none
        where
          has_child : some (is_child_row child) rows ≡ some (child_in rows child) (layers_in rows)
          has_child = some_map (λ (r : Row). r.layer) (is_child_row child) (child_in rows child) rows (at_rows (is_child_row child) (child_in rows child) (λ x. refl))

      -- in two Orders the pair is refused first
      pub refusal_family : lowest (pair_refusal parent child) (family_refusal rows parent child) ≡ lowest (pair_refusal parent child) (cond (Egui.is_misfit m parent child) bad_family none)
      unfolding lowest family_refusal
      refusal_family = go (eqb parent.order child.order) refl
        where
          bad : (s t : Bool) → lowest bad_pair (cond s bad_family none) ≡ lowest bad_pair (cond t bad_family none)
          bad true true = refl
          bad true false = refl
          bad false true = refl
          bad false false = refl

          go : (t : Bool) → eqb parent.order child.order ≡ t → lowest (cond (t && not (eqb parent.id child.id)) none bad_pair) (family_refusal rows parent child) ≡ lowest (cond (t && not (eqb parent.id child.id)) none bad_pair) (cond (Egui.is_misfit m parent child) bad_family none)
          go true e = ap (lowest (cond (not (eqb parent.id child.id)) none bad_pair)) (refusal_pair (eqb-true parent.order child.order e))
          go false e = bad (other_parent r parent.id || (some (is_child_row child) rows || is_sublayer_row (row_of rows parent))) (Egui.is_misfit m parent child)
