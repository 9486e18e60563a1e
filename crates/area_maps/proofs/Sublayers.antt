-- What `set_sublayer` does in egui's terms, and that the rows still fit. Assumes nothing.
use mathlib.Core.Path.{◌≡◌, refl, sym, ap, ◌∙◌}
use mathlib.Core.Bool.{Bool, true, false, true≢false, cond, not, ◌&&◌, ◌||◌, and-false}
use mathlib.Core.List.{List, [], ◌∷◌}
use Prim.Native.Nat.{ℕ, ◌≤◌}
use native.Mathlib.Omega.{arith}
use lib.Dec.{eqb}
use lib.ListN.{length}
use borrow.Author.Tests.{eqb-true, eq-eqb}
use Rattle.refusal.specs.Limits.{last_order}
use Rattle.layers.specs.declared.LayerId.{LayerId}
use Rattle.layers.specs.Layers.{is_layer}
use Rattle.stacking.specs.Lists.{some}
use Rattle.stacking.specs.Stacking.{holds}
use Rattle.stacking.proofs.Layers.{same_layers_lem}
use Rattle.layer_rows.specs.declared.Row.{Row}
use Rattle.layer_rows.specs.Rows.{new_row, row_of, marked}
use Rattle.layer_queries.specs.Queries.{shown_last, is_sublayer_row, is_child_row}
use Rattle.layer_rows.proofs.Marks.{row_none, row_cons}
use Rattle.layer_sort.proofs.Meaning.{row_layer}
use Rattle.layer_table.specs.Layers.{same, child_row, other_parent, with_sublayer}
use Rattle.area_table.specs.Table.{Entry}
use Rattle.area_maps.specs.Egui.{pushed, place_in}
use Rattle.area_maps.specs.Egui as Egui
use Rattle.area_maps.specs.Meaning.{layers_in, child_in, meaning}
use Rattle.area_maps.specs.Fits.{StackFits}
use Rattle.area_maps.proofs.Marked.{row_marked, field_same, layers_marked}
use Rattle.area_maps.proofs.Pushed.{and-true, or_false, pushed_still, pushed_self, one_pair}
use Rattle.area_maps.proofs.Changes.{length_layers, mark_longer, marked_fits, places}

-- what holds of no row holds of nothing that is held
none_held : (p : Row → Bool) (rows : List Row) (l : LayerId) → some p rows ≡ false → p (new_row l) ≡ false → p (row_of rows l) ≡ false
unfolding some
none_held p [] l h n = ap p (row_none l) ∙ n
none_held p (r ∷ rows) l h n =
    let (a, b) = or_false (p r) (some p rows) h in
    ap p (row_cons r rows l) ∙ go (is_layer r.layer l) a (none_held p rows l b n)
  where
    go : (t : Bool) → p r ≡ false → p (row_of rows l) ≡ false → p (cond t r (row_of rows l)) ≡ false
    go true a b = a
    go false a b = b

module _ (parent child : LayerId) (rows : List Row) where
  abbrev first : List Row
  first = marked same rows parent

  abbrev both : List Row
  both = marked (child_row parent.id) first child

  row_both : (x : LayerId) → row_of both x ≡ cond (is_layer child x) (child_row parent.id (row_of rows child)) (row_of rows x)
  row_both x =
      let e : (y : LayerId) → row_of first y ≡ row_of rows y = λ y. field_same same (λ r. refl) parent (λ (r : Row). r) (λ r. refl) rows y in
      row_marked (child_row parent.id) (λ r. refl) child first x ∙ rw (e child, e x)

  module _ (same_order : parent.order ≡ child.order) (held : eqb parent.id 0 ≡ false) (alone : other_parent (row_of rows child) parent.id ≡ false) where
    order_here : (row_of rows child).layer.order ≡ child.order
    order_here = ap (λ (l : LayerId). l.order) (row_layer rows child)

    -- the parent that the child already has is this one
    own : (p : LayerId) → child_in rows p child ≡ true → is_layer parent p ≡ true
    unfolding is_layer
    own p h =
        let r = row_of rows child in
        let (a, b) = and-true (is_sublayer_row r) (eqb r.parent p.id && eqb r.layer.order p.order) h in
        let (c, d) = and-true (eqb r.parent p.id) (eqb r.layer.order p.order) b in
        let e : r.parent ≡ parent.id = mine (eqb r.parent parent.id) refl a in
        let f : parent.order ≡ p.order = same_order ∙ sym order_here ∙ eqb-true r.layer.order p.order d in
        let g : parent.id ≡ p.id = sym e ∙ eqb-true r.parent p.id c in
        rw (eq-eqb parent.order p.order f, eq-eqb parent.id p.id g)
      where
        mine : (t : Bool) → eqb (row_of rows child).parent parent.id ≡ t → is_sublayer_row (row_of rows child) ≡ true → (row_of rows child).parent ≡ parent.id
        mine true e a = eqb-true (row_of rows child).parent parent.id e
        mine false e a = absurd (true≢false (sym (rw (a, e)) ∙ alone))

    now_child : (p : LayerId) → is_child_row p (child_row parent.id (row_of rows child)) ≡ is_layer parent p
    unfolding is_layer
    now_child p = rw (held, order_here, ← same_order) (swap (eqb parent.id p.id) (eqb parent.order p.order))
      where
        swap : (a b : Bool) → a && b ≡ b && a
        swap true true = refl
        swap true false = refl
        swap false true = refl
        swap false false = refl

    pub child_two : (p x : LayerId) → child_in both p x ≡ (is_layer parent p && is_layer child x) || child_in rows p x
    child_two p x = ap (is_child_row p) (row_both x) ∙ go (is_layer child x) refl
      where
        mine : (t c : Bool) → is_layer parent p ≡ t → child_in rows p child ≡ c → t ≡ (t && true) || c
        mine true c a b = refl
        mine false true a b = absurd (true≢false (sym (own p b) ∙ a))
        mine false false a b = refl

        go : (t : Bool) → is_layer child x ≡ t → is_child_row p (cond t (child_row parent.id (row_of rows child)) (row_of rows x)) ≡ (is_layer parent p && t) || child_in rows p x
        go true e = now_child p ∙ mine (is_layer parent p) (child_in rows p child) refl refl ∙ ap (λ (y : LayerId). (is_layer parent p && true) || child_in rows p y) (same_layers_lem child x e)
        go false e = rw (and-false (is_layer parent p))

    module _ (placed : ℕ) (entries : List Entry) where
      pub sublayer_means : placed ≤ length rows → meaning placed (with_sublayer rows parent child) entries ≡ Egui.set_sublayer (meaning placed rows entries) parent child
      unfolding Egui.set_sublayer with_sublayer
      sublayer_means h =
          let keep1 : (r : Row) → (same r).layer ≡ r.layer = λ r. refl in
          let keep2 : (r : Row) → (child_row parent.id r).layer ≡ r.layer = λ r. refl in
          let f = child_row parent.id in
          λ i. record {
            areas = entries;
            last = λ x. (field_same f keep2 child shown_last (λ r. refl) first x ∙ field_same same keep1 parent shown_last (λ r. refl) rows x) i;
            current = λ x. (field_same f keep2 child (λ (r : Row). not (eqb r.shown 0)) (λ r. refl) first x ∙ field_same same keep1 parent (λ (r : Row). not (eqb r.shown 0)) (λ r. refl) rows x) i;
            order = (layers_marked f keep2 child first ∙ ap (λ (o : List LayerId). pushed o child) (layers_marked same keep1 parent rows)) i;
            order_map = λ x. (places f keep2 child placed first (longer h) x ∙ places same keep1 parent placed rows h x) i;
            on_top = λ x. (field_same f keep2 child (λ (r : Row). not (eqb r.raised 0)) (λ r. refl) first x ∙ field_same same keep1 parent (λ (r : Row). not (eqb r.raised 0)) (λ r. refl) rows x) i;
            sublayers = λ p x. child_two p x i;
          }
        where
          longer : placed ≤ length rows → placed ≤ length first
          longer h = omega (arith, mark_longer same (λ r. refl) parent rows)

      -- the pair fits the others: see refusals 8 and 9
      pub sublayer_fits : is_layer child parent ≡ false → some (is_child_row child) rows ≡ false
          → is_sublayer_row (row_of rows parent) ≡ false → parent.order ≤ last_order
          → StackFits placed rows entries
          → StackFits placed (with_sublayer rows parent child) entries
      unfolding with_sublayer
      sublayer_fits apart top root o s = record {
        placed_held = omega (arith, two.placed_held, as_long);
        distinct = rw (← as_layers) two.distinct;
        orders = rw (← as_layers) two.orders;
        pairs =
            one_pair (layers_in rows) (layers_in both) (child_in rows) (child_in both) parent child
            (λ x h. step2 x (step1 x h)) (step2 parent self) child_two same_order apart
            (λ p h. sym (same_layers_lem parent p (own p h))) (λ x. none_held (is_child_row child) rows x top refl) (λ p. ap (λ (b : Bool). b && (eqb (row_of rows parent).parent p.id && eqb (row_of rows parent).layer.order p.order)) root) s.pairs;
        entries_distinct = s.entries_distinct;
        entries_known = λ id h. rw (← as_layers) (two.entries_known id h);
      }
        where
          keep1 : (r : Row) → (same r).layer ≡ r.layer
          keep1 r = refl

          keep2 : (r : Row) → (child_row parent.id r).layer ≡ r.layer
          keep2 r = refl

          one : StackFits placed first entries
          one =
              marked_fits same keep1 (λ p r. refl) parent placed rows o
              entries entries s s.entries_distinct (λ id h e. h)

          -- all but the pairs
          two : StackFits placed (marked same first child) entries
          two =
              marked_fits same keep1 (λ p r. refl) child placed first (rw (← same_order) o)
              entries entries one s.entries_distinct (λ id h e. h)

          as_layers : layers_in (marked same first child) ≡ layers_in both
          as_layers = layers_marked same keep1 child first ∙ sym (layers_marked (child_row parent.id) keep2 child first)

          as_long : length (marked same first child) ≡ length both
          as_long = sym (length_layers (marked same first child)) ∙ ap (λ (t : List LayerId). length t) as_layers ∙ length_layers both

          step1 : (x : LayerId) → holds (layers_in rows) x ≡ true → holds (layers_in first) x ≡ true
          step1 x h = rw (layers_marked same keep1 parent rows) (pushed_still parent (layers_in rows) x h)

          step2 : (x : LayerId) → holds (layers_in first) x ≡ true → holds (layers_in both) x ≡ true
          step2 x h = rw (layers_marked (child_row parent.id) keep2 child first) (pushed_still child (layers_in first) x h)

          self : holds (layers_in first) parent ≡ true
          self = rw (layers_marked same keep1 parent rows) (pushed_self parent (layers_in rows))
