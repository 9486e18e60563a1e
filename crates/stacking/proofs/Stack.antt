-- The laws of the stack: its layers, the top layers of one Order, and the children of one layer. Assumes nothing.
use mathlib.Core.Path.{◌≡◌, refl, sym, ap, ◌∙◌}
use mathlib.Core.Bool.{Bool, true, false, cond, not, ◌&&◌, and_assoc, and_self_left, and-false, true≢false}
use mathlib.Core.List.{List, [], ◌∷◌, ◌++◌, append_assoc, append-nil}
use Prim.Native.Nat.{ℕ, ◌+◌, ◌*◌}
use native.Mathlib.Omega.{arith}
use lib.Dec.{eqb}
use lib.ListN.{length}
use borrow.Author.Tests.{eqb-true, not-false}
use Rattle.layers.specs.declared.LayerId.{LayerId}
use Rattle.layers.specs.Layers.{is_layer}
use Rattle.stacking.specs.Lists.{keep, some, each}
use Rattle.stacking.specs.Stacking.{sorted, is_top, families, stacked, holds, Distinct, Orders, Pairs, times}
use Rattle.stacking.proofs.Lists.{keep_append, keep_keep, keep_same, keep_none, some_never, each_same, each_append, each_one, each_both, each_where, keep_each}
use Rattle.stacking.proofs.Layers.{layer_itself, same_layers_lem, keep_layer, held_some, some_held, held_split, held_once}
use Rattle.stacking.proofs.Sort.{some_sorted, count_sorted, keep_sorted}

-- ---- the families of any list
module _ (isChild : LayerId → LayerId → Bool) (xs : List LayerId) (pairs : Pairs xs isChild) where
  abbrev top : LayerId → Bool
  top = is_top isChild xs

  top_no_child : (parent l : LayerId) → top l ≡ true → isChild parent l ≡ false
  top_no_child parent l t = go (isChild parent l) refl
    where
      go : (b : Bool) → isChild parent l ≡ b → b ≡ false
      go true e = let s : some (λ p. isChild p l) xs ≡ true = held_some (λ p. isChild p l) xs parent (pairs.held parent l e) e in absurd (true≢false (sym t ∙ ap not s))
      go false e = refl

  parent_top : (parent l : LayerId) → isChild parent l ≡ true → top parent ≡ true
  parent_top parent l e = ap not (some_never (λ p. isChild p parent) xs (λ p. pairs.one_level parent l p e))

  keep_families : (q : LayerId → Bool) → keep q (families isChild xs) ≡ each (λ p. keep q (p ∷ []) ++ keep q (keep (isChild p) xs)) (keep top xs)
  unfolding families
  keep_families q = keep_each q (λ p. p ∷ keep (isChild p) xs) (keep top xs) ∙ each_same _ _ (keep top xs) (λ p. keep_append q (p ∷ []) (keep (isChild p) xs))

  -- the top layers of the families are those of the list
  keep_tops : (q : LayerId → Bool) → keep (λ l. top l && q l) (families isChild xs) ≡ keep (λ l. top l && q l) xs
  keep_tops q =
      keep_families (λ l. top l && q l)
      ∙ each_same _ _ (keep top xs) (λ p. ap (◌++◌ (keep (λ l. top l && q l) (p ∷ []))) (none p) ∙ append-nil _)
      ∙ each_one (λ l. top l && q l) (keep top xs)
      ∙ keep_keep (λ l. top l && q l) top xs
      ∙ keep_same _ _ xs (λ l. and_self_left (top l) (q l))
    where
      none : (p : LayerId) → keep (λ l. top l && q l) (keep (isChild p) xs) ≡ []
      none p = keep_keep _ (isChild p) xs ∙ keep_same _ (λ l. false) xs (λ l. go l (top l) (top_no_child p l)) ∙ keep_none xs
        where
          go : (l : LayerId) (t : Bool) → (t ≡ true → isChild p l ≡ false) → (isChild p l && (t && q l)) ≡ false
          go l true f = rw (f refl)
          go l false f = and-false (isChild p l)

  -- each layer stands in them as often as in the list: once among the tops, or once among the children of one
  module _ (once : (l : LayerId) → holds xs l ≡ true → times xs l ≡ 1) (layer : LayerId) where
    here : List LayerId
    here = keep (λ l. is_layer l layer) xs

    both : times (families isChild xs) layer ≡ length (cond (top layer) here []) + length (keep (λ p. isChild p layer) (keep top xs)) * length here
    unfolding times here
    both =
        ap length (keep_families (λ l. is_layer l layer) ∙ each_same _ _ (keep top xs) (λ p. ap (◌++◌ (keep (λ l. is_layer l layer) (p ∷ []))) (keep_layer (isChild p) layer xs)))
        ∙ each_both (λ p. keep (λ l. is_layer l layer) (p ∷ [])) (λ p. cond (isChild p layer) here []) (keep top xs)
        ∙ (λ i. length ((each_one (λ l. is_layer l layer) (keep top xs) ∙ keep_layer top layer xs) i) + each_where (λ p. isChild p layer) here (keep top xs) i)

    -- a child's one parent
    only : (parent : LayerId) → isChild parent layer ≡ true → (p : LayerId) → isChild p layer ≡ is_layer p parent
    only parent e p = go (isChild p layer) (is_layer p parent) refl refl
      where
        go : (s t : Bool) → isChild p layer ≡ s → is_layer p parent ≡ t → s ≡ t
        go true t a b = sym (layer_itself parent) ∙ ap (λ (x : LayerId). is_layer x parent) (sym (pairs.one_parent p parent layer a e)) ∙ b
        go false true a b = sym a ∙ ap (λ (x : LayerId). isChild x layer) (same_layers_lem p parent b) ∙ e
        go false false a b = refl

    times_families : times (families isChild xs) layer ≡ times xs layer
    unfolding times here
    times_families = both ∙ go (top layer) refl
      where
        one : (parent : LayerId) → holds xs parent ≡ true → isChild parent layer ≡ true → length (keep (λ p. isChild p layer) (keep top xs)) ≡ 1
        one parent held child =
            ap length (keep_same (λ p. isChild p layer) (λ p. is_layer p parent) (keep top xs) (only parent child) ∙ keep_layer top parent xs)
            ∙ ap (λ (t : Bool). length (cond t (keep (λ l. is_layer l parent) xs) [])) (parent_top parent layer child)
            ∙ once parent held

        go : (t : Bool) → top layer ≡ t → length (cond t here []) + length (keep (λ p. isChild p layer) (keep top xs)) * length here ≡ length here
        go true e = rw (keep_same (λ p. isChild p layer) (λ p. false) (keep top xs) (λ p. top_no_child p layer e), keep_none (keep top xs)) (omega arith)
        go false e =
            let (parent, held, child) = some_held (λ p. isChild p layer) xs (not-false (some (λ p. isChild p layer) xs) e) in
            rw (one parent held child) (omega arith)

second : (s t : Bool) → (s && t) ≡ true → t ≡ true
second true t e = e
second false t e = absurd (true≢false (sym e))

-- ---- the families of the sorted list
module _ (raised : LayerId → Bool) (isChild : LayerId → LayerId → Bool) (order : List LayerId) (orders : Orders order) (pairs : Pairs order isChild) where
  abbrev ranked : List LayerId
  ranked = sorted raised order

  same_held : (l : LayerId) → holds ranked l ≡ holds order l
  unfolding holds
  same_held l = some_sorted raised order orders (λ x. is_layer x l)

  same_tops : (l : LayerId) → is_top isChild ranked l ≡ is_top isChild order l
  same_tops l = ap not (some_sorted raised order orders (λ p. isChild p l))

  pub pairs_ranked : Pairs ranked isChild
  pairs_ranked = record { held = λ p c e. same_held p ∙ pairs.held p c e; same_order = pairs.same_order; one_parent = pairs.one_parent; one_level = pairs.one_level }

  pub stack_layers : Distinct order → (layer : LayerId) → times (stacked raised isChild order) layer ≡ times order layer
  unfolding stacked times
  stack_layers d layer = times_families isChild ranked pairs_ranked (λ l h. count l ∙ held_once order l d (sym (same_held l) ∙ h)) layer ∙ count layer
    where
      count : (l : LayerId) → times ranked l ≡ times order l
      count l = count_sorted raised order orders (λ x. is_layer x l)

  pub stack_tops : (o : ℕ)
      → keep (λ l. is_top isChild order l && eqb l.order o) (stacked raised isChild order)
      ≡ keep (λ l. is_top isChild order l && (eqb l.order o && not (raised l))) order ++ keep (λ l. is_top isChild order l && (eqb l.order o && raised l)) order
  unfolding stacked
  stack_tops o =
      keep_same _ _ (families isChild ranked) (λ l. sym (tops l))
      ∙ keep_tops isChild ranked pairs_ranked (λ l. eqb l.order o)
      ∙ keep_same _ _ ranked tops
      ∙ keep_sorted raised order orders (λ l. is_top isChild order l && eqb l.order o) o (λ l e. eqb-true l.order o (second (is_top isChild order l) (eqb l.order o) e))
      ∙ (λ i. keep_same _ _ order (λ l. and_assoc (is_top isChild order l) (eqb l.order o) (not (raised l))) i ++ keep_same _ _ order (λ l. and_assoc (is_top isChild order l) (eqb l.order o) (raised l)) i)
    where
      tops : (l : LayerId) → (is_top isChild ranked l && eqb l.order o) ≡ (is_top isChild order l && eqb l.order o)
      tops l = ap (λ (t : Bool). t && eqb l.order o) (same_tops l)

  pub stack_children : (parent : LayerId) → holds order parent ≡ true → is_top isChild order parent ≡ true → (below : List LayerId) × (above : List LayerId)
      × (stacked raised isChild order ≡ below ++ (parent ∷ (keep (λ l. isChild parent l && not (raised l)) order ++ keep (λ l. isChild parent l && raised l) order)) ++ above)
  unfolding stacked families keep each
  stack_children parent h t =
      let (a, b, e) = held_split ranked parent (same_held parent ∙ h) in
      (each family (keep top a), each family (keep top b), ap (λ (xs : List LayerId). each family (keep top xs)) e ∙ around a b)
    where
      top : LayerId → Bool
      top = is_top isChild ranked

      family : LayerId → List LayerId
      family p = p ∷ keep (isChild p) ranked

      tops : (a b : List LayerId) → keep top (a ++ parent ∷ b) ≡ keep top a ++ parent ∷ keep top b
      tops a b = keep_append top a (parent ∷ b) ∙ rw (same_tops parent ∙ t)

      lower : List LayerId
      lower = keep (λ l. isChild parent l && not (raised l)) order

      upper : List LayerId
      upper = keep (λ l. isChild parent l && raised l) order

      children : keep (isChild parent) ranked ≡ lower ++ upper
      children = keep_sorted raised order orders (isChild parent) parent.order (λ l e. sym (pairs.same_order parent l e))

      around : (a b : List LayerId) → each family (keep top (a ++ parent ∷ b)) ≡ each family (keep top a) ++ (parent ∷ (lower ++ upper)) ++ each family (keep top b)
      around a b =
          ap (each family) (tops a b)
          ∙ each_append family (keep top a) (parent ∷ keep top b)
          ∙ sym (append_assoc (each family (keep top a)) (family parent) (each family (keep top b)))
          ∙ ap (λ (ys : List LayerId). each family (keep top a) ++ (parent ∷ ys) ++ each family (keep top b)) children
