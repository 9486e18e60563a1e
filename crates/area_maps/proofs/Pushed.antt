-- Laws of the list of layers with one more pushed onto it, and of the pairs with one more. Assumes nothing.
use mathlib.Core.Path.{◌≡◌, refl, sym, ◌∙◌}
use mathlib.Core.Bool.{Bool, true, false, true≢false, cond, ◌&&◌, ◌||◌}
use mathlib.Core.List.{List, [], ◌∷◌, ◌++◌}
use Prim.Native.Nat.{◌≤◌}
use Rattle.refusal.specs.Limits.{last_order}
use Rattle.layers.specs.declared.LayerId.{LayerId}
use Rattle.layers.specs.Layers.{is_layer}
use Rattle.stacking.specs.Lists.{some}
use Rattle.stacking.specs.Stacking.{holds, Distinct, Orders, Pairs}
use Rattle.stacking.proofs.Layers.{same_layers_lem, layer_itself}
use Rattle.area_maps.specs.Egui.{pushed}

-- ---- one of two, and both
pub or-true : (a b : Bool) (C : Type 0) → a || b ≡ true → (a ≡ true → C) → (b ≡ true → C) → C
or-true true b C h f g = f refl
or-true false b C h f g = g h

pub or_false : (a b : Bool) → a || b ≡ false → (a ≡ false) × (b ≡ false)
or_false true b h = absurd (true≢false h)
or_false false b h = (refl, h)

pub and-true : (a b : Bool) → a && b ≡ true → (a ≡ true) × (b ≡ true)
and-true true b h = (refl, h)
and-true false b h = absurd (true≢false (sym h))

pub or_right : (a b : Bool) → b ≡ true → a || b ≡ true
or_right true b h = refl
or_right false b h = h

pub turned : (a b : LayerId) → is_layer a b ≡ false → is_layer b a ≡ false
turned a b h = go (is_layer b a) refl
  where
    go : (t : Bool) → is_layer b a ≡ t → t ≡ false
    go true e = absurd (true≢false (sym (rw (same_layers_lem b a e) (layer_itself a)) ∙ h))
    go false e = refl

-- ---- a layer after the others
module _ (l : LayerId) where
  holds_last : (order : List LayerId) (x : LayerId) → holds (order ++ (l ∷ [])) x ≡ holds order x || is_layer l x
  unfolding holds some
  holds_last [] x = or_nothing (is_layer l x)
    where
      or_nothing : (a : Bool) → a || false ≡ a
      or_nothing true = refl
      or_nothing false = refl
  holds_last (y ∷ order) x = go (is_layer y x) (holds_last order x)
    where
      go : (a : Bool) → holds (order ++ (l ∷ [])) x ≡ holds order x || is_layer l x → a || holds (order ++ (l ∷ [])) x ≡ (a || holds order x) || is_layer l x
      go true h = refl
      go false h = h

  distinct_last : (order : List LayerId) → Distinct order → holds order l ≡ false → Distinct (order ++ (l ∷ []))
  unfolding holds some Distinct
  distinct_last [] d h = (refl, tt)
  distinct_last (y ∷ order) d h =
      let (p, q) = or_false (is_layer y l) (holds order l) h in
      (rw (holds_last order y, d.0) (turned y l p), distinct_last order d.1 q)

  orders_last : (order : List LayerId) → Orders order → l.order ≤ last_order → Orders (order ++ (l ∷ []))
  unfolding Orders
  orders_last [] o h = (h, tt)
  orders_last (y ∷ order) o h = (o.0, orders_last order o.1 h)

  module _ (order : List LayerId) where
    pub pushed_distinct : Distinct order → Distinct (pushed order l)
    pushed_distinct d = go (holds order l) refl
      where
        go : (t : Bool) → holds order l ≡ t → Distinct (cond t order (order ++ (l ∷ [])))
        go true e = d
        go false e = distinct_last order d e

    pub pushed_orders : Orders order → l.order ≤ last_order → Orders (pushed order l)
    pushed_orders o h = go (holds order l)
      where
        go : (t : Bool) → Orders (cond t order (order ++ (l ∷ [])))
        go true = o
        go false = orders_last order o h

    pub pushed_still : (x : LayerId) → holds order x ≡ true → holds (pushed order l) x ≡ true
    pushed_still x h = go (holds order l)
      where
        go : (t : Bool) → holds (cond t order (order ++ (l ∷ []))) x ≡ true
        go true = h
        go false = rw (holds_last order x, h)

    pub pushed_self : holds (pushed order l) l ≡ true
    pushed_self = go (holds order l) refl
      where
        go : (t : Bool) → holds order l ≡ t → holds (cond t order (order ++ (l ∷ []))) l ≡ true
        go true e = e
        go false e = rw (holds_last order l) (or_right (holds order l) (is_layer l l) (layer_itself l))

-- ---- pairs of a longer list, and one more pair
pub pairs_still : (order order' : List LayerId) (c c' : LayerId → LayerId → Bool) → ((x : LayerId) → holds order x ≡ true → holds order' x ≡ true) → ((p x : LayerId) → c' p x ≡ c p x) → Pairs order c → Pairs order' c'
pairs_still order order' c c' h e p = record {
  held = λ parent child t. h parent (p.held parent child (sym (e parent child) ∙ t));
  same_order = λ parent child t. p.same_order parent child (sym (e parent child) ∙ t);
  one_parent = λ parent other child t u. p.one_parent parent other child (sym (e parent child) ∙ t) (sym (e other child) ∙ u);
  one_level = λ parent child other t. e other parent ∙ p.one_level parent child other (sym (e parent child) ∙ t);
}

pub no_pairs : (order : List LayerId) (c : LayerId → LayerId → Bool) → ((p x : LayerId) → c p x ≡ false) → Pairs order c
no_pairs order c e = record {
  held = λ parent child t. absurd (true≢false (sym t ∙ e parent child));
  same_order = λ parent child t. absurd (true≢false (sym t ∙ e parent child));
  one_parent = λ parent other child t u. absurd (true≢false (sym t ∙ e parent child));
  one_level = λ parent child other t. e other parent;
}

module _ (order order' : List LayerId) (old new : LayerId → LayerId → Bool) (parent child : LayerId) where
  pub one_pair : ((x : LayerId) → holds order x ≡ true → holds order' x ≡ true) → holds order' parent ≡ true → ((p x : LayerId) → new p x ≡ (is_layer parent p && is_layer child x) || old p x)
      → parent.order ≡ child.order → is_layer child parent ≡ false → ((p : LayerId) → old p child ≡ true → p ≡ parent) → ((x : LayerId) → old child x ≡ false) → ((p : LayerId) → old p parent ≡ false)
      → Pairs order old → Pairs order' new
  one_pair still here is same apart alone top root pairs = record {
    held = λ p x t. both p x t (holds order' p ≡ true) (λ a b. rw (sym a) here) (λ o. still p (pairs.held p x o));
    same_order = λ p x t. both p x t (p.order ≡ x.order) (λ a b. rw (sym a, sym b) same) (λ o. pairs.same_order p x o);
    one_parent = λ p q x t u. both p x t (p ≡ q) (λ a b. both q x u (p ≡ q) (λ a' b'. sym a ∙ a') (λ o. sym a ∙ sym (alone q (rw b o)))) (λ o. both q x u (p ≡ q) (λ a' b'. alone p (rw b' o) ∙ a') (λ o'. pairs.one_parent p q x o o'));
    one_level = λ p x q t. is q p ∙ level p x q t;
  }
    where
      both : (p x : LayerId) → new p x ≡ true → (C : Type 0) → (parent ≡ p → child ≡ x → C) → (old p x ≡ true → C) → C
      both p x t C f g = or-true (is_layer parent p && is_layer child x) (old p x) C (sym (is p x) ∙ t) (λ h. let (a, b) = and-true (is_layer parent p) (is_layer child x) h in f (same_layers_lem parent p a) (same_layers_lem child x b)) g

      neither : (a b c : Bool) → b ≡ false → c ≡ false → (a && b) || c ≡ false
      neither true b c h k = rw (h, k)
      neither false b c h k = k

      not_child : (p x : LayerId) → old p x ≡ true → is_layer child p ≡ false
      not_child p x o = go (is_layer child p) refl
        where
          go : (t : Bool) → is_layer child p ≡ t → t ≡ false
          go true e = absurd (true≢false (sym o ∙ rw (sym (same_layers_lem child p e)) (top x)))
          go false e = refl

      level : (p x q : LayerId) → new p x ≡ true → (is_layer parent q && is_layer child p) || old q p ≡ false
      level p x q t = both p x t ((is_layer parent q && is_layer child p) || old q p ≡ false)
          (λ a b. neither (is_layer parent q) (is_layer child p) (old q p) (rw (sym a) apart) (rw (sym a) (root q)))
          (λ o. neither (is_layer parent q) (is_layer child p) (old q p) (not_child p x o) (pairs.one_level p x q o))
