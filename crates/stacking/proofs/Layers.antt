-- Laws of layers in a list: which are one, which are held, and those that are held once. Assumes nothing.
use mathlib.Core.Path.{◌≡◌, refl, sym, ap, ◌∙◌}
use mathlib.Core.Bool.{Bool, true, false, cond, ◌&&◌, ◌||◌, and-false, or-true, false≢true}
use mathlib.Core.List.{List, [], ◌∷◌, ◌++◌}
use lib.Dec.{eqb}
use lib.ListN.{length}
use borrow.Author.Tests.{eqb-true, eq-eqb}
use Rattle.layers.specs.declared.LayerId.{LayerId}
use Rattle.layers.specs.Layers.{is_layer}
use Rattle.stacking.specs.Lists.{keep, some}
use Rattle.stacking.specs.Stacking.{holds, Distinct, times}
use Rattle.stacking.proofs.Lists.{keep_keep, keep_same, keep_none, none_kept, All}

pub same_layers_lem : (a b : LayerId) → is_layer a b ≡ true → a ≡ b
unfolding is_layer
same_layers_lem a b e = go (eqb a.order b.order) (eqb a.id b.id) (eqb-true a.order b.order) (eqb-true a.id b.id) e
  where
    go : (s t : Bool) → (s ≡ true → a.order ≡ b.order) → (t ≡ true → a.id ≡ b.id) → (s && t) ≡ true → a ≡ b
    go true true f g h = λ i. record { order = f refl i; id = g refl i }
    go true false f g h = absurd (false≢true h)
    go false t f g h = absurd (false≢true h)

pub layer_itself : (a : LayerId) → is_layer a a ≡ true
unfolding is_layer
layer_itself a = rw (eq-eqb a.order a.order refl, eq-eqb a.id a.id refl)

-- ---- one layer of those that are kept
module _ (p : LayerId → Bool) (layer : LayerId) where
  at_layer : (l : LayerId) → (p l && is_layer l layer) ≡ (p layer && is_layer l layer)
  at_layer l = go (is_layer l layer) (same_layers_lem l layer)
    where
      go : (t : Bool) → (t ≡ true → l ≡ layer) → (p l && t) ≡ (p layer && t)
      go true f = ap (λ (x : LayerId). p x && true) (f refl)
      go false f = and-false (p l) ∙ sym (and-false (p layer))

  pub keep_layer : (xs : List LayerId) → keep (λ l. is_layer l layer) (keep p xs) ≡ cond (p layer) (keep (λ l. is_layer l layer) xs) []
  keep_layer xs = keep_keep (λ l. is_layer l layer) p xs ∙ keep_same _ _ xs at_layer ∙ go (p layer)
    where
      go : (t : Bool) → keep (λ l. t && is_layer l layer) xs ≡ cond t (keep (λ l. is_layer l layer) xs) []
      go true = refl
      go false = keep_none xs

-- ---- what is held
pub held_some : (p : LayerId → Bool) (xs : List LayerId) (l : LayerId) → holds xs l ≡ true → p l ≡ true → some p xs ≡ true
unfolding holds some
held_some p [] l h e = h
held_some p (x ∷ xs) l h e = go (is_layer x l) (p x) h (λ s. ap p (same_layers_lem x l s) ∙ e) (λ g. held_some p xs l g e)
  where
    go : (s t : Bool) → (s || holds xs l) ≡ true → (s ≡ true → t ≡ true) → (holds xs l ≡ true → some p xs ≡ true) → (t || some p xs) ≡ true
    go s true h f g = refl
    go true false h f g = absurd (false≢true (f refl))
    go false false h f g = g h

pub some_held : (p : LayerId → Bool) (xs : List LayerId) → some p xs ≡ true → (l : LayerId) × (holds xs l ≡ true) × (p l ≡ true)
unfolding holds some
some_held p [] h = absurd (false≢true h)
some_held p (x ∷ xs) h = go (p x) refl h (some_held p xs)
  where
    go : (t : Bool) → p x ≡ t → (t || some p xs) ≡ true → (some p xs ≡ true → (l : LayerId) × (holds xs l ≡ true) × (p l ≡ true)) → (l : LayerId) × (holds (x ∷ xs) l ≡ true) × (p l ≡ true)
    go true e h rest = (x, rw (layer_itself x), e)
    go false e h rest = let (l, g, q) = rest h in (l, rw (g, or-true), q)

pub all_held : (P : LayerId → Type 0) (xs : List LayerId) (l : LayerId) → All P xs → holds xs l ≡ true → P l
unfolding All holds some
all_held P [] l a h = absurd (false≢true h)
all_held P (x ∷ xs) l a h = go (is_layer x l) (same_layers_lem x l) h (all_held P xs l a.1)
  where
    go : (s : Bool) → (s ≡ true → x ≡ l) → (s || holds xs l) ≡ true → (holds xs l ≡ true → P l) → P l
    go true f h rest = rw (f refl) at a.0
    go false f h rest = rest h

pub held_split : (xs : List LayerId) (l : LayerId) → holds xs l ≡ true → (a : List LayerId) × (b : List LayerId) × (xs ≡ a ++ l ∷ b)
unfolding holds some
held_split [] l h = absurd (false≢true h)
held_split (x ∷ xs) l h = go (is_layer x l) (same_layers_lem x l) h (held_split xs l)
  where
    go : (s : Bool) → (s ≡ true → x ≡ l) → (s || holds xs l) ≡ true → (holds xs l ≡ true → (a : List LayerId) × (b : List LayerId) × (xs ≡ a ++ l ∷ b))
        → (a : List LayerId) × (b : List LayerId) × (x ∷ xs ≡ a ++ l ∷ b)
    go true f h rest = ([], xs, ap (λ (y : LayerId). y ∷ xs) (f refl))
    go false f h rest = let (a, b, e) = rest h in (x ∷ a, b, ap (◌∷◌ x) e)

pub held_once : (xs : List LayerId) (l : LayerId) → Distinct xs → holds xs l ≡ true → times xs l ≡ 1
unfolding Distinct times holds some keep
held_once [] l d h = absurd (false≢true h)
held_once (x ∷ xs) l d h = go (is_layer x l) (same_layers_lem x l) h (held_once xs l d.1)
  where
    go : (s : Bool) → (s ≡ true → x ≡ l) → (s || holds xs l) ≡ true → (holds xs l ≡ true → times xs l ≡ 1) → length (cond s (x ∷ keep (λ y. is_layer y l) xs) (keep (λ y. is_layer y l) xs)) ≡ 1
    go true f h rest = rw (none_kept (λ y. is_layer y l) xs (rw (f refl) at d.0))
    go false f h rest = rest h
