-- The loop over the parents gives each top layer followed by its children, in whatever order it takes them. Assumes nothing.
use mathlib.Core.Path.{◌≡◌, refl, sym, ap, ◌∙◌}
use mathlib.Core.Bool.{Bool, true, false, cond, not, ◌&&◌, ◌||◌, and-false, and-true, or-true, true≢false, false≢true}
use mathlib.Core.List.{List, [], ◌∷◌, ◌++◌, append-nil}
use Rattle.layers.specs.declared.LayerId.{LayerId}
use Rattle.layers.specs.Layers.{is_layer}
use Rattle.stacking.specs.Lists.{keep, some, each}
use Rattle.stacking.specs.Stacking.{is_top, families, moved, holds, Distinct, Pairs}
use Rattle.stacking.proofs.Lists.{keep_append, keep_keep, keep_same, keep_none, some_never, each_same, each_append, each_one, keep_each}
use Rattle.stacking.proofs.Layers.{layer_itself, same_layers_lem, held_some}

-- ---- laws of `each`
module _ {A : Type 0} where
  each_each : (f g : A → List A) (xs : List A) → each g (each f xs) ≡ each (λ x. each g (f x)) xs
  unfolding each
  each_each f g [] = refl
  each_each f g (x ∷ xs) = each_append g (f x) (each f xs) ∙ ap (◌++◌ (each g (f x))) (each_each f g xs)

  -- those that stay alone
  each_alone : (f : A → List A) (p : A → Bool) (xs : List A) → ((x : A) → p x ≡ true → f x ≡ x ∷ []) → each f (keep p xs) ≡ keep p xs
  unfolding each keep
  each_alone f p [] h = refl
  each_alone f p (x ∷ xs) h = go (p x) (h x) (each_alone f p xs h)
    where
      go : (t : Bool) → (t ≡ true → f x ≡ x ∷ []) → each f (keep p xs) ≡ keep p xs → each f (cond t (x ∷ keep p xs) (keep p xs)) ≡ cond t (x ∷ keep p xs) (keep p xs)
      go true a rest = λ i. a refl i ++ rest i
      go false a rest = rest

  -- those that give nothing
  each_kept : (f : A → List A) (p : A → Bool) (xs : List A) → each (λ x. cond (p x) (f x) []) xs ≡ each f (keep p xs)
  unfolding each keep
  each_kept f p [] = refl
  each_kept f p (x ∷ xs) = rw (each_kept f p xs) (go (p x))
    where
      go : (t : Bool) → cond t (f x) [] ++ each f (keep p xs) ≡ each f (cond t (x ∷ keep p xs) (keep p xs))
      go true = refl
      go false = refl

  keep_nothing : (p : A → Bool) (xs : List A) → ((x : A) → p x ≡ false) → keep p xs ≡ []
  keep_nothing p xs h = keep_same p (λ x. false) xs h ∙ keep_none xs

layers_turned : (a b : LayerId) → is_layer a b ≡ true → is_layer b a ≡ true
layers_turned a b e = ap (λ (x : LayerId). is_layer b x) (same_layers_lem a b e) ∙ layer_itself b

second : (s t : Bool) → (s && t) ≡ true → t ≡ true
second true t e = e
second false t e = absurd (false≢true e)

module _ (isChild : LayerId → LayerId → Bool) (order : List LayerId) (pairs : Pairs order isChild) where
  -- the pairs of the parents that are done; after these the list is `families (pair done) order`
  abbrev pair : (LayerId → Bool) → LayerId → LayerId → Bool
  pair done parent child = done parent && isChild parent child

  abbrev family : (LayerId → Bool) → LayerId → List LayerId
  family done parent = parent ∷ keep (pair done parent) order

  abbrev top : (LayerId → Bool) → LayerId → Bool
  top done = is_top (pair done) order

  -- a child has no children
  child_alone : (p l : LayerId) (d : Bool) → isChild p l ≡ true → keep (λ c. d && isChild l c) order ≡ []
  child_alone p l d e = keep_nothing _ order (λ c. ap (λ (t : Bool). d && t) (go c (isChild l c) refl) ∙ and-false d)
    where
      go : (c : LayerId) (t : Bool) → isChild l c ≡ t → t ≡ false
      go c true a = absurd (true≢false (sym e ∙ pairs.one_level l c p a))
      go c false a = refl

  -- ---- one step
  module _ (done : LayerId → Bool) (parent : LayerId) (new : done parent ≡ false) where
    abbrev next : LayerId → Bool
    next l = is_layer l parent || done l

    -- the children of the parent are no children of those that are done
    other_child : (p l : LayerId) → isChild parent l ≡ true → pair done p l ≡ false
    other_child p l e = go (done p) (isChild p l) refl refl
      where
        go : (s t : Bool) → done p ≡ s → isChild p l ≡ t → (s && t) ≡ false
        go true true a b = absurd (true≢false (sym a ∙ ap done (pairs.one_parent p parent l b e) ∙ new))
        go true false a b = refl
        go false t a b = refl

    child_top : (l : LayerId) → isChild parent l ≡ true → top done l ≡ true
    child_top l e = ap not (some_never (λ p. pair done p l) order (λ p. other_child p l e))

    keep_family : (q : LayerId → Bool) → keep q (families (pair done) order) ≡ each (λ p. keep q (p ∷ []) ++ keep q (keep (pair done p) order)) (keep (top done) order)
    unfolding families
    keep_family q = keep_each q (family done) (keep (top done) order) ∙ each_same _ _ (keep (top done) order) (λ p. keep_append q (p ∷ []) (keep (pair done p) order))

    -- the children that the step finds
    found : keep (isChild parent) (families (pair done) order) ≡ keep (isChild parent) order
    found =
        keep_family (isChild parent)
        ∙ each_same _ _ (keep (top done) order) (λ p. ap (◌++◌ (keep (isChild parent) (p ∷ []))) (none p) ∙ append-nil _)
        ∙ each_one (isChild parent) (keep (top done) order)
        ∙ keep_keep (isChild parent) (top done) order
        ∙ keep_same _ _ order (λ l. go l (isChild parent l) (child_top l))
      where
        none : (p : LayerId) → keep (isChild parent) (keep (pair done p) order) ≡ []
        none p = keep_keep (isChild parent) (pair done p) order ∙ keep_nothing _ order (λ l. go l (isChild parent l) (other_child p l))
          where
            go : (l : LayerId) (t : Bool) → (t ≡ true → pair done p l ≡ false) → (pair done p l && t) ≡ false
            go l true f = ap (λ (s : Bool). s && true) (f refl)
            go l false f = and-false (pair done p l)

        go : (l : LayerId) (t : Bool) → (t ≡ true → top done l ≡ true) → (top done l && t) ≡ t
        go l true f = ap (λ (s : Bool). s && true) (f refl)
        go l false f = and-false (top done l)

    -- the top layers after the step
    tops : (l : LayerId) → (top done l && not (isChild parent l)) ≡ top next l
    tops l = go (isChild parent l) refl
      where
        here : isChild parent l ≡ true → pair next parent l ≡ true
        here e = rw (layer_itself parent, e)

        same : isChild parent l ≡ false → (p : LayerId) → pair done p l ≡ pair next p l
        same e p = go (is_layer p parent) (same_layers_lem p parent)
          where
            go : (t : Bool) → (t ≡ true → p ≡ parent) → (done p && isChild p l) ≡ ((t || done p) && isChild p l)
            go true f = let n : isChild p l ≡ false = ap (λ (x : LayerId). isChild x l) (f refl) ∙ e in ap (λ (s : Bool). done p && s) n ∙ and-false (done p) ∙ sym n
            go false f = refl

        go : (t : Bool) → isChild parent l ≡ t → (top done l && not t) ≡ top next l
        go true e = and-false (top done l) ∙ sym (ap not (held_some (λ p. pair next p l) order parent (pairs.held parent l e) (here e)))
        go false e = and-true (top done l) ∙ ap (λ (r : LayerId → Bool). not (some r order)) (λ i p. same e p i)

    -- the families of those that are done, without the children of the parent
    stay : (p : LayerId) → keep (λ l. not (isChild parent l)) (keep (pair done p) order) ≡ keep (pair done p) order
    stay p = keep_keep (λ l. not (isChild parent l)) (pair done p) order ∙ keep_same _ _ order (λ l. go l (isChild parent l) (other_child p l))
      where
        go : (l : LayerId) (t : Bool) → (t ≡ true → pair done p l ≡ false) → (pair done p l && not t) ≡ pair done p l
        go l true f = and-false (pair done p l) ∙ sym (f refl)
        go l false f = and-true (pair done p l)

    stay_family : (p : LayerId) → keep (λ l. not (isChild parent l)) (p ∷ []) ++ keep (λ l. not (isChild parent l)) (keep (pair done p) order) ≡ cond (not (isChild parent p)) (family done p) []
    unfolding keep
    stay_family p = ap (◌++◌ (keep (λ l. not (isChild parent l)) (p ∷ []))) (stay p) ∙ go (isChild parent p) (child_alone parent p (done p))
      where
        go : (t : Bool) → (t ≡ true → keep (pair done p) order ≡ []) → cond (not t) (p ∷ []) [] ++ keep (pair done p) order ≡ cond (not t) (family done p) []
        go true f = f refl
        go false f = refl

    left : keep (λ l. not (isChild parent l)) (families (pair done) order) ≡ each (family done) (keep (top next) order)
    left =
        keep_family (λ l. not (isChild parent l))
        ∙ each_same _ _ (keep (top done) order) stay_family
        ∙ each_kept (family done) (λ l. not (isChild parent l)) (keep (top done) order)
        ∙ ap (each (family done)) (keep_keep (λ l. not (isChild parent l)) (top done) order ∙ keep_same _ _ order tops)

    -- what a layer becomes: only the parent gets its children
    put : LayerId → List LayerId
    put l = l ∷ keep (λ c. is_layer l parent && isChild l c) order

    puts : (l : LayerId) → cond (is_layer l parent) (parent ∷ keep (isChild parent) (families (pair done) order)) (l ∷ []) ≡ put l
    unfolding put
    puts l = go (is_layer l parent) (same_layers_lem l parent)
      where
        go : (t : Bool) → (t ≡ true → l ≡ parent) → cond t (parent ∷ keep (isChild parent) (families (pair done) order)) (l ∷ []) ≡ l ∷ keep (λ c. t && isChild l c) order
        go true f = ap (◌∷◌ parent) found ∙ ap (λ (x : LayerId). x ∷ keep (isChild x) order) (sym (f refl))
        go false f = ap (◌∷◌ l) (sym (keep_none order))

    put_family : (p : LayerId) → each put (family done p) ≡ family next p
    unfolding each put
    put_family p = ap (◌++◌ (put p)) (each_alone put (pair done p) order alone) ∙ ap (◌∷◌ p) (go (is_layer p parent) (done p) (same_layers_lem p parent) refl)
      where
        alone : (l : LayerId) → pair done p l ≡ true → put l ≡ l ∷ []
        alone l e = ap (◌∷◌ l) (child_alone p l (is_layer l parent) (second (done p) (isChild p l) e))

        go : (t d : Bool) → (t ≡ true → p ≡ parent) → done p ≡ d → keep (λ c. t && isChild p c) order ++ keep (λ c. d && isChild p c) order ≡ keep (λ c. (t || d) && isChild p c) order
        go true true f a = absurd (true≢false (sym a ∙ ap done (f refl) ∙ new))
        go true false f a = ap (◌++◌ (keep (isChild p) order)) (keep_none order) ∙ append-nil _
        go false d f a = ap (λ (ys : List LayerId). ys ++ keep (λ c. d && isChild p c) order) (keep_none order)

    step : each (λ l. cond (is_layer l parent) (parent ∷ keep (isChild parent) (families (pair done) order)) (l ∷ [])) (keep (λ l. not (isChild parent l)) (families (pair done) order))
        ≡ families (pair next) order
    unfolding families
    step =
        each_same _ _ (keep (λ l. not (isChild parent l)) (families (pair done) order)) puts
        ∙ ap (each put) left
        ∙ each_each (family done) put (keep (top next) order)
        ∙ each_same _ _ (keep (top next) order) put_family

  -- ---- all steps
  steps : (parents : List LayerId) (done : LayerId → Bool) → Distinct parents → ((p : LayerId) → holds parents p ≡ true → done p ≡ false)
      → ((p c : LayerId) → isChild p c ≡ true → (done p || holds parents p) ≡ true) → moved isChild parents (families (pair done) order) ≡ families isChild order
  unfolding moved Distinct holds some
  steps [] done d new all = ap (λ (r : LayerId → LayerId → Bool). families r order) (λ i p c. go (done p) (isChild p c) (all p c) i)
    where
      go : (s t : Bool) → (t ≡ true → (s || false) ≡ true) → (s && t) ≡ t
      go true t f = refl
      go false true f = f refl
      go false false f = refl
  steps (parent ∷ parents) done d new all =
      ap (moved isChild parents) (step done parent first)
      ∙ steps parents (next done parent first) d.1 later rest
    where
      first : done parent ≡ false
      first = new parent (ap (λ (t : Bool). t || holds parents parent) (layer_itself parent))

      later : (p : LayerId) → holds parents p ≡ true → (is_layer p parent || done p) ≡ false
      later p h = go (is_layer p parent) (same_layers_lem p parent)
        where
          go : (t : Bool) → (t ≡ true → p ≡ parent) → (t || done p) ≡ false
          go true f = absurd (true≢false (sym h ∙ ap (holds parents) (f refl) ∙ d.0))
          go false f = new p (ap (λ (t : Bool). is_layer parent p || t) h ∙ or-true (is_layer parent p))

      rest : (p c : LayerId) → isChild p c ≡ true → ((is_layer p parent || done p) || holds parents p) ≡ true
      rest p c e = go (is_layer p parent) (is_layer parent p) (done p) (layers_turned parent p) (all p c e)
        where
          go : (s t u : Bool) → (t ≡ true → s ≡ true) → (u || (t || holds parents p)) ≡ true → ((s || u) || holds parents p) ≡ true
          go true t u f h = refl
          go false true u f h = absurd (false≢true (f refl))
          go false false u f h = h

  -- at first none is done
  none_done : families (pair (λ p. false)) order ≡ order
  unfolding families keep
  none_done = ap (each (family (λ p. false))) (all order) ∙ each_same _ _ order (λ p. ap (◌∷◌ p) (keep_none order)) ∙ each_one (λ p. true) order ∙ keep_all order
    where
      keep_all : (xs : List LayerId) → keep (λ x. true) xs ≡ xs
      keep_all [] = refl
      keep_all (x ∷ xs) = ap (◌∷◌ x) (keep_all xs)

      all : (xs : List LayerId) → keep (top (λ p. false)) xs ≡ xs
      all xs = keep_same _ (λ l. true) xs (λ l. ap not (some_never (λ p. false) order (λ p. refl))) ∙ keep_all xs

  pub moved_families : (parents : List LayerId) → Distinct parents → ((parent child : LayerId) → isChild parent child ≡ true → holds parents parent ≡ true)
      → moved isChild parents order ≡ families isChild order
  moved_families parents d all = ap (moved isChild parents) (sym none_done) ∙ steps parents (λ p. false) d (λ p h. refl) all
