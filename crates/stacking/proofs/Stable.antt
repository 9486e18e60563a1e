-- Laws of the stable sort: what is kept of it, how many there are, and the sort of two keys. Assumes nothing.
use mathlib.Core.Path.{◌≡◌, refl, ap, ◌∙◌}
use mathlib.Core.Bool.{Bool, true, false, cond}
use mathlib.Core.List.{List, [], ◌∷◌, ◌++◌}
use Prim.Native.Nat.{ℕ, zero, suc}
use lib.Dec.{eqb, ltb}
use lib.ListN.{length}
use Rattle.stacking.specs.Lists.{keep, some, stable}
use Rattle.stacking.specs.Insertion.{insert_by}
use Rattle.stacking.proofs.Lists.{keep_append, keep_turned, some_count, All, all_keep}
use Rattle.stacking.proofs.Insertion.{at_least, below, stable_above, stable_insert, stable_empty}

module _ {A : Type 0} (key : A → ℕ) where
  pub keep_stable : (p : A → Bool) (k : ℕ) (xs : List A) → keep p (stable key k xs) ≡ stable key k (keep p xs)
  unfolding stable keep
  keep_stable p zero xs = refl
  keep_stable p (suc k) xs = keep_append p (stable key k xs) (keep (λ x. eqb (key x) k) xs) ∙ (λ i. keep_stable p k xs i ++ keep_turned p (λ x. eqb (key x) k) xs i)

  -- ---- how many there are
  length_insert : (x : A) (ys : List A) → length (insert_by key x ys) ≡ suc (length ys)
  unfolding insert_by
  length_insert x [] = refl
  length_insert x (y ∷ ys) = go (ltb (key y) (key x)) (length_insert x ys)
    where
      go : (t : Bool) → length (insert_by key x ys) ≡ suc (length ys) → length (cond t (y ∷ insert_by key x ys) (x ∷ y ∷ ys)) ≡ suc (suc (length ys))
      go true h = ap suc h
      go false h = refl

  length_stable : (k : ℕ) (xs : List A) → All (below key k) xs → length (stable key k xs) ≡ length xs
  unfolding All
  length_stable k [] h = ap length (stable_empty key k)
  length_stable k (x ∷ xs) h = ap length (stable_insert key x xs k h.0) ∙ length_insert x (stable key k xs) ∙ ap suc (length_stable k xs h.1)

  module _ (k : ℕ) (xs : List A) (h : All (below key k) xs) (p : A → Bool) where
    pub count_stable : length (keep p (stable key k xs)) ≡ length (keep p xs)
    count_stable = ap length (keep_stable p k xs) ∙ length_stable k (keep p xs) (all_keep (below key k) p xs h)

    pub some_stable : some p (stable key k xs) ≡ some p xs
    some_stable = rw (some_count p xs, some_count p (stable key k xs), count_stable)

  -- ---- where each key is a or a + 1
  stable_none : (k : ℕ) (xs : List A) → All (at_least key k) xs → stable key k xs ≡ []
  unfolding All
  stable_none k [] h = stable_empty key k
  stable_none k (x ∷ xs) h = stable_above key x xs k h.0 ∙ stable_none k xs h.1

  stable_any : (k m : ℕ) (xs : List A) → All (below key k) xs → All (below key m) xs → stable key k xs ≡ stable key m xs
  unfolding All
  stable_any k m [] h g = rw (stable_empty key k, stable_empty key m)
  stable_any k m (x ∷ xs) h g = rw (stable_insert key x xs k h.0, stable_insert key x xs m g.0, stable_any k m xs h.1 g.1)

  pub stable_two : (a k : ℕ) (xs : List A) → All (at_least key a) xs → All (below key (suc (suc a))) xs → All (below key k) xs
      → stable key k xs ≡ keep (λ x. eqb (key x) a) xs ++ keep (λ x. eqb (key x) (suc a)) xs
  unfolding stable
  stable_two a k xs l h g = stable_any k (suc (suc a)) xs g h ∙ rw (stable_none a xs l)
