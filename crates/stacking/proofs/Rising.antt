-- The stack is sorted by Order. Assumes nothing.
use mathlib.Core.Bool.{Bool, true, false, cond}
use mathlib.Core.List.{List, [], ◌∷◌, ◌++◌}
use Prim.Native.Nat.{ℕ, zero, suc, ◌+◌, ◌*◌, ◌≤◌}
use native.Mathlib.Omega.{arith}
use lib.Dec.{eqb}
use Rattle.refusal.specs.Limits.{last_order}
use Rattle.layers.specs.declared.LayerId.{LayerId}
use Rattle.stacking.specs.Lists.{keep, each, stable}
use Rattle.stacking.specs.Stacking.{key_of, sorted, is_top, families, stacked, Pairs, Rising}
use Rattle.stacking.proofs.Lists.{All, all_append, all_imply, all_keep, all_kept, all_each}
use Rattle.stacking.proofs.Insertion.{at_least, below, same_at_least, same_below, below_more, stable_below}
use Rattle.stacking.proofs.Layers.{all_held}
use Rattle.stacking.proofs.Sort.{key_from, key_below}

-- ---- lists in the order of their keys
module _ {A : Type 0} (key : A → ℕ) where
  Sorted : List A → Type 0
  Sorted [] = Unit {0}
  Sorted (x ∷ xs) = All (at_least key (key x)) xs × Sorted xs

  -- what is at least k is at least a lower key
  raise : (x : A) (k : ℕ) (xs : List A) → key x ≤ k → All (at_least key k) xs → All (at_least key (key x)) xs
  raise x k xs h a = all_imply (at_least key k) (at_least key (key x)) xs (λ y g. omega arith) a

  sorted_append : (k : ℕ) (xs ys : List A) → All (below key (suc k)) xs → All (at_least key k) ys → Sorted xs → Sorted ys → Sorted (xs ++ ys)
  unfolding Sorted All
  sorted_append k [] ys b a s t = t
  sorted_append k (x ∷ xs) ys b a s t = (all_append (at_least key (key x)) xs ys s.0 (raise x k ys (omega arith) a), sorted_append k xs ys b.1 a s.1 t)

  sorted_flat : (k : ℕ) (xs : List A) → All (below key (suc k)) xs → All (at_least key k) xs → Sorted xs
  unfolding Sorted All
  sorted_flat k [] b a = tt
  sorted_flat k (x ∷ xs) b a = (raise x k xs (omega arith) a.1, sorted_flat k xs b.1 a.1)

  sorted_stable : (k : ℕ) (xs : List A) → Sorted (stable key k xs)
  unfolding Sorted stable
  sorted_stable zero xs = tt
  sorted_stable (suc k) xs =
      sorted_append k (stable key k xs) same (below_more key k (stable key k xs) (stable_below key k xs)) least (sorted_stable k xs) (sorted_flat k same (same_below key k xs) least)
    where
      same : List A
      same = keep (λ x. eqb (key x) k) xs

      least : All (at_least key k) same
      least = same_at_least key k k xs (omega arith)

  sorted_keep : (p : A → Bool) (xs : List A) → Sorted xs → Sorted (keep p xs)
  unfolding Sorted keep
  sorted_keep p [] s = tt
  sorted_keep p (x ∷ xs) s = go (p x) (sorted_keep p xs s.1)
    where
      go : (t : Bool) → Sorted (keep p xs) → Sorted (cond t (x ∷ keep p xs) (keep p xs))
      go true h = (all_keep (at_least key (key x)) p xs s.0, h)
      go false h = h

  -- each element put for those of its key
  sorted_each : (f : A → List A) (xs : List A) → ((x : A) → All (at_least key (key x)) (f x)) → ((x : A) → All (below key (suc (key x))) (f x)) → Sorted xs → Sorted (each f xs)
  unfolding Sorted each
  sorted_each f [] a b s = tt
  sorted_each f (x ∷ xs) a b s =
      sorted_append (key x) (f x) (each f xs) (b x) (all_each (at_least key (key x)) f xs (λ y h. raise x (key y) (f y) h (a y)) s.0) (sorted_flat (key x) (f x) (b x) (a x)) (sorted_each f xs a b s.1)

sorted_imply : {A : Type 0} (key other : A → ℕ) (xs : List A) → ((x y : A) → key x ≤ key y → other x ≤ other y) → Sorted key xs → Sorted other xs
unfolding Sorted
sorted_imply key other [] f s = tt
sorted_imply key other (x ∷ xs) f s = (all_imply (at_least key (key x)) (at_least other (other x)) xs (λ y h. f x y h) s.0, sorted_imply key other xs f s.1)

-- ---- layers
abbrev order_of : LayerId → ℕ
order_of l = l.order

sorted_rising : (xs : List LayerId) → Sorted order_of xs → Rising xs
unfolding Sorted Rising
sorted_rising [] s = tt
sorted_rising (l ∷ xs) s = (λ other h. all_held (at_least order_of l.order) xs other s.0 h, sorted_rising xs s.1)

pub stacked_rising : (raised : LayerId → Bool) (isChild : LayerId → LayerId → Bool) (order : List LayerId) → Pairs order isChild → Rising (stacked raised isChild order)
unfolding stacked families sorted All
stacked_rising raised isChild order pairs =
    sorted_rising _ (sorted_each order_of family tops
    (λ x. (omega arith, all_kept (at_least order_of x.order) (isChild x) s (λ y e. omega (arith, pairs.same_order x y e))))
    (λ x. (omega arith, all_kept (below order_of (suc x.order)) (isChild x) s (λ y e. omega (arith, pairs.same_order x y e))))
    (sorted_keep order_of (is_top isChild s) s (sorted_imply (key_of raised) order_of s (λ x y h. omega (arith, key_from raised x, key_below raised y)) (sorted_stable (key_of raised) (2 * (last_order + 1)) _))))
  where
    s : List LayerId
    s = sorted raised order

    family : LayerId → List LayerId
    family p = p ∷ keep (isChild p) s

    tops : List LayerId
    tops = keep (is_top isChild s) s
