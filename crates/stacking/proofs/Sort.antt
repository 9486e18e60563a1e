-- The sort by Order: it has the layers that there were, and of one Order the raised ones come last. Assumes nothing.
use mathlib.Core.Path.{◌≡◌, refl, ◌∙◌}
use mathlib.Core.Bool.{Bool, true, false, not, ◌&&◌}
use mathlib.Core.List.{List, [], ◌∷◌, ◌++◌}
use Prim.Native.Nat.{ℕ, suc, ◌+◌, ◌*◌, ◌<◌, ◌≤◌}
use native.Mathlib.Omega.{arith}
use lib.Dec.{eqb}
use lib.ListN.{length}
use borrow.Author.Tests.{eq-eqb, ne_eqb}
use Rattle.refusal.specs.Limits.{last_order}
use Rattle.layers.specs.declared.LayerId.{LayerId}
use Rattle.stacking.specs.Lists.{keep, some}
use Rattle.stacking.specs.Stacking.{key_of, sorted, Orders}
use Rattle.stacking.proofs.Lists.{keep_keep, keep_same, All, all_keep, all_kept}
use Rattle.stacking.proofs.Insertion.{at_least, below}
use Rattle.stacking.proofs.Stable.{keep_stable, count_stable, some_stable, stable_two}

both_same : (t a b : Bool) → (t ≡ true → a ≡ b) → (t && a) ≡ (t && b)
both_same true a b f = f refl
both_same false a b f = refl

-- ---- the sort
module _ (raised : LayerId → Bool) where
  pub key_from : (l : LayerId) → 2 * l.order ≤ key_of raised l
  key_from l = omega arith

  pub key_below : (l : LayerId) → key_of raised l < suc (suc (2 * l.order))
  key_below l = go (raised l) refl
    where
      go : (t : Bool) → raised l ≡ t → key_of raised l < suc (suc (2 * l.order))
      go true e = rw e (omega arith)
      go false e = rw e (omega arith)

  not_raised : (l : LayerId) → eqb (key_of raised l) (2 * l.order) ≡ not (raised l)
  not_raised l = go (raised l) refl
    where
      go : (t : Bool) → raised l ≡ t → eqb (key_of raised l) (2 * l.order) ≡ not (raised l)
      go true e = ne_eqb (key_of raised l) (2 * l.order) (rw e (λ q. omega arith)) ∙ rw e
      go false e = eq-eqb (key_of raised l) (2 * l.order) (rw e (omega arith)) ∙ rw e

  is_raised : (l : LayerId) → eqb (key_of raised l) (suc (2 * l.order)) ≡ raised l
  is_raised l = go (raised l) refl
    where
      go : (t : Bool) → raised l ≡ t → eqb (key_of raised l) (suc (2 * l.order)) ≡ raised l
      go true e = eq-eqb (key_of raised l) (suc (2 * l.order)) (rw e (omega arith)) ∙ rw e
      go false e = ne_eqb (key_of raised l) (suc (2 * l.order)) (rw e (λ q. omega arith)) ∙ rw e

  keys_below : (order : List LayerId) → Orders order → All (below (key_of raised) (2 * (last_order + 1))) order
  unfolding Orders All
  keys_below [] h = tt
  keys_below (l ∷ order) h = (omega (arith, key_below l), keys_below order h.1)

  module _ (order : List LayerId) (orders : Orders order) where
    -- those of one Order: the ones not raised, then the raised ones
    pub keep_sorted : (p : LayerId → Bool) (o : ℕ) → ((l : LayerId) → p l ≡ true → l.order ≡ o)
        → keep p (sorted raised order) ≡ keep (λ l. p l && not (raised l)) order ++ keep (λ l. p l && raised l) order
    unfolding sorted
    keep_sorted p o f =
        keep_stable key p (2 * (last_order + 1)) order
        ∙ stable_two key (2 * o) (2 * (last_order + 1)) (keep p order)
        (all_kept (at_least key (2 * o)) p order (λ l e. omega (arith, f l e, key_from l)))
        (all_kept (below key (suc (suc (2 * o)))) p order (λ l e. omega (arith, f l e, key_below l)))
        (all_keep (below key (2 * (last_order + 1))) p order (keys_below order orders))
        ∙ (λ i. low i ++ high i)
      where
        key : LayerId → ℕ
        key = key_of raised

        low : keep (λ l. eqb (key l) (2 * o)) (keep p order) ≡ keep (λ l. p l && not (raised l)) order
        low = keep_keep _ p order ∙ keep_same _ _ order (λ l. both_same (p l) _ _ (λ e. rw (← f l e) (not_raised l)))

        high : keep (λ l. eqb (key l) (suc (2 * o))) (keep p order) ≡ keep (λ l. p l && raised l) order
        high = keep_keep _ p order ∙ keep_same _ _ order (λ l. both_same (p l) _ _ (λ e. rw (← f l e) (is_raised l)))

    -- the same layers
    pub some_sorted : (p : LayerId → Bool) → some p (sorted raised order) ≡ some p order
    unfolding sorted
    some_sorted p = some_stable (key_of raised) (2 * (last_order + 1)) order (keys_below order orders) p

    pub count_sorted : (p : LayerId → Bool) → length (keep p (sorted raised order)) ≡ length (keep p order)
    unfolding sorted
    count_sorted p = count_stable (key_of raised) (2 * (last_order + 1)) order (keys_below order orders) p
