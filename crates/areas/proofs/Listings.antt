-- Laws of the layers of a listing from a row on, as `list` goes over them. Assumes nothing.
use mathlib.Core.Path.{◌≡◌, refl, sym, ap, ◌∙◌}
use mathlib.Core.Bool.{Bool, true, false, cond}
use mathlib.Core.List.{List, [], ◌∷◌, map}
use Prim.Native.Nat.{ℕ, suc, ◌+◌, ◌*◌, ◌-◌, ◌<◌}
use native.Mathlib.Omega.{arith}
use lib.Dec.{ltb}
use lib.ListN.{length, drop, replicate}
use borrow.Author.Tests.{ltb-true, ltb-false}
use lib.Seq.{drop-drop}
use Rattle.refusal.specs.Limits.{layers}
use Rattle.tables.proofs.Written.{Written, all_written}
use Rattle.layers.specs.declared.LayerId.{LayerId}
use Rattle.stacking.specs.Lists.{keep}
use Rattle.layer_rows.specs.declared.Row.{Row}
use Rattle.layer_rows.specs.Rows.{held_rows}
use Rattle.layer_queries.specs.declared.Listing.{Listing}
use Rattle.layer_queries.specs.Queries.{is_listed}
use Rattle.std.specs.Prelude.{Option, None, Some}
use Rattle.area_stack.specs.Stack.{next_layer}
use Rattle.area_stack.proofs.Rows.{past_held}
use Rattle.areas.specs.declared.Areas.{Areas}
use Rattle.areas.specs.Areas.{stack_of, layers_of, no_layer, listed}

-- the layers of a listing among rows
unfoldable pub layers_in : Listing → List Row → List LayerId
layers_in listing rows = map (λ (r : Row). r.layer) (keep (is_listed listing) rows)

module _ (listing : Listing) where
  -- ---- what `next_layer` says of the rows from k on
  none_in : (k : ℕ) (rows : List Row) → next_layer listing k rows ≡ None → layers_in listing rows ≡ []
  unfolding layers_in next_layer keep
  none_in k [] e = refl
  none_in k (r ∷ rows) e = go (is_listed listing r) e (none_in (suc k) rows)
    where
      go : (b : Bool) → cond b (Some (suc k, r.layer)) (next_layer listing (suc k) rows) ≡ None → (next_layer listing (suc k) rows ≡ None → layers_in listing rows ≡ []) → map (λ (r : Row). r.layer) (cond b (r ∷ keep (is_listed listing) rows) (keep (is_listed listing) rows)) ≡ []
      go true e more = cc
      go false e more = more e

  one_in : (k : ℕ) (rows : List Row) (next : ℕ) (layer : LayerId) → next_layer listing k rows ≡ Some (next, layer) → (k < next) × (layers_in listing rows ≡ layer ∷ layers_in listing (drop (next - k) rows))
  unfolding layers_in next_layer keep
  one_in k [] next layer e = let z : ◌≡◌ {A = ℕ} 0 1 = cc in absurd (omega arith)
  one_in k (r ∷ rows) next layer e = go (is_listed listing r) e (one_in (suc k) rows next layer)
    where
      go : (b : Bool) → cond b (Some (suc k, r.layer)) (next_layer listing (suc k) rows) ≡ Some (next, layer) → (next_layer listing (suc k) rows ≡ Some (next, layer) → (suc k < next) × (layers_in listing rows ≡ layer ∷ layers_in listing (drop (next - suc k) rows)))
          → (k < next) × (map (λ (r : Row). r.layer) (cond b (r ∷ keep (is_listed listing) rows) (keep (is_listed listing) rows)) ≡ layer ∷ layers_in listing (drop (next - k) (r ∷ rows)))
      go true e more =
          let same : ◌≡◌ {A = ℕ × LayerId} (suc k, r.layer) (next, layer) = cc in
          let p : suc k ≡ next = ap (λ (x : ℕ × LayerId). x.0) same in
          let q : r.layer ≡ layer = ap (λ (x : ℕ × LayerId). x.1) same in
          let one : next - k ≡ 1 = omega arith in
          (omega arith, rw (one, q))
      go false e more =
          let (l, p) = more e in
          let one : next - k ≡ suc (next - suc k) = omega arith in
          (omega arith, rw one p)

  -- where there is one, there is a row
  pub inside : (count : ℕ) (w : List ℕ) (k : ℕ) (f : Option (ℕ × LayerId)) (one : ℕ × LayerId) → length w ≡ 8 * layers → f ≡ next_layer listing k (drop k (held_rows count w)) → f ≡ Some one → k < layers
  unfolding next_layer
  inside count w k f one l e h = go (ltb k layers) refl
    where
      go : (b : Bool) → ltb k layers ≡ b → k < layers
      go true t = ltb-true k layers t
      go false t =
          let none : next_layer listing k (drop k (held_rows count w)) ≡ None = rw (past_held count w k _ refl (omega (arith, ltb-false k layers t))) in
          absurd cc

  module _ (rows : List Row) (k : ℕ) (f : Option (ℕ × LayerId)) (e : f ≡ next_layer listing k (drop k rows)) where
    pub none_left : f ≡ None → layers_in listing (drop k rows) ≡ []
    none_left h = none_in k (drop k rows) (sym e ∙ h)

    pub one_left : (next : ℕ) (layer : LayerId) → f ≡ Some (next, layer) → (k < next) × (layers_in listing (drop k rows) ≡ layer ∷ layers_in listing (drop next rows))
    one_left next layer h =
        let (l, p) = one_in k (drop k rows) next layer (sym e ∙ h) in
        let n : k + (next - k) ≡ next = omega arith in
        (l, rw (drop-drop (next - k) k rows, n) at p)

-- ---- the layers of a listing, all written
pub all_listed : (a : Areas) (listing : Listing) (rows : List Row) (rest now : List LayerId) (n : ℕ) → rows ≡ stack_of a → Written (replicate layers no_layer) (layers_in listing rows) rest now n → rest ≡ [] → record { count = n; layers = now } ≡ listed (layers_of a listing)
unfolding layers_in layers_of
all_listed a listing rows rest now n r h e =
    let (p, q) = all_written (replicate layers no_layer) (layers_in listing rows) rest now n h e in
    rw (← r, p, q)
