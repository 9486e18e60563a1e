-- Laws of the windows from a row on, as `visible_windows` goes over them. Assumes nothing.
use mathlib.Core.Path.{◌≡◌, refl, sym, ap, ◌∙◌}
use mathlib.Core.List.{List, [], ◌∷◌, ◌++◌}
use Prim.Native.Nat.{ℕ, suc, ◌+◌, ◌*◌, ◌-◌, ◌<◌}
use native.Mathlib.Omega.{arith}
use mathlib.Core.Bool.{Bool, true, false}
use lib.Dec.{ltb}
use lib.ListN.{length, drop, replicate}
use borrow.Author.Tests.{ltb-true, ltb-false}
use lib.Seq.{drop-drop}
use Rattle.refusal.specs.Limits.{layers}
use Rattle.tables.proofs.Written.{Written, all_written}
use Rattle.area.specs.declared.AreaState.{AreaState}
use Rattle.layers.specs.declared.LayerId.{LayerId}
use Rattle.stacking.specs.Lists.{each}
use Rattle.layer_rows.specs.declared.Row.{Row}
use Rattle.layer_rows.specs.Rows.{held_rows}
use Rattle.area_table.specs.Table.{Table}
use Rattle.std.specs.Prelude.{Option, None, Some}
use Rattle.area_stack.specs.Stack.{window_state, or_window, next_window}
use Rattle.area_stack.proofs.Rows.{past_held}
use Rattle.areas.specs.declared.Areas.{Areas}
use Rattle.areas.specs.declared.Window.{Window}
use Rattle.areas.specs.Areas.{window_in, areas_in, stack_of, windows_of, no_window, windows_listed}

module _ (t : Table) (states : ℕ) where
  -- the windows among rows
  unfoldable pub windows_in : List Row → List Window
  windows_in rows = each (λ (r : Row). window_in r.layer (window_state t states r)) rows

  -- ---- what `next_window` says of the rows from k on
  none_in : (k : ℕ) (rows : List Row) → next_window t states k rows ≡ None → windows_in rows ≡ []
  unfolding windows_in next_window each
  none_in k [] e = refl
  none_in k (r ∷ rows) e = go (window_state t states r) e (none_in (suc k) rows)
    where
      go : (f : Option AreaState) → or_window f (suc k) r.layer (next_window t states (suc k) rows) ≡ None → (next_window t states (suc k) rows ≡ None → windows_in rows ≡ []) → window_in r.layer f ++ windows_in rows ≡ []
      go None e more = more e
      go (Some s) e more = cc

  one_in : (k : ℕ) (rows : List Row) (next : ℕ) (layer : LayerId) (s : AreaState) → next_window t states k rows ≡ Some (next, layer, s) → (k < next) × (windows_in rows ≡ record { layer = layer; state = s } ∷ windows_in (drop (next - k) rows))
  unfolding windows_in next_window each
  one_in k [] next layer s e = let z : ◌≡◌ {A = ℕ} 0 1 = cc in absurd (omega arith)
  one_in k (r ∷ rows) next layer s e = go (window_state t states r) e (one_in (suc k) rows next layer s)
    where
      go : (f : Option AreaState) → or_window f (suc k) r.layer (next_window t states (suc k) rows) ≡ Some (next, layer, s) → (next_window t states (suc k) rows ≡ Some (next, layer, s) → (suc k < next) × (windows_in rows ≡ record { layer = layer; state = s } ∷ windows_in (drop (next - suc k) rows)))
          → (k < next) × (window_in r.layer f ++ windows_in rows ≡ record { layer = layer; state = s } ∷ windows_in (drop (next - k) (r ∷ rows)))
      go (Some s') e more =
          let same : ◌≡◌ {A = ℕ × LayerId × AreaState} (suc k, r.layer, s') (next, layer, s) = cc in
          let p : suc k ≡ next = ap (λ (x : ℕ × LayerId × AreaState). x.0) same in
          let q : r.layer ≡ layer = ap (λ (x : ℕ × LayerId × AreaState). x.1) same in
          let u : s' ≡ s = ap (λ (x : ℕ × LayerId × AreaState). x.2) same in
          let one : next - k ≡ 1 = omega arith in
          (omega arith, rw (one, q, u))
      go None e more =
          let (l, p) = more e in
          let one : next - k ≡ suc (next - suc k) = omega arith in
          (omega arith, rw one p)

  -- where there is one, there is a row
  pub inside : (count : ℕ) (w : List ℕ) (k : ℕ) (f : Option (ℕ × LayerId × AreaState)) (one : ℕ × LayerId × AreaState) → length w ≡ 8 * layers → f ≡ next_window t states k (drop k (held_rows count w)) → f ≡ Some one → k < layers
  unfolding next_window
  inside count w k f one l e h = go (ltb k layers) refl
    where
      go : (b : Bool) → ltb k layers ≡ b → k < layers
      go true z = ltb-true k layers z
      go false z =
          let none : next_window t states k (drop k (held_rows count w)) ≡ None = rw (past_held count w k _ refl (omega (arith, ltb-false k layers z))) in
          absurd cc

  module _ (rows : List Row) (k : ℕ) (f : Option (ℕ × LayerId × AreaState)) (e : f ≡ next_window t states k (drop k rows)) where
    pub none_left : f ≡ None → windows_in (drop k rows) ≡ []
    none_left h = none_in k (drop k rows) (sym e ∙ h)

    pub one_left : (next : ℕ) (layer : LayerId) (s : AreaState) → f ≡ Some (next, layer, s) → (k < next) × (windows_in (drop k rows) ≡ record { layer = layer; state = s } ∷ windows_in (drop next rows))
    one_left next layer s h =
        let (l, p) = one_in k (drop k rows) next layer s (sym e ∙ h) in
        let n : k + (next - k) ≡ next = omega arith in
        (l, rw (drop-drop (next - k) k rows, n) at p)

-- ---- the windows, all written
pub all_windows : (a : Areas) (rows : List Row) (t : Table) (states : ℕ) (rest now : List Window) (n : ℕ) → rows ≡ stack_of a → t ≡ areas_in a → states ≡ a.states
    → Written (replicate layers no_window) (windows_in t states rows) rest now n → rest ≡ [] → record { count = n; windows = now } ≡ windows_listed (windows_of a)
unfolding windows_in windows_of
all_windows a rows t states rest now n r m s h e =
    let (p, q) = all_written (replicate layers no_window) (windows_in t states rows) rest now n h e in
    rw (← r, ← m, ← s, p, q)
