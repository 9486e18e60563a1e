-- Laws of the next window, as `next_window` goes over the rows. Assumes nothing.
use mathlib.Core.Path.{◌≡◌, sym, ◌∙◌}
use mathlib.Core.List.{List}
use Prim.Native.Nat.{ℕ, ◌+◌, ◌/◌, min, ◌<◌, ◌≤◌}
use native.Mathlib.Numerals.{add-one}
use lib.ListN.{length, get_or, drop}
use Rattle.area.specs.declared.AreaState.{AreaState}
use Rattle.layer_rows.specs.declared.Row.{Row}
use Rattle.layer_rows.specs.Rows.{held_rows}
use Rattle.area_table.specs.Table.{Table}
use Rattle.std.specs.Prelude.{Option, None, Some}
use Rattle.area_stack.specs.Stack.{window_state, next_window}
use Rattle.area_stack.proofs.Rows.{past_held, row_more}

module _ (t : Table) (states : ℕ) where
  -- ---- `next_window` has passed the rows before k: none of them is a window's
  abbrev pub Passed : List Row → ℕ → ℕ → Type 0
  Passed rows from k = next_window t states from (drop from rows) ≡ next_window t states k (drop k rows)

  module _ (count : ℕ) (w : List ℕ) (from k n : ℕ) (a : Passed (held_rows count w) from k) (e : n ≡ min count (length w / 8)) where
    pub none_found : n ≤ k → None ≡ next_window t states from (drop from (held_rows count w))
    unfolding next_window
    none_found h = sym (a ∙ rw (past_held count w k n e h))

    module _ (h : k < n) (d r : Row) (q : r ≡ get_or (held_rows count w) k d) (f : Option AreaState) (p : f ≡ window_state t states r) where
      pub one_found : (s : AreaState) → f ≡ Some s → Some (k + 1, r.layer, s) ≡ next_window t states from (drop from (held_rows count w))
      unfolding next_window
      one_found s z = sym (a ∙ rw (row_more count w k n e h d r q, ← p, z, add-one))

      pub one_passed : f ≡ None → Passed (held_rows count w) from (k + 1)
      unfolding next_window
      one_passed z = a ∙ rw (row_more count w k n e h d r q, ← p, z, add-one)
