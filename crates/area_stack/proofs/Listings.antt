-- Laws of the next layer of a listing, as `next_layer` goes over the rows. Assumes nothing.
use mathlib.Core.Path.{◌≡◌, sym, ◌∙◌}
use mathlib.Core.Bool.{Bool, true, false}
use mathlib.Core.List.{List}
use Prim.Native.Nat.{ℕ, ◌+◌, ◌/◌, min, ◌<◌, ◌≤◌}
use native.Mathlib.Numerals.{add-one}
use lib.ListN.{length, get_or, drop}
use Rattle.layer_rows.specs.declared.Row.{Row}
use Rattle.layer_rows.specs.Rows.{held_rows}
use Rattle.layer_queries.specs.declared.Listing.{Listing}
use Rattle.layer_queries.specs.Queries.{is_listed}
use Rattle.std.specs.Prelude.{None, Some}
use Rattle.area_stack.specs.Stack.{next_layer}
use Rattle.area_stack.proofs.Rows.{past_held, row_more}

module _ (listing : Listing) where
  -- ---- `next_layer` has passed the rows before k: none of them is listed
  abbrev pub Passed : List Row → ℕ → ℕ → Type 0
  Passed rows from k = next_layer listing from (drop from rows) ≡ next_layer listing k (drop k rows)

  module _ (count : ℕ) (w : List ℕ) (from k n : ℕ) (a : Passed (held_rows count w) from k) (e : n ≡ min count (length w / 8)) where
    pub none_found : n ≤ k → None ≡ next_layer listing from (drop from (held_rows count w))
    unfolding next_layer
    none_found h = sym (a ∙ rw (past_held count w k n e h))

    module _ (h : k < n) (d r : Row) (q : r ≡ get_or (held_rows count w) k d) (b : Bool) (t : b ≡ is_listed listing r) where
      pub one_found : b ≡ true → Some (k + 1, r.layer) ≡ next_layer listing from (drop from (held_rows count w))
      unfolding next_layer
      one_found z = sym (a ∙ rw (row_more count w k n e h d r q, ← t, z, add-one))

      pub one_passed : b ≡ false → Passed (held_rows count w) from (k + 1)
      unfolding next_layer
      one_passed z = a ∙ rw (row_more count w k n e h d r q, ← t, z, add-one)
