-- Laws of the search for a child, and of the refusal of a pair that does not fit the pairs there are. Assumes nothing.
use mathlib.Core.Path.{◌≡◌, sym, ◌∙◌}
use mathlib.Core.Bool.{Bool, true, false}
use mathlib.Core.List.{List}
use Prim.Native.Nat.{ℕ, ◌+◌, ◌/◌, min, ◌<◌, ◌≤◌}
use native.Mathlib.Numerals.{add-one}
use native.Mathlib.Omega.{arith}
use lib.ListN.{length, get_or, drop}
use lib.Seq.{drop-cons, drop-length}
use Rattle.stacking.specs.Lists.{some}
use Rattle.layer_rows.specs.declared.Row.{Row}
use Rattle.layer_rows.specs.Rows.{held_rows}
use Rattle.layer_rows.proofs.Rows.{held_length}

-- ---- the search has passed the first k rows: none of them is one
abbrev pub Passed : (Row → Bool) → List Row → ℕ → Type 0
Passed p rows k = (k ≤ length rows) × (some p rows ≡ some p (drop k rows))

module _ (p : Row → Bool) (count : ℕ) (w : List ℕ) where
  abbrev rows : List Row
  rows = held_rows count w

  module _ (n k : ℕ) (e : n ≡ min count (length w / 8)) (a : Passed p (held_rows count w) k) where
    pub none_found : n ≤ k → false ≡ some p (held_rows count w)
    unfolding some
    none_found h =
        let l : k ≡ length rows = omega (arith, held_length count w, a.0) in
        sym (a.1 ∙ rw (l, drop-length rows))

    module _ (h : k < n) (d r : Row) (q : r ≡ get_or (held_rows count w) k d) (b : Bool) (t : b ≡ p r) where
      below : k < length rows
      below = omega (arith, held_length count w)

      pub one_found : b ≡ true → true ≡ some p (held_rows count w)
      unfolding some
      one_found z = sym (a.1 ∙ rw (drop-cons rows k d below, ← q, ← t, z))

      pub one_passed : b ≡ false → Passed p (held_rows count w) (k + 1)
      unfolding some
      one_passed z = (omega (arith, below), a.1 ∙ rw (drop-cons rows k d below, ← q, ← t, z, add-one))
