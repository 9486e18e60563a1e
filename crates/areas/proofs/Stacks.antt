-- Laws of the record with another stack, from what a call on its rows gave. Assumes nothing.
use mathlib.Core.Path.{◌≡◌, sym, ◌∙◌}
use mathlib.Core.List.{List}
use Prim.Native.Nat.{ℕ, ◌/◌, min}
use lib.ListN.{length}
use Rattle.layer_rows.specs.Rows.{rows_on}
use Rattle.layer_rows.proofs.Rows.{held_length}
use Rattle.layer_sort.specs.Sort.{end_rows}
use Rattle.layer_sort.proofs.Meaning.{ended_length}
use Rattle.areas.specs.declared.Areas.{Areas}
use Rattle.areas.specs.Areas.{stack_of, pass_ended}

module _ (a : Areas) where
  abbrev with : ℕ → ℕ → List ℕ → Areas
  with count placed rows = record { count = count; placed = placed; states = a.states; rows = rows; ids = a.ids; codes = a.codes; floats = a.floats }

  pub ended_is : (n : ℕ) (rows : List ℕ) → (n ≡ min a.count (length a.rows / 8)) × (rows ≡ rows_on a.rows (end_rows (stack_of a))) → with n n rows ≡ pass_ended a
  unfolding pass_ended
  ended_is n rows (e, p) =
      let l : n ≡ length (stack_of a) = e ∙ sym (held_length a.count a.rows) in
      rw (p, ended_length (stack_of a), ← l)
