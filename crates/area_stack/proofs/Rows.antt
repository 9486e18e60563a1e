-- Laws of the rows from one on, as a loop goes over them. Assumes nothing.
use mathlib.Core.Path.{◌≡◌}
use mathlib.Core.List.{List, [], ◌∷◌}
use Prim.Native.Nat.{ℕ, ◌+◌, ◌/◌, min, ◌<◌, ◌≤◌}
use native.Mathlib.Numerals.{add-one}
use native.Mathlib.Omega.{arith}
use lib.ListN.{length, get_or, drop, drop_of_length-le}
use lib.Seq.{drop-cons}
use Rattle.layer_rows.specs.declared.Row.{Row}
use Rattle.layer_rows.specs.Rows.{held_rows}
use Rattle.layer_rows.proofs.Rows.{held_length}

module _ (count : ℕ) (w : List ℕ) (k n : ℕ) (e : n ≡ min count (length w / 8)) where
  pub past_held : n ≤ k → drop k (held_rows count w) ≡ []
  past_held h = drop_of_length-le (held_rows count w) {i = k} (omega (arith, held_length count w))

  pub row_more : k < n → (d r : Row) → r ≡ get_or (held_rows count w) k d → drop k (held_rows count w) ≡ r ∷ drop (k + 1) (held_rows count w)
  row_more h d r q = rw (q, add-one) (drop-cons (held_rows count w) k d (omega (arith, held_length count w)))
