-- Laws of the rank of a layer, from its place k among the n rows that are held. Assumes nothing.
use Rattle.std.specs.Prelude.{◌≡◌, ℕ, ◌+◌, ◌/◌, ◌<◌, ◌≤◌, min, List, length}
use native.Mathlib.Omega.{arith}
use native.Mathlib.Numerals.{add-one}
use borrow.Author.Tests.{lt-ltb, le-ltb}
use Rattle.layers.specs.declared.LayerId.{LayerId}
use Rattle.layer_rows.specs.Rows.{held_rows, spot_in}
use Rattle.layer_rows.proofs.Rows.{held_length}
use Rattle.layer_queries.specs.Queries.{rank_in}

module _ (count : ℕ) (w : List ℕ) (layer : LayerId) (k n : ℕ) (e : k ≡ spot_in (held_rows count w) layer) (q : n ≡ min count (length w / 8)) where
  pub has_place : k < n → k + 1 ≡ rank_in (held_rows count w) layer
  unfolding rank_in
  has_place h = rw (← e, lt-ltb k (length (held_rows count w)) (omega (arith, held_length count w)), add-one)

  pub no_place : n ≤ k → 0 ≡ rank_in (held_rows count w) layer
  unfolding rank_in
  no_place h = rw (← e, le-ltb k (length (held_rows count w)) (omega (arith, held_length count w)))
