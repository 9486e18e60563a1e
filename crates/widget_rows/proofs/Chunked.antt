-- A row as an array of the words that is cut out of the table. Assumes nothing.
use mathlib.Core.Path.{◌≡◌}
use mathlib.Core.List.{List, []}
use Prim.Native.Nat.{ℕ, ◌+◌, ◌*◌, ◌/◌, ◌<◌}
use native.Mathlib.Omega.{arith}
use lib.ListN.{length, get_or}
use Rattle.std.specs.Simd.{first_chunks}
use Rattle.layers.specs.declared.LayerId.{LayerId}
use Rattle.layers.specs.Layers.{is_layer}
use Rattle.tables.proofs.Chunks.{chunk_get}
use Rattle.widget_rows.specs.Rows.{layer_at, is_in, index_at}

module _ (words : List ℕ) (rows : List (List ℕ)) (k : ℕ) (f : rows ≡ first_chunks 10 (length words / 10) words) (h : k < length words / 10) where
  pub chunk_word : (i p : ℕ) → i < 10 → p ≡ 10 * k + i → get_or (get_or rows k []) i 0 ≡ get_or words p 0
  chunk_word i p m e = rw f (chunk_get 0 10 _ k i p words h m e)

  pub chunk_layer : layer_at (get_or rows k []) 0 ≡ layer_at words k
  chunk_layer = λ j. record { order = chunk_word 1 (10 * k + 1) (omega arith) (omega arith) j; id = chunk_word 2 (10 * k + 2) (omega arith) (omega arith) j }

  pub chunk_in : (layer : LayerId) → is_in (get_or rows k []) 0 layer ≡ is_in words k layer
  unfolding is_in
  chunk_in layer = λ j. is_layer (chunk_layer j) layer

  pub chunk_index : index_at (get_or rows k []) 0 ≡ index_at words k
  unfolding index_at
  chunk_index = chunk_word 3 (10 * k + 3) (omega arith) (omega arith)
