-- A table seen as arrays of s elements: element i of array k is element s k + i of the table. Assumes nothing.
use mathlib.Core.Path.{◌≡◌, ◌∙◌}
use mathlib.Core.List.{List, []}
use Prim.Native.Nat.{ℕ, zero, suc, ◌+◌, ◌*◌, ◌<◌}
use native.Mathlib.Nat.{mul-zero, mul-suc, zero-add}
use native.Mathlib.Omega.{arith}
use lib.ListN.{get_or, drop}
use lib.Seq.{get_or-take, get_or-drop}
use Rattle.std.specs.Simd.{first_chunks}

module _ {A : Type 0} (d : A) (s : ℕ) where
  pub chunk_get : (n k i p : ℕ) (w : List A) → k < n → i < s → p ≡ s * k + i → get_or (get_or (first_chunks s n w) k []) i d ≡ get_or w p d
  chunk_get zero k i p w h l e = absurd (omega arith)
  chunk_get (suc n) zero i p w h l e =
      let q : p ≡ i = rw (mul-zero s, zero-add i) at e in
      rw q (get_or-take s w i d l)
  chunk_get (suc n) (suc k) i p w h l e =
      let q : p ≡ s + (s * k + i) = e ∙ rw (mul-suc s k) (omega arith) in
      chunk_get n k i (s * k + i) (drop s w) (omega arith) l (omega arith) ∙ rw q (get_or-drop s w (s * k + i) d)
