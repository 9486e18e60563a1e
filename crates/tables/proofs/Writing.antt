-- Laws of a list that is written over another, one element a turn. Assumes nothing.
use mathlib.Core.Path.{◌≡◌, ap, ◌∙◌}
use mathlib.Core.List.{List, ◌++◌}
use Prim.Native.Nat.{ℕ, ◌+◌, ◌-◌, ◌<◌, ◌≤◌}
use native.Mathlib.Nat.{zero-add, add_comm}
use native.Mathlib.Numerals.{add-one}
use native.Mathlib.Omega.{arith}
use lib.ListN.{length, get_or, set, take, drop, length-drop}
use lib.Seq.{take_all, length-take-le, get_or-append-add, get_or-drop, paste, paste-suc}
use Rattle.tables.specs.Tables.{closed}

module _ {A : Type 0} where
  -- ---- a row at a place: after i turns its first i stand there
  module _ (xs : List A) (at : ℕ) (row : List A) where
    pub put_more : (i : ℕ) (d : A) → at + i < length xs → i < length row → set (paste xs at row i) (at + i) (get_or row i d) ≡ paste xs at row (i + 1)
    put_more i d h k = rw add-one (paste-suc xs at row i d h k)

  -- ---- a list s from the front: after i turns it is the first i of s, and then what was there
  module _ (xs s : List A) (i : ℕ) where
    front_more : (d : A) → i < length xs → i < length s → set (take i s ++ drop i xs) i (get_or s i d) ≡ take (i + 1) s ++ drop (i + 1) xs
    front_more d h k = simp zero-add at (put_more xs 0 s i d (omega arith) k)

  -- ---- a tail without its first `by`: j is `by` past i, the place that is written
  module _ (tail : List A) (by i j : ℕ) (e : j ≡ by + i) where
    pub close_more : (d : A) → j < length tail → set (take i (drop by tail) ++ drop i tail) i (get_or (take i (drop by tail) ++ drop i tail) j d) ≡ take (i + 1) (drop by tail) ++ drop (i + 1) tail
    close_more d h =
        let k : i < length (drop by tail) = simp length-drop (omega arith) in
        let n = length-take-le i (drop by tail) (omega arith) in
        let p : j ≡ length (take i (drop by tail)) + by = omega arith in
        let v : get_or (take i (drop by tail) ++ drop i tail) j d ≡ get_or (drop by tail) i d = rw (p, get_or-append-add, get_or-drop i, get_or-drop by, add_comm by) in
        rw v (front_more tail (drop by tail) i d (omega arith) k)

    -- the same where x is what stands at j
    pub close_on : (here : List A) (x : A) → here ≡ take i (drop by tail) ++ drop i tail → j < length tail → x ≡ get_or here j x → set here i x ≡ take (i + 1) (drop by tail) ++ drop (i + 1) tail
    close_on here x p h q = ap (λ (v : A). set here i v) q ∙ rw p (close_more x h)

    pub close_all : i ≤ length tail - by → length tail ≤ j → take i (drop by tail) ++ drop i tail ≡ closed by tail
    unfolding closed
    close_all k h =
        let n : i ≡ length tail - by = omega arith in
        let l : length (drop by tail) ≤ i = simp length-drop (omega arith) in
        rw (take_all i (drop by tail) l, n)
