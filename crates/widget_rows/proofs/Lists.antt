-- Laws of the lists of the layers: the index after the last, and the tail that is numbered anew. Assumes nothing.
use mathlib.Core.Path.{◌≡◌, refl}
use mathlib.Core.Bool.{Bool, true, false, cond}
use mathlib.Core.List.{List, ◌++◌, append_assoc}
use Prim.Native.Nat.{ℕ, zero, suc, ◌+◌, ◌-◌, ◌*◌, ◌/◌, ◌<◌, ◌≤◌}
use native.Mathlib.Numerals.{add-one}
use native.Mathlib.Omega.{arith}
use lib.ListN.{length, set, take, drop, length-set, length-append, length-take, length-drop, take-append-drop}
use lib.Seq.{take-add, drop-drop, take-set-le, drop-set-lt, drop-set-add, get_or-drop}
use Rattle.layers.specs.declared.LayerId.{LayerId}
use Rattle.std.specs.Prelude.{None, Some}
use Rattle.widget_rows.specs.Rows.{Rows, is_in, index_at, record_at, listed_in, one_more, one_less, next_index, lowered_at, renumbered_rows, renumbered}

-- ---- the index after the last, from row k down
pub next_hit : (words : List ℕ) (k : ℕ) (layer : LayerId) → 0 < k → is_in words (k - 1) layer ≡ true → next_index words k layer ≡ one_more (index_at words (k - 1))
unfolding next_index
next_hit words zero layer l e = absurd (omega arith)
next_hit words (suc k) layer l e =
    let p : suc k - 1 ≡ k = omega arith in
    rw (p, rw p at e)

pub next_miss : (words : List ℕ) (k : ℕ) (layer : LayerId) → 0 < k → is_in words (k - 1) layer ≡ false → next_index words k layer ≡ next_index words (k - 1) layer
unfolding next_index
next_miss words zero layer l e = absurd (omega arith)
next_miss words (suc k) layer l e =
    let p : suc k - 1 ≡ k = omega arith in
    rw (p, rw p at e)

-- ---- one number of a list, changed or not
module _ (xs : List ℕ) (i v : ℕ) where
  kept_length : (b : Bool) → length (cond b (set xs i v) xs) ≡ length xs
  kept_length true = length-set xs i v
  kept_length false = refl

  kept_before : (b : Bool) (n : ℕ) → n ≤ i → take n (cond b (set xs i v) xs) ≡ take n xs
  kept_before true n l = take-set-le n xs i v l
  kept_before false n l = refl

  kept_after : (b : Bool) (n : ℕ) → i < n → drop n (cond b (set xs i v) xs) ≡ drop n xs
  kept_after true n l = drop-set-lt n xs i v l
  kept_after false n l = refl

kept_from : (xs : List ℕ) (n i v : ℕ) (b : Bool) → drop n (cond b (set xs (n + i) v) xs) ≡ cond b (set (drop n xs) i v) (drop n xs)
kept_from xs n i v true = drop-set-add n xs i v
kept_from xs n i v false = refl

-- ---- a tail whose first k rows are numbered anew, the next one too
module _ (tail : List ℕ) (layer : LayerId) (k : ℕ) where
  pub lowered_length : length (lowered_at tail k layer) ≡ length tail
  unfolding lowered_at
  lowered_length = kept_length tail (10 * k + 3) (one_less (index_at tail k)) (is_in tail k layer)

  -- row k is row 0 of what stands from it on
  in_first : is_in (drop (10 * k) tail) 0 layer ≡ is_in tail k layer
  unfolding is_in
  in_first = simp get_or-drop

  index_first : index_at (drop (10 * k) tail) 0 ≡ index_at tail k
  unfolding index_at
  index_first = simp get_or-drop

  from_row : drop (10 * k) (lowered_at tail k layer) ≡ lowered_at (drop (10 * k) tail) 0 layer
  unfolding lowered_at
  from_row = rw (in_first, index_first) (kept_from tail (10 * k) 3 (one_less (index_at tail k)) (is_in tail k layer))

  rows_before : take (10 * k) (lowered_at tail k layer) ≡ take (10 * k) tail
  unfolding lowered_at
  rows_before = kept_before tail (10 * k + 3) (one_less (index_at tail k)) (is_in tail k layer) (10 * k) (omega arith)

  rows_after : drop (10 * k + 10) (lowered_at tail k layer) ≡ drop (10 * k + 10) tail
  unfolding lowered_at
  rows_after = kept_after tail (10 * k + 3) (one_less (index_at tail k)) (is_in tail k layer) (10 * k + 10) (omega arith)

  pub renumber_more : (m n : ℕ) (after : List ℕ) → n ≡ suc m → after ≡ lowered_at tail k layer → take (10 * (k + 1)) after ++ renumbered_rows m layer (drop (10 * (k + 1)) after) ≡ take (10 * k) tail ++ renumbered_rows n layer (drop (10 * k) tail)
  unfolding renumbered_rows
  renumber_more m n after p e =
      let s : 10 * (k + 1) ≡ 10 * k + 10 = omega arith in
      rw (p, e, s, take-add (10 * k) 10, from_row, rows_before, rows_after, drop-drop 10 (10 * k) tail, append_assoc)

-- numbering anew keeps the length
rows_length : (n : ℕ) (layer : LayerId) (tail : List ℕ) → length (renumbered_rows n layer tail) ≡ length tail
unfolding renumbered_rows
rows_length zero layer tail = refl
rows_length (suc n) layer tail = simp (length-append, length-take, rows_length n layer (drop 10 tail), length-drop, lowered_length tail layer 0) (omega arith)

pub renumbered_length : (layer : LayerId) (tail : List ℕ) → length (renumbered layer tail) ≡ length tail
unfolding renumbered
renumbered_length layer tail = rows_length (length tail / 10) layer tail

-- all is numbered anew
module _ (layer : LayerId) (tail : List ℕ) where
  pub renumber_end : (k m : ℕ) → m ≡ 0 → take (10 * k) tail ++ renumbered_rows m layer (drop (10 * k) tail) ≡ tail
  unfolding renumbered_rows
  renumber_end k m e = rw (e, take-append-drop (10 * k) tail)

-- ---- the first widget of a list at row k or after it, among the first n
module _ (t : Rows) (layer : LayerId) (n k : ℕ) where
  pub listed_hit : k < n → is_in t.words k layer ≡ true → listed_in t layer (n - k) k ≡ Some (k + 1, record_at t k 1)
  unfolding listed_in
  listed_hit l e =
      let p : n - k ≡ suc (n - k - 1) = omega arith in
      rw (p, e, add-one)

  pub listed_miss : k < n → is_in t.words k layer ≡ false → listed_in t layer (n - k) k ≡ listed_in t layer (n - (k + 1)) (k + 1)
  unfolding listed_in
  listed_miss l e =
      let p : n - k ≡ suc (n - (k + 1)) = omega arith in
      rw (p, e, add-one)

  pub listed_end : n ≤ k → listed_in t layer (n - k) k ≡ None
  unfolding listed_in
  listed_end l =
      let p : n - k ≡ 0 = omega arith in
      rw p
