-- What taking a row out of a table does to its rows: those after it take its place, and those of its layer are numbered anew. Assumes nothing.
use mathlib.Core.Path.{◌≡◌, refl, sym, ap, ◌∙◌}
use Prim.Native.Nat.{ℕ, zero, suc, ◌+◌, ◌-◌, ◌*◌, ◌/◌, ◌<◌, ◌≤◌}
use native.Mathlib.Nat.{mul-le-mul_left, add_assoc}
use native.Mathlib.Omega.{arith}
use mathlib.Core.Bool.{Bool, true, false, cond}
use mathlib.Core.List.{List, [], ◌∷◌, ◌++◌, map}
use lib.ListN.{length, get_or, take, drop, set, length-append, length-take, length-drop, length-set}
use lib.Seq.{take_at, drop-append-add, drop-drop, take-set-lt, get_or-take}
use Rattle.layers.specs.declared.LayerId.{LayerId}
use Rattle.tables.specs.Tables.{row_at, closed}
use Rattle.tables.proofs.Rows.{closed_length, part_length, part_row_before, part_row_inside, part_row, closed_row, closed_get, part_get_before, part_get_inside, part_get}
use Rattle.widget_rows.specs.Rows.{Rows, rows_in, is_in, index_at, one_less, lowered_at, renumbered_rows, renumbered}
use Rattle.widget_table.specs.Table.{remove_of}
use Rattle.widget_maps.proofs.Row.{row_of, rows_to, lowered}
use Rattle.widget_maps.proofs.Listing.{one_gone}
use Rattle.widget_maps.proofs.Alone.{alone, row_alone, same_row, lowered_one}
use Rattle.widget_maps.proofs.Rowwise.{Fits, Alike, words_apart, edges_apart}

module _ (layer : LayerId) where
  -- ---- the rows of a tail that is numbered anew
  lowered_length : (tail : List ℕ) → length (lowered_at tail 0 layer) ≡ length tail
  unfolding lowered_at
  lowered_length tail = go (is_in tail 0 layer)
    where
      go : (b : Bool) → length (cond b (set tail 3 (one_less (index_at tail 0))) tail) ≡ length tail
      go true = length-set tail 3 (one_less (index_at tail 0))
      go false = refl

  first_lowered : (tail : List ℕ) → take 10 (lowered_at tail 0 layer) ≡ lowered_at (take 10 tail) 0 layer
  unfolding lowered_at is_in index_at
  first_lowered tail = rw (get_or-take 10 tail 1 0 (omega arith), get_or-take 10 tail 2 0 (omega arith), get_or-take 10 tail 3 0 (omega arith)) (go (is_in tail 0 layer))
    where
      go : (b : Bool) → take 10 (cond b (set tail 3 (one_less (index_at tail 0))) tail) ≡ cond b (set (take 10 tail) 3 (one_less (index_at tail 0))) (take 10 tail)
      go true = take-set-lt 10 tail 3 (one_less (index_at tail 0)) (omega arith)
      go false = refl

  first_length : (tail : List ℕ) → 10 ≤ length tail → length (take 10 (lowered_at tail 0 layer)) ≡ 10
  first_length tail h = simp (length-take, lowered_length) (omega arith)

  renumbered_length_rows : (m : ℕ) (tail : List ℕ) → length (renumbered_rows m layer tail) ≡ length tail
  unfolding renumbered_rows
  renumbered_length_rows zero tail = refl
  renumbered_length_rows (suc m) tail = simp (length-append, length-take, lowered_length, renumbered_length_rows m, length-drop) (omega arith)

  renumbered_at : (m i : ℕ) (tail : List ℕ) → i < m → 10 * (i + 1) ≤ length tail → row_at 10 i (renumbered_rows m layer tail) ≡ lowered_at (row_at 10 i tail) 0 layer
  unfolding renumbered_rows row_at
  renumbered_at zero i tail l h = absurd (omega arith)
  renumbered_at (suc m) zero tail l h = take_at (take 10 (lowered_at tail 0 layer)) (renumbered_rows m layer (drop 10 tail)) 10 (first_length tail (omega arith)) ∙ first_lowered tail
  renumbered_at (suc m) (suc i) tail l h =
      let e : 10 * suc i ≡ 10 + 10 * i = omega arith in
      rw (e, ← drop-drop (10 * i) 10 tail, rw (first_length tail (omega arith)) at (drop-append-add (take 10 (lowered_at tail 0 layer)) (renumbered_rows m layer (drop 10 tail)) (10 * i)))
      (renumbered_at m i (drop 10 tail) (omega arith) (simp length-drop (omega arith)))

  renumbered_length : (tail : List ℕ) → length (renumbered layer tail) ≡ length tail
  unfolding renumbered
  renumbered_length tail = renumbered_length_rows (length tail / 10) tail

  renumbered_row : (i : ℕ) (tail : List ℕ) → 10 * (i + 1) ≤ length tail → row_at 10 i (renumbered layer tail) ≡ lowered_at (row_at 10 i tail) 0 layer
  unfolding renumbered
  renumbered_row i tail h = renumbered_at (length tail / 10) i tail (omega arith) h

-- ---- a row of a part whose first row is taken out
tail : {A : Type 0} (s k n : ℕ) → List A → List A
tail s k n xs = take (s * n - s * k) (drop (s * k) xs)

module _ {A : Type 0} (s i k n : ℕ) (xs : List A) (h : k + i + 1 < n) (l : s * n ≤ length xs) where
  tail_length : s * (i + 2) ≤ length (tail s k n xs)
  unfolding tail
  tail_length = simp (length-take, length-drop) (omega (arith, mul-le-mul_left s h))

  closed_part : row_at s i (closed s (tail s k n xs)) ≡ row_at s (k + i + 1) xs
  unfolding tail
  closed_part =
      let e : k + (i + 1) ≡ k + i + 1 = omega arith in
      closed_row s i (tail s k n xs) tail_length ∙ rw e at (part_row s (i + 1) k n xs (omega arith) l)

-- ---- row k of the first n is taken out
module _ (layer : LayerId) (t : Rows) (n k : ℕ) (h : k < n) (f : Fits t n) where
  abbrev t' : Rows
  t' = remove_of t n k layer

  numbered : List ℕ → List ℕ
  numbered tail = renumbered layer (closed 10 tail)

  numbered_length : (ws : List ℕ) → length (numbered ws) ≡ length ws
  unfolding numbered
  numbered_length ws = renumbered_length layer (closed 10 ws) ∙ closed_length 10 ws

  before : (i : ℕ) → i < k → row_of t' i ≡ row_of t i
  unfolding remove_of numbered
  before i l = same_row t' t i i (part_get_before (closed 1) i k n t.ids 0 l (omega arith) (omega arith)) (part_row_before numbered 10 i k n t.words l (omega arith) (omega arith))
      (part_row_before (closed 16) 16 i k n t.rects l (omega arith) (omega arith))

  module _ (i : ℕ) (l : k + i + 1 < n) where
    after_id : get_or t'.ids (k + i) 0 ≡ get_or t.ids (k + i + 1) 0
    unfolding remove_of
    after_id = part_get_inside (closed 1) i k n t.ids 0 (closed_length 1) (omega arith) (omega arith)
        ∙ closed_get i (take (n - k) (drop k t.ids)) 0 (simp (length-take, length-drop) (omega arith)) ∙ rw (← add_assoc) at (part_get (i + 1) k n t.ids 0 (omega arith) (omega arith))

    after_words : row_at 10 (k + i) t'.words ≡ lowered_at (row_at 10 (k + i + 1) t.words) 0 layer
    unfolding remove_of numbered tail
    after_words = part_row_inside numbered 10 i k n t.words numbered_length (omega arith) (omega arith)
        ∙ renumbered_row layer i (closed 10 (tail 10 k n t.words)) (rw closed_length (omega (arith, tail_length 10 i k n t.words l (omega arith)))) ∙ ap (λ (r : List ℕ). lowered_at r 0 layer) (closed_part 10 i k n t.words l (omega arith))

    after_edges : row_at 16 (k + i) t'.rects ≡ row_at 16 (k + i + 1) t.rects
    unfolding remove_of tail
    after_edges = part_row_inside (closed 16) 16 i k n t.rects (closed_length 16) (omega arith) (omega arith) ∙ closed_part 16 i k n t.rects l (omega arith)

    lowered_alone : row_of (rows_in (get_or t.ids (k + i + 1) 0 ∷ []) (lowered_at (row_at 10 (k + i + 1) t.words) 0 layer) (row_at 16 (k + i + 1) t.rects)) 0 ≡ lowered layer (row_of (alone t (k + i + 1)) 0)
    lowered_alone = rw (words_apart t n (k + i + 1) l f, edges_apart t n (k + i + 1) l f) (lowered_one (row_at 10 (k + i + 1) t.words) (row_at 16 (k + i + 1) t.rects) (get_or t.ids (k + i + 1) 0) layer)

    after : row_of t' (k + i) ≡ lowered layer (row_of t (k + i + 1))
    after = row_alone t' (k + i) ∙ (λ j. row_of (rows_in (after_id j ∷ []) (after_words j) (after_edges j)) 0) ∙ lowered_alone ∙ ap (lowered layer) (sym (row_alone t (k + i + 1)))

  pub removed_rows : rows_to t' (n - 1) ≡ take k (rows_to t n) ++ map (lowered layer) (drop (suc k) (rows_to t n))
  removed_rows = one_gone t t' n k h (lowered layer) before after

  pub removed_alike : Alike t' t
  unfolding remove_of numbered
  removed_alike = record {
    ids = part_length (closed 1) k n t.ids (closed_length 1) (omega arith) (omega arith);
    words = part_length numbered (10 * k) (10 * n) t.words numbered_length (omega arith) (omega arith);
    rects = part_length (closed 16) (16 * k) (16 * n) t.rects (closed_length 16) (omega arith) (omega arith);
  }
