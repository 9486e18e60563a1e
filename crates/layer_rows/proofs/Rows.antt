-- Laws of the rows that are held, one by one, and of the place of a layer's row. Assumes nothing.
use mathlib.Core.Path.{◌≡◌, refl, sym, ap, ◌∙◌}
use mathlib.Core.Bool.{Bool, true, false, cond}
use mathlib.Core.List.{List, ◌++◌}
use Prim.Native.Nat.{ℕ, zero, suc, ◌+◌, ◌*◌, ◌/◌, min, ◌<◌, ◌≤◌}
use native.Mathlib.Nat.{add_assoc, not-suc-le-zero, le_of_suc-le-suc}
use native.Mathlib.Numerals.{add-one}
use native.Mathlib.Omega.{arith}
use lib.Dec.{leb}
use lib.ListN.{length, get_or, take, drop, length-take, get_or-eq_default}
use lib.Seq.{get_or-take, get_or-drop, drop-cons, drop-length}
use borrow.Author.Tests.{leb-true}
use Rattle.tables.specs.Tables.{put_at}
use Rattle.layers.specs.declared.LayerId.{LayerId}
use Rattle.layers.specs.Layers.{is_layer}
use Rattle.layer_rows.specs.declared.Row.{Row}
use Rattle.layer_rows.specs.Rows.{row_in, rows_from, rows_of, held_rows, words_of, new_row, spot_in, row_of}

-- ---- the rows of words
from_length : (n : ℕ) (w : List ℕ) → length (rows_from n w) ≡ n
unfolding rows_from
from_length zero w = refl
from_length (suc n) w = ap suc (from_length n (drop 8 w))

-- row k, eight words further on
row_drop : (w : List ℕ) (k : ℕ) → row_in (drop 8 w) k ≡ row_in w (suc k)
row_drop w k = go (8 * suc k) (omega arith)
  where
    go : (m : ℕ) → m ≡ 8 + 8 * k → row_in (drop 8 w) k ≡ record { layer = record { order = get_or w m 0; id = get_or w (m + 1) 0 }; shown = get_or w (m + 2) 0; last = get_or w (m + 3) 0; raised = get_or w (m + 4) 0; parent = get_or w (m + 5) 0; area = get_or w (m + 6) 0; key = get_or w (m + 7) 0 }
    go m e = simp (get_or-drop, e, add_assoc)

from_get : (n k : ℕ) (w : List ℕ) (d : Row) → k < n → get_or (rows_from n w) k d ≡ row_in w k
unfolding rows_from
from_get zero k w d h = absurd (not-suc-le-zero h)
from_get (suc n) zero w d h = refl
from_get (suc n) (suc k) w d h = from_get n k (drop 8 w) d (le_of_suc-le-suc h) ∙ row_drop w k

module _ (count : ℕ) (w : List ℕ) where
  pub held_length : length (held_rows count w) ≡ min count (length w / 8)
  unfolding held_rows rows_of
  held_length = length-take count (rows_from (length w / 8) w) ∙ ap (min count) (from_length (length w / 8) w)

  module _ (n k : ℕ) (d : Row) (e : n ≡ min count (length w / 8)) where
    pub held_get : k < n → (r : Row) → r ≡ row_in w k → r ≡ get_or (held_rows count w) k d
    unfolding held_rows rows_of
    held_get h r q = q ∙ sym (get_or-take count (rows_from (length w / 8) w) k d (omega arith) ∙ from_get (length w / 8) k w d (omega arith))

    pub held_past : n ≤ k → (r : Row) → r ≡ d → r ≡ get_or (held_rows count w) k d
    held_past h r q = q ∙ sym (get_or-eq_default (held_rows count w) d (omega (arith, held_length)))

-- ---- a row past the room
pub put_past : (w : List ℕ) (k : ℕ) (r : Row) → length w / 8 ≤ k → w ≡ put_at w (8 * k) (words_of r)
unfolding put_at
put_past w k r h = go (leb (8 * k + 8) (length w)) refl
  where
    go : (t : Bool) → leb (8 * k + 8) (length w) ≡ t → w ≡ cond t (take (8 * k) w ++ words_of r ++ drop (8 * k + 8) w) w
    go true e = absurd (omega (arith, leb-true (8 * k + 8) (length w) e))
    go false e = refl

-- ---- the place of a layer's row, as it is looked for from the first row on
module _ (rows : List Row) (k : ℕ) (layer : LayerId) where
  spot_end : k ≡ length rows → spot_in (drop k rows) layer ≡ 0
  unfolding spot_in
  spot_end e = rw (e, drop-length rows)

  module _ (d : Row) (h : k < length rows) where
    spot_here : is_layer (get_or rows k d).layer layer ≡ true → spot_in (drop k rows) layer ≡ 0
    unfolding spot_in
    spot_here e = rw (drop-cons rows k d h, e)

    spot_more : is_layer (get_or rows k d).layer layer ≡ false → spot_in (drop k rows) layer ≡ suc (spot_in (drop (k + 1) rows) layer)
    unfolding spot_in
    spot_more e = rw (add-one, drop-cons rows k d h, e)

-- how many rows before k are of other layers
abbrev pub Passed : List Row → LayerId → ℕ → Type 0
Passed rows layer k = (k ≤ length rows) × (spot_in rows layer ≡ k + spot_in (drop k rows) layer)

module _ (count : ℕ) (w : List ℕ) (layer : LayerId) where
  module _ (n k : ℕ) (e : n ≡ min count (length w / 8)) (p : Passed (held_rows count w) layer k) where
    pub spot_over : n ≤ k → n ≡ spot_in (held_rows count w) layer
    spot_over h =
        let l : k ≡ length (held_rows count w) = omega (arith, held_length count w, p.0) in
        omega (arith, held_length count w, spot_end (held_rows count w) k layer l, p.1)

    module _ (h : k < n) (r : Row) (q : r ≡ row_in w k) (b : Bool) (t : b ≡ is_layer r.layer layer) where
      here : is_layer (get_or (held_rows count w) k r).layer layer ≡ b
      here = rw (← held_get count w n k r e h r q) (sym t)

      below : k < length (held_rows count w)
      below = omega (arith, held_length count w)

      pub spot_found : b ≡ true → k ≡ spot_in (held_rows count w) layer
      spot_found z = omega (arith, p.1, spot_here (held_rows count w) k layer r below (here ∙ z))

      pub spot_next : b ≡ false → Passed (held_rows count w) layer (k + 1)
      spot_next z = (omega (arith, below), omega (arith, p.1, spot_more (held_rows count w) k layer r below (here ∙ z)))

module _ (count : ℕ) (w : List ℕ) (layer : LayerId) where
  pub of_spot : (k : ℕ) (r : Row) → k ≡ spot_in (held_rows count w) layer → r ≡ get_or (held_rows count w) k (new_row layer) → r ≡ row_of (held_rows count w) layer
  unfolding row_of
  of_spot k r e q = rw (← e) q
