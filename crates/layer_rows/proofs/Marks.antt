-- Laws of rows with a layer's row changed, as a call makes the change: at the layer's place, or after the last row. Assumes nothing.
use mathlib.Core.Path.{◌≡◌, refl, sym, ap, ◌∙◌}
use mathlib.Core.Bool.{Bool, true, false, cond}
use mathlib.Core.List.{List, [], ◌∷◌}
use Prim.Native.Nat.{ℕ, suc, ◌+◌, ◌*◌, ◌/◌, max, ◌<◌, ◌≤◌}
use native.Mathlib.Omega.{arith}
use lib.ListN.{length, get_or}
use Rattle.tables.specs.Tables.{put_at}
use Rattle.layers.specs.declared.LayerId.{LayerId}
use Rattle.layers.specs.Layers.{is_layer}
use Rattle.layer_rows.specs.declared.Row.{Row}
use Rattle.layer_rows.specs.Rows.{held_rows, words_of, new_row, rows_on, spot_in, row_of, marked}
use Rattle.layer_rows.proofs.Rows.{held_length}
use Rattle.layer_rows.proofs.Table.{placed, on_held, put_on_lem}

-- ---- what is held of a layer: the first row, if it is the layer's, or else what the others hold
pub row_none : (l : LayerId) → row_of [] l ≡ new_row l
unfolding row_of spot_in
row_none l = refl

pub row_cons : (r : Row) (rows : List Row) (l : LayerId) → row_of (r ∷ rows) l ≡ cond (is_layer r.layer l) r (row_of rows l)
unfolding row_of spot_in
row_cons r rows l = go (is_layer r.layer l)
  where
    go : (t : Bool) → get_or (r ∷ rows) (cond t 0 (suc (spot_in rows l))) (new_row l) ≡ cond t r (get_or rows (spot_in rows l) (new_row l))
    go true = refl
    go false = refl

-- ---- a layer's row changed
module _ (f : Row → Row) (layer : LayerId) where
  mark_placed : (rows : List Row) → placed (spot_in rows layer) (f (row_of rows layer)) rows ≡ marked f rows layer
  unfolding marked spot_in row_of
  mark_placed [] = refl
  mark_placed (r ∷ rows) = go (is_layer r.layer layer) (mark_placed rows)
    where
      go : (t : Bool) → placed (spot_in rows layer) (f (row_of rows layer)) rows ≡ marked f rows layer
          → placed (cond t 0 (suc (spot_in rows layer))) (f (get_or (r ∷ rows) (cond t 0 (suc (spot_in rows layer))) (new_row layer))) (r ∷ rows) ≡ cond t (f r ∷ rows) (r ∷ marked f rows layer)
      go true rest = refl
      go false rest = ap (λ (t : List Row). r ∷ t) rest

  -- how many rows there are then: one more, where the layer had none
  pub mark_length : (rows : List Row) → length (marked f rows layer) ≡ max (length rows) (spot_in rows layer + 1)
  unfolding marked spot_in
  mark_length [] = refl
  mark_length (r ∷ rows) = go (is_layer r.layer layer) (mark_length rows)
    where
      go : (t : Bool) → length (marked f rows layer) ≡ max (length rows) (spot_in rows layer + 1) → length (cond t (f r ∷ rows) (r ∷ marked f rows layer)) ≡ max (suc (length rows)) (cond t 0 (suc (spot_in rows layer)) + 1)
      go true rest = omega arith
      go false rest = omega arith

pub spot_most : (rows : List Row) (layer : LayerId) → spot_in rows layer ≤ length rows
unfolding spot_in
spot_most [] layer = omega arith
spot_most (r ∷ rows) layer = go (is_layer r.layer layer) (spot_most rows layer)
  where
    go : (t : Bool) → spot_in rows layer ≤ length rows → cond t 0 (suc (spot_in rows layer)) ≤ suc (length rows)
    go true h = omega arith
    go false h = omega arith

-- ---- the layer's row, changed by f, put in its place
pub mark_put : (f : Row → Row) (count : ℕ) (w : List ℕ) (layer : LayerId) (k : ℕ) (r : Row) → k ≡ spot_in (held_rows count w) layer → r ≡ f (row_of (held_rows count w) layer) → k < length w / 8
    → put_at w (8 * k) (words_of r) ≡ rows_on w (marked f (held_rows count w) layer)
mark_put f count w layer k r e q h =
    let rows = held_rows count w in
    let l = held_length count w in
    ap (λ (t : List ℕ). put_at t (8 * k) (words_of r)) (sym (on_held count w))
    ∙ put_on_lem w rows k r (rw e (spot_most rows layer)) (omega (arith, l)) (omega arith)
    ∙ rw (e, q, mark_placed f layer rows)
