-- Laws of a layer's row that a call changes in the table: how many rows there are then, and what the table is; and of what is refused. Assumes nothing.
use mathlib.Core.Path.{◌≡◌, refl, sym, ap, ◌∙◌}
use mathlib.Core.Bool.{Bool, true, false, cond}
use mathlib.Core.List.{List}
use Prim.Native.Nat.{ℕ, ◌+◌, ◌*◌, ◌/◌, min, max, ◌<◌, ◌≤◌}
use native.Mathlib.Omega.{arith}
use lib.Dec.{ltb}
use lib.ListN.{length, get_or}
use borrow.Author.Tests.{ltb-false}
use Rattle.refusal.specs.Refusal.{full, none, lowest, kept}
use Rattle.refusal.proofs.Laws.{both_none}
use Rattle.tables.specs.Tables.{put_at}
use Rattle.layers.specs.declared.LayerId.{LayerId}
use Rattle.layers.specs.Layers.{layer_refusal}
use Rattle.layer_rows.specs.declared.Row.{Row}
use Rattle.layer_rows.specs.Rows.{held_rows, words_of, rows_on, new_row, spot_in, marked}
use Rattle.layer_rows.proofs.Rows.{of_spot}
use Rattle.layer_rows.proofs.Table.{on_more, on_length, held_on}
use Rattle.layer_rows.proofs.Marks.{mark_length, mark_put}
use Rattle.layer_table.specs.Layers.{room_in, same, raised_row, child_row, full_refusal, to_top, top_refusal, with_sublayer, pair_refusal, family_refusal, sublayer_refusal}
use Rattle.layer_table.proofs.Counts.{marked_count}

-- ---- the layer's row k, changed by f, is put in the table
module _ (f : Row → Row) (count : ℕ) (w : List ℕ) (layer : LayerId) (k n m : ℕ) (e : k ≡ spot_in (held_rows count w) layer) (q : n ≡ min count (length w / 8)) (h : m ≡ max n (k + 1)) where
  pub changed : spot_in (held_rows count w) layer < room_in w → (row r : Row) → row ≡ get_or (held_rows count w) k (new_row layer) → r ≡ f row → (here : List ℕ) → here ≡ put_at w (8 * k) (words_of r)
      → (m ≡ length (marked f (held_rows count w) layer)) × (here ≡ rows_on w (marked f (held_rows count w) layer))
  changed l row r d p here g = (marked_count count w n q f layer k m e h, g ∙ mark_put f count w layer k r e (p ∙ ap f (of_spot count w layer k row e d)) (omega arith))

-- ---- what is refused
pub room_left : (room n : ℕ) → full_refusal room n ≡ 0 → n ≤ room
room_left room n = go (ltb room n) refl
  where
    go : (t : Bool) → ltb room n ≡ t → cond t full none ≡ 0 → n ≤ room
    go true e z = absurd (omega arith)
    go false e z = ltb-false room n e

-- there is room for the layer's row
marked_fits : (f : Row → Row) (rows : List Row) (layer : LayerId) (room : ℕ) → length (marked f rows layer) ≤ room → spot_in rows layer < room
marked_fits f rows layer room l = omega (arith, mark_length f layer rows)

-- ---- `move_to_top`
module _ (count : ℕ) (w : List ℕ) (layer : LayerId) where
  pub top_number : (k n m : ℕ) → k ≡ spot_in (held_rows count w) layer → n ≡ min count (length w / 8) → m ≡ max n (k + 1) → (a b r : ℕ) → a ≡ layer_refusal layer → b ≡ full_refusal (room_in w) m → r ≡ lowest a b → r ≡ top_refusal (room_in w) (held_rows count w) layer
  unfolding top_refusal to_top
  top_number k n m e q h a b r p d l = l ∙ rw (p, d, marked_count count w n q raised_row layer k m e h)

  module _ (z : 0 ≡ top_refusal (room_in w) (held_rows count w) layer) where
    pub top_fits : spot_in (held_rows count w) layer < room_in w
    unfolding top_refusal to_top
    top_fits =
        let free = (both_none (layer_refusal layer) (full_refusal (room_in w) (length (to_top (held_rows count w) layer))) (sym z)).1 in
        marked_fits raised_row (held_rows count w) layer (room_in w) (room_left (room_in w) (length (to_top (held_rows count w) layer)) free)

-- ---- `set_sublayer`
module _ (count : ℕ) (w : List ℕ) (parent child : LayerId) (z : 0 ≡ sublayer_refusal (room_in w) (held_rows count w) parent child) where
  both_fit : length (with_sublayer (held_rows count w) parent child) ≤ room_in w
  unfolding sublayer_refusal
  both_fit =
      let (layers, others) = both_none (lowest (layer_refusal parent) (layer_refusal child)) (lowest (full_refusal (room_in w) (length (with_sublayer (held_rows count w) parent child))) (lowest (pair_refusal parent child) (family_refusal (held_rows count w) parent child))) (sym z) in
      let (free, pairs) = both_none (full_refusal (room_in w) (length (with_sublayer (held_rows count w) parent child))) (lowest (pair_refusal parent child) (family_refusal (held_rows count w) parent child)) others in
      room_left (room_in w) (length (with_sublayer (held_rows count w) parent child)) free

  abbrev entered : List Row
  entered = marked same (held_rows count w) parent

  fewer : length entered ≤ length (with_sublayer (held_rows count w) parent child)
  unfolding with_sublayer
  fewer = omega (arith, mark_length (child_row parent.id) child entered)

  entered_fit : length entered ≤ room_in w
  entered_fit = omega (arith, fewer, both_fit)

  pub parent_fits : spot_in (held_rows count w) parent < room_in w
  parent_fits = marked_fits same (held_rows count w) parent (room_in w) entered_fit

  module _ (n : ℕ) (here : List ℕ) (g : (n ≡ length (marked same (held_rows count w) parent)) × (here ≡ rows_on w (marked same (held_rows count w) parent))) where
    rows_here : held_rows n here ≡ entered
    rows_here = rw (g.0, g.1) (held_on w entered (omega (arith, entered_fit)))

    long_here : room_in here ≡ room_in w
    long_here = rw (g.1, on_length w entered (omega (arith, entered_fit)))

    pub child_fits : spot_in (held_rows n here) child < room_in here
    unfolding with_sublayer
    child_fits = rw (rows_here, long_here) (marked_fits (child_row parent.id) entered child (room_in w) both_fit)

    pub paired : (m : ℕ) (there : List ℕ) → (m ≡ length (marked (child_row parent.id) (held_rows n here) child)) × (there ≡ rows_on here (marked (child_row parent.id) (held_rows n here) child))
        → (m ≡ length (with_sublayer (held_rows count w) parent child)) × (there ≡ kept (sublayer_refusal (room_in w) (held_rows count w) parent child) w (rows_on w (with_sublayer (held_rows count w) parent child)))
    unfolding with_sublayer
    paired m there d =
        let same_rows = ap (λ (t : List Row). marked (child_row parent.id) t child) rows_here in
        (d.0 ∙ ap length same_rows, rw (← z) (d.1 ∙ ap (rows_on here) same_rows ∙ ap (λ (t : List ℕ). rows_on t (with_sublayer (held_rows count w) parent child)) g.1 ∙ on_more w entered (with_sublayer (held_rows count w) parent child) fewer))
