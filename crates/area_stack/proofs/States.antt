-- Laws of `set_state`, from what the calls gave. Assumes nothing.
use mathlib.Core.Path.{◌≡◌, refl, sym, ap, ◌∙◌}
use mathlib.Core.Bool.{Bool, true, false, cond}
use mathlib.Core.List.{List}
use Prim.Native.Nat.{ℕ, zero, suc, ◌+◌, ◌*◌, ◌/◌, min, max, ◌<◌}
use native.Mathlib.Omega.{arith}
use lib.Dec.{ltb}
use lib.ListN.{length, get_or}
use borrow.Author.Tests.{ltb-true}
use Rattle.refusal.specs.declared.Refusal.{Refusal}
use Rattle.refusal.specs.Refusal.{none, full, lowest, number_of, kept}
use Rattle.refusal.proofs.Laws.{both_none, positive}
use Rattle.tables.specs.Tables.{put_at}
use Rattle.area.specs.declared.AreaState.{AreaState}
use Rattle.area.specs.Area.{state_refusal}
use Rattle.layers.specs.declared.LayerId.{LayerId}
use Rattle.layers.specs.Layers.{layer_refusal}
use Rattle.layer_rows.specs.declared.Row.{Row}
use Rattle.layer_rows.specs.Rows.{words_of, new_row, spot_in, row_of, rows_on, marked}
use Rattle.layer_rows.proofs.Rows.{held_length, of_spot}
use Rattle.layer_rows.proofs.Marks.{mark_length, mark_put}
use Rattle.layer_table.specs.Layers.{room_in}
use Rattle.area_table.specs.Table.{Table, room_of, held_in, spot_of, put_in}
use Rattle.area_stack.specs.Stack.{Tables, stack_in, shown_row, slot_of, room_refusal, set_state_refusal, set_state_of}

-- the counts of some tables, with the rows and the states of others
abbrev with_counts : Tables → List ℕ → Table → Tables
with_counts t rows areas = record { count = t.count; states = t.states; rows = rows; areas = areas }

-- ---- there is room at a place
fits : (k room : ℕ) → room_refusal k room ≡ 0 → k < room
fits k room = go (ltb k room) refl
  where
    go : (b : Bool) → ltb k room ≡ b → cond b none full ≡ 0 → k < room
    go true e z = ltb-true k room e
    go false e z = absurd (omega arith)

-- ---- the layer's row is r, at k, its area's state is at a, and by what number it is refused is v
module _ (t : Tables) (layer : LayerId) (s : AreaState) (k a : ℕ) (r : Row) (e : k ≡ spot_in (stack_in t) layer) (q : r ≡ get_or (stack_in t) k (new_row layer)) (d : a ≡ spot_of t.areas t.states r.area layer.id) (rows x room y z l m u v : ℕ) (en : rows ≡ room_in t.rows) (ex : x ≡ room_refusal k rows) (er : room ≡ room_of t.areas) (ey : y ≡ room_refusal a room) (ez : z ≡ lowest x y) (el : l ≡ layer_refusal layer) (em : m ≡ state_refusal s) (eu : u ≡ lowest l m) (ev : v ≡ lowest u z) where
  row_is : r ≡ row_of (stack_in t) layer
  row_is = of_spot t.count t.rows layer k r e q

  slot_is : slot_of t layer ≡ a
  unfolding slot_of
  slot_is = rw (← row_is) (sym d)

  pub number_is : v ≡ set_state_refusal t layer s
  unfolding set_state_refusal
  number_is = rw (slot_is, ← e, ← en, ← ex, ← er, ← ey, ← ez, ← el, ← em, ← eu) ev

  -- a refused call leaves the tables
  pub left : (refused : Refusal) → v ≡ number_of refused → with_counts (set_state_of t layer s) t.rows t.areas ≡ set_state_of t layer s
  unfolding set_state_of
  left refused p = go (set_state_refusal t layer s) (sym p ∙ number_is) _
    where
      go : (n : ℕ) → number_of refused ≡ n → (after : Tables) → with_counts (kept n t after) t.rows t.areas ≡ kept n t after
      go zero h after = let p = positive refused in absurd (omega arith)
      go (suc n) h after = refl

  -- one that is not refused has room
  module _ (h : v ≡ 0) where
    free : (x ≡ 0) × (y ≡ 0)
    free = both_none x y (sym ez ∙ (both_none u z (sym ev ∙ h)).1)

    pub slot_fits : a < room
    slot_fits = fits a room (sym ey ∙ free.1)

    pub accepted : (areas : Table) → areas ≡ put_in t.areas a layer.id s → (row : Row) → row ≡ shown_row (a + 1) r → (words : List ℕ) → words ≡ put_at t.rows (8 * k) (words_of row)
        → (n count : ℕ) → n ≡ min t.count (length t.rows / 8) → count ≡ max n (k + 1) → (held states : ℕ) → held ≡ held_in t.states t.areas → states ≡ max held (a + 1)
        → ((count ≡ (set_state_of t layer s).count) × (states ≡ (set_state_of t layer s).states)) × (with_counts (set_state_of t layer s) words areas ≡ set_state_of t layer s)
    unfolding set_state_of
    accepted areas ea row eo words es n count en' ec held states eh et =
        let fit : k < length t.rows / 8 = rw en at (fits k rows (sym ex ∙ free.0)) in
        let rows_are : words ≡ rows_on t.rows (marked (shown_row (a + 1)) (stack_in t) layer) = es ∙ mark_put (shown_row (a + 1)) t.count t.rows layer k row e (eo ∙ ap (shown_row (a + 1)) row_is) fit in
        let many : count ≡ length (marked (shown_row (a + 1)) (stack_in t) layer) = omega (arith, mark_length (shown_row (a + 1)) layer (stack_in t), held_length t.count t.rows) in
        let held_are : states ≡ max (held_in t.states t.areas) (a + 1) = et ∙ rw eh in
        rw (← number_is, h, slot_is) ((many, held_are), λ i. record { count = length (marked (shown_row (a + 1)) (stack_in t) layer); states = max (held_in t.states t.areas) (a + 1); rows = rows_are i; areas = ea i })
