-- What a call leaves of the record fits its tables, and means what egui's text leaves: the end of a
-- pass, and `move_to_top`. Assumes nothing.
use mathlib.Core.Path.{◌≡◌, refl, ap, ◌∙◌}
use mathlib.Core.Bool.{Bool, true, false, cond}
use mathlib.Core.List.{List}
use Prim.Native.Nat.{ℕ, zero, suc, ◌/◌, ◌≤◌}
use native.Mathlib.Omega.{arith}
use lib.Dec.{eqb, ltb}
use lib.ListN.{length}
use borrow.Author.Tests.{ltb-false}
use Rattle.refusal.specs.Limits.{last_order}
use Rattle.refusal.specs.Refusal.{lowest, id_refusal, code_refusal, kept}
use Rattle.refusal.proofs.Laws.{both_none}
use Rattle.layers.specs.declared.LayerId.{LayerId}
use Rattle.layers.specs.Layers.{layer_refusal}
use Rattle.layer_rows.specs.declared.Row.{Row}
use Rattle.layer_rows.proofs.Rows.{held_length}
use Rattle.layer_rows.proofs.Table.{held_on, on_length}
use Rattle.layer_sort.specs.Sort.{end_rows}
use Rattle.layer_sort.proofs.Meaning.{ended_length}
use Rattle.layer_table.specs.Layers.{room_in, raised_row, full_refusal, to_top, top_refusal}
use Rattle.layer_table.proofs.Changes.{room_left}
use Rattle.areas.specs.declared.Areas.{Areas}
use Rattle.areas.specs.Areas.{stack_of, with_stack, to_top_of, pass_ended}
use Rattle.area_maps.specs.Egui.{pushed}
use Rattle.area_maps.specs.Egui as Egui
use Rattle.area_maps.specs.Calls.{MoveToTop, egui_step}
use Rattle.area_maps.specs.Meaning.{layers_in, meaning, meaning_of, entries_in}
use Rattle.area_maps.specs.Fits.{HasRoom, StackFits, Fits}
use Rattle.area_maps.proofs.Marked.{layers_marked}
use Rattle.area_maps.proofs.Changes.{length_layers, marked_fits, top_means}
use Rattle.area_maps.proofs.Ended.{ended_fits, ended_means}

-- ---- what a refusal that is none says
pub layer_taken : (l : LayerId) → layer_refusal l ≡ 0 → (eqb l.id 0 ≡ false) × (l.order ≤ last_order)
unfolding layer_refusal
layer_taken l e =
    let (a, b) = both_none (id_refusal l.id) (code_refusal l.order last_order) e in
    (id (eqb l.id 0) a, code (ltb last_order l.order) refl b)
  where
    id : (t : Bool) → ◌≡◌ {A = ℕ} (cond t 1 0) 0 → t ≡ false
    id true h = absurd (omega arith)
    id false h = refl

    code : (t : Bool) → ltb last_order l.order ≡ t → ◌≡◌ {A = ℕ} (cond t 2 0) 0 → l.order ≤ last_order
    code true p h = absurd (omega arith)
    code false p h = ltb-false last_order l.order p

-- ---- what is to be shown of what a call leaves: it fits its tables, and means this
abbrev pub Leaves : ℕ → Areas → Egui.Areas → Type 0
Leaves limit after next = Fits limit after × (meaning_of after ≡ next)

module _ (limit : ℕ) (a : Areas) (s : Fits limit a) where
  -- a call that is refused leaves what was there
  pub unless : (r : ℕ) (after : Areas) (next : Egui.Areas) → (r ≡ 0 → Leaves limit after next)
      → Leaves limit (kept r a after) (kept r (meaning_of a) next)
  unless zero after next leaves = leaves refl
  unless (suc r) after next leaves = (s, refl)

  -- ---- the record with another stack
  module _ (placed : ℕ) (stack : List Row) (short : length stack ≤ limit)
      (k : StackFits placed stack (entries_in a)) where
    here : stack_of (with_stack a placed stack) ≡ stack
    here = held_on a.rows stack (omega (arith, s.room.rows))

    room : HasRoom limit (with_stack a placed stack)
    room =
        let same = on_length a.rows stack (omega (arith, s.room.rows)) in
        record { rows = ap (λ (n : ℕ). n / 8) same ∙ s.room.rows; states = s.room.states }

    pub stack_leaves :
        Leaves limit (with_stack a placed stack) (meaning placed stack (entries_in a))
    stack_leaves = (
      record { room = room; stack = rw here k },
      ap (λ (rows : List Row). meaning placed rows (entries_in a)) here,
    )

  pub full_same : (stack : List Row) (order : List LayerId) → layers_in stack ≡ order → full_refusal (room_in a.rows) (length stack) ≡ Egui.full_refusal limit order
  full_same stack order e = rw (s.room.rows, ← length_layers stack, e)

  -- ---- the end of a pass
  pub end_step : Leaves limit (pass_ended a) (Egui.end_pass (meaning_of a))
  unfolding pass_ended
  end_step =
      let rows = stack_of a in
      let e : length (end_rows rows) ≡ length rows = ended_length rows in
      let k = rw e at (ended_fits a.placed rows (entries_in a) s.stack) in
      let m = rw e at (ended_means a.placed rows (entries_in a) s.stack) in
      let h : length rows ≤ limit = omega (arith, held_length a.count a.rows, s.room.rows) in
      let (fits, means) = stack_leaves (length rows) (end_rows rows) (omega arith) k in
      (fits, means ∙ m)

  -- ---- `move_to_top`
  module _ (l : LayerId) where
    pub top_refusal_lem : top_refusal (room_in a.rows) (stack_of a) l ≡ Egui.move_to_top_refusal (meaning_of a) limit l
    unfolding top_refusal Egui.move_to_top_refusal to_top
    top_refusal_lem = ap (λ (n : ℕ). lowest (layer_refusal l) n) (full_same (to_top (stack_of a) l) (pushed (layers_in (stack_of a)) l) (layers_marked raised_row (λ r. refl) l (stack_of a)))

    module _ (e : top_refusal (room_in a.rows) (stack_of a) l ≡ 0) where
      abbrev next : List Row
      next = to_top (stack_of a) l

      taken : (layer_refusal l ≡ 0) × (full_refusal (room_in a.rows) (length next) ≡ 0)
      unfolding top_refusal
      taken = both_none (layer_refusal l) (full_refusal (room_in a.rows) (length next)) e

      short : length next ≤ limit
      short = omega (arith, room_left (room_in a.rows) (length next) taken.1, s.room.rows)

      next_fits : StackFits a.placed next (entries_in a)
      unfolding to_top
      next_fits =
          marked_fits raised_row (λ r. refl) (λ p r. refl) l a.placed (stack_of a)
          (layer_taken l taken.0).1 (entries_in a) (entries_in a) s.stack
          s.stack.entries_distinct (λ id h f. h)

      top_leaves : Leaves limit (with_stack a a.placed next) (Egui.move_to_top (meaning_of a) l)
      top_leaves =
          let (fits, means) = stack_leaves a.placed next short next_fits in
          (fits, means ∙ top_means l a.placed (stack_of a) (entries_in a) s.stack.placed_held)

    pub top_step : Leaves limit (to_top_of a l).areas (egui_step limit (MoveToTop l) (meaning_of a))
    unfolding to_top_of
    top_step =
        let refusal = top_refusal (room_in a.rows) (stack_of a) l in
        rw (← top_refusal_lem) (unless refusal _ (Egui.move_to_top (meaning_of a) l) top_leaves)
