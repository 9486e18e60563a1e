-- What `set_state` leaves of the record fits its tables, and means what egui's text leaves. There
-- is room for every layer's state: ids that have a state are ids of layers. Assumes nothing.
use mathlib.Core.Path.{◌≡◌, refl, sym, ap, ◌∙◌}
use mathlib.Core.Bool.{Bool, true, false, cond, ◌||◌}
use mathlib.Core.List.{List, [], ◌∷◌, map}
use Prim.Native.Nat.{ℕ, zero, suc, ◌+◌, ◌*◌, ◌/◌, max, ◌<◌, ◌≤◌}
use native.Mathlib.Decide.{dec_lt}
use native.Mathlib.Omega.{arith}
use lib.Dec.{eqb, ltb}
use lib.ListN.{length}
use borrow.Author.Tests.{lt-ltb, le-ltb, ltb-true}
use Rattle.refusal.specs.Limits.{last_order}
use Rattle.refusal.specs.Refusal.{lowest, kept}
use Rattle.refusal.proofs.Laws.{both_none}
use Rattle.area.specs.declared.AreaState.{AreaState}
use Rattle.area.specs.Area.{state_refusal}
use Rattle.layers.specs.declared.LayerId.{LayerId}
use Rattle.layers.specs.Layers.{layer_refusal}
use Rattle.stacking.specs.Lists.{some}
use Rattle.layer_rows.specs.declared.Row.{Row}
use Rattle.layer_rows.specs.Rows.{row_of, spot_in, marked}
use Rattle.layer_rows.proofs.Rows.{held_length}
use Rattle.layer_rows.proofs.Table.{held_on, on_length}
use Rattle.layer_rows.proofs.Marks.{mark_length}
use Rattle.layer_table.specs.Layers.{room_in}
use Rattle.std.specs.Prelude.{None}
use Rattle.area_table.specs.Table.{Entry, room_of, held_in, spot_of, put_in, entries_of, get_in, insert_in, elem}
use Rattle.area_table.specs.Table as Table
use Rattle.area_table.proofs.Entries.{entries_put, entries_count, put_room, insert_distinct, insert_get, distinct_fits}
use Rattle.areas.specs.declared.Areas.{Areas}
use Rattle.area_stack.specs.Stack.{Tables, slot_of, shown_row, room_refusal}
use Rattle.area_stack.specs.Stack.{set_state_refusal, set_state_of, with_state}
use Rattle.areas.specs.Areas.{tables_of, stack_of, areas_in, areas_of, state_set}
use Rattle.area_maps.specs.Egui.{pushed}
use Rattle.area_maps.specs.Egui as Egui
use Rattle.area_maps.specs.Calls.{SetState, egui_step}
use Rattle.area_maps.specs.Meaning.{layers_in, meaning_of, entries_in}
use Rattle.area_maps.specs.Fits.{HasRoom, has_id, StackFits, Fits}
use Rattle.area_maps.proofs.Marked.{layers_marked}
use Rattle.area_maps.proofs.Changes.{length_layers, marked_known, marked_fits, state_means}
use Rattle.area_maps.proofs.Steps.{layer_taken, Leaves}

-- ids of layers
elem_some : (order : List LayerId) (id : ℕ) → elem (map (λ (l : LayerId). l.id) order) id ≡ some (has_id id) order
unfolding elem some
elem_some [] id = refl
elem_some (l ∷ order) id = go (eqb l.id id) (elem_some order id)
  where
    go : (t : Bool) → elem (map (λ (l : LayerId). l.id) order) id ≡ some (has_id id) order → cond t true (elem (map (λ (l : LayerId). l.id) order) id) ≡ t || some (has_id id) order
    go true e = refl
    go false e = e

ids_length : (order : List LayerId) → length (map (λ (l : LayerId). l.id) order) ≡ length order
ids_length [] = refl
ids_length (l ∷ order) = ap suc (ids_length order)

-- what a map holds after an insert, of other ids
other_id : (entries : List Entry) (x : ℕ) (state : AreaState) (id : ℕ) → (get_in (insert_in entries x state) id ≡ None → ⊥) → eqb x id ≡ false → (get_in entries id ≡ None → ⊥)
other_id entries x state id h e v = h (insert_get entries x state id ∙ rw (e, v))

reach : (n k : ℕ) → cond (ltb k n) n (k + 1) ≡ max n (k + 1)
reach n k = go (dec_lt k n)
  where
    go : Dec (k < n) → cond (ltb k n) n (k + 1) ≡ max n (k + 1)
    go (yes h) = rw (lt-ltb k n h) (omega arith)
    go (no h) = rw (le-ltb k n (omega arith)) (omega arith)

module _ (limit : ℕ) (a : Areas) (s : Fits limit a) (l : LayerId) (state : AreaState) where
  abbrev slot : ℕ
  slot = slot_of (tables_of a) l

  abbrev stack : List Row
  stack = marked (shown_row (slot + 1)) (stack_of a) l

  abbrev entries : List Entry
  entries = insert_in (entries_in a) l.id state

  known : (id : ℕ) → (get_in entries id ≡ None → ⊥) → some (has_id id) (layers_in stack) ≡ true
  known =
      marked_known (shown_row (slot + 1)) (λ r. refl) (λ p r. refl) l a.placed (stack_of a)
      (entries_in a) entries s.stack.entries_known (other_id (entries_in a) l.id state)

  distinct : Table.Distinct entries
  distinct = insert_distinct (entries_in a) l.id state s.stack.entries_distinct

  many : length entries ≤ length stack
  many =
      let h = distinct_fits entries (map (λ (x : LayerId). x.id) (layers_in stack)) distinct (λ id k. elem_some (layers_in stack) id ∙ known id k) in
      omega (arith, h, ids_length (layers_in stack), length_layers stack)

  -- how many states there are then
  count : length entries ≡ max (held_in a.states (areas_in a)) (slot + 1)
  unfolding slot_of
  count =
      entries_count (areas_in a) a.states (row_of (stack_of a) l).area l.id state
      s.stack.entries_distinct
      ∙ reach (held_in a.states (areas_in a)) slot

  -- ---- there is room for the state where there is room for the layer
  long : length stack ≡ max (length (stack_of a)) (spot_in (stack_of a) l + 1)
  long = mark_length (shown_row (slot + 1)) l (stack_of a)

  few : length (stack_of a) ≤ limit
  few = omega (arith, held_length a.count a.rows, s.room.rows)

  slot_fits : spot_in (stack_of a) l < limit → slot < limit
  slot_fits h = omega (arith, count, many, long, few)

  order_length : length (pushed (layers_in (stack_of a)) l) ≡ max (length (stack_of a)) (spot_in (stack_of a) l + 1)
  order_length = rw (← layers_marked (shown_row (slot + 1)) (λ r. refl) l (stack_of a), length_layers stack) long

  same_room : lowest (room_refusal (spot_in (stack_of a) l) (room_in a.rows)) (room_refusal slot (room_of (areas_in a))) ≡ Egui.full_refusal limit (pushed (layers_in (stack_of a)) l)
  unfolding lowest
  same_room = rw (s.room.rows, order_length) (go (dec_lt spot limit))
    where
      spot : ℕ
      spot = spot_in (stack_of a) l

      room : ℕ
      room = room_of (areas_in a)

      long : ℕ
      long = max (length (stack_of a)) (spot + 1)

      either : (t : Bool) → lowest 6 (cond t 0 6) ≡ 6
      either true = refl
      either false = refl

      lower : ℕ
      lower = lowest (cond (ltb spot limit) 0 6) (cond (ltb slot room) 0 6)

      go : Dec (spot < limit) → lower ≡ cond (ltb limit long) 6 0
      go (yes h) =
          let left : slot < room = omega (arith, slot_fits h, s.room.states) in
          rw (lt-ltb spot limit h, lt-ltb slot room left, le-ltb limit long (omega (arith, few)))
      go (no h) =
          rw (le-ltb spot limit (omega arith), lt-ltb limit long (omega arith))
          (either (ltb slot room))

  pub state_refusal_lem : set_state_refusal (tables_of a) l state ≡ Egui.set_state_refusal (meaning_of a) limit l state
  unfolding set_state_refusal Egui.set_state_refusal
  state_refusal_lem = ap (λ (n : ℕ). lowest (lowest (layer_refusal l) (state_refusal state)) n) same_room

  -- ---- the call, where it is not refused
  module _ (e : set_state_refusal (tables_of a) l state ≡ 0) where
    taken : (l.order ≤ last_order) × (spot_in (stack_of a) l < limit)
    unfolding set_state_refusal
    taken =
        let rooms = lowest (room_refusal (spot_in (stack_of a) l) (room_in a.rows)) (room_refusal slot (room_of (areas_in a))) in
        let (p, q) = both_none (lowest (layer_refusal l) (state_refusal state)) rooms e in
        let (p1, p2) = both_none (layer_refusal l) (state_refusal state) p in
        let (q1, q2) = both_none (room_refusal (spot_in (stack_of a) l) (room_in a.rows)) (room_refusal slot (room_of (areas_in a))) q in
        ((layer_taken l p1).1, left (ltb (spot_in (stack_of a) l) (room_in a.rows)) refl q1)
      where
        left : (t : Bool) → ltb (spot_in (stack_of a) l) (room_in a.rows) ≡ t → ◌≡◌ {A = ℕ} (cond t 0 6) 0 → spot_in (stack_of a) l < limit
        left true p h =
            omega (arith, ltb-true (spot_in (stack_of a) l) (room_in a.rows) p, s.room.rows)
        left false p h = absurd (omega arith)

    abbrev next : Areas
    next = areas_of a.placed (with_state (tables_of a) l state)

    short : 8 * length stack ≤ length a.rows
    short = let (o, k) = taken in omega (arith, k, long, few, s.room.rows)

    stack_next : stack_of next ≡ stack
    stack_next = held_on a.rows stack short

    entries_next : entries_in next ≡ entries
    unfolding slot_of
    entries_next =
        let (o, k) = taken in
        let area = (row_of (stack_of a) l).area in
        let left : slot < room_of (areas_in a) = omega (arith, slot_fits k, s.room.states) in
        ap (λ (n : ℕ). entries_of (put_in (areas_in a) slot l.id state) n) (sym count)
        ∙ entries_put (areas_in a) a.states area l.id state s.stack.entries_distinct left

    stack_fits : StackFits a.placed stack entries
    stack_fits =
        marked_fits (shown_row (slot + 1)) (λ r. refl) (λ p r. refl) l a.placed (stack_of a) taken.0
        (entries_in a) entries s.stack distinct (other_id (entries_in a) l.id state)

    room : HasRoom limit next
    room = record {
      rows = ap (λ (n : ℕ). n / 8) (on_length a.rows stack short) ∙ s.room.rows;
      states = omega (arith, put_room (areas_in a) slot l.id state, s.room.states);
    }

    next_fits : Fits limit next
    next_fits = record { room = room; stack = rw (stack_next, entries_next) stack_fits }

    state_leaves : Leaves limit next (Egui.set_state (meaning_of a) l state)
    state_leaves =
        let held = s.stack.placed_held in
        let means = state_means l a.placed (stack_of a) (entries_in a) held (slot + 1) state in
        (next_fits, rw (stack_next, entries_next) means)

  pub state_step : Leaves limit (state_set a l state).areas
      (egui_step limit (SetState l state) (meaning_of a))
  unfolding state_set set_state_of
  state_step = rw (← state_refusal_lem) (go (set_state_refusal (tables_of a) l state) state_leaves)
    where
      after : Tables
      after = with_state (tables_of a) l state

      next_egui : Egui.Areas
      next_egui = Egui.set_state (meaning_of a) l state

      go : (r : ℕ) → (r ≡ 0 → Leaves limit (areas_of a.placed after) next_egui)
          → Leaves limit (areas_of a.placed (kept r (tables_of a) after))
          (kept r (meaning_of a) next_egui)
      go zero leaves = leaves refl
      go (suc r) leaves = (s, refl)
