-- What `set_sublayer` leaves of the record fits its tables, and means what egui's text leaves.
-- Assumes nothing.
use mathlib.Core.Path.{◌≡◌, refl, ap, ◌∙◌}
use mathlib.Core.Bool.{Bool, true, false, cond, not, ◌&&◌, ◌||◌}
use mathlib.Core.List.{List}
use Prim.Native.Nat.{ℕ, ◌≤◌}
use native.Mathlib.Omega.{arith}
use lib.Dec.{eqb}
use lib.ListN.{length}
use borrow.Author.Tests.{eqb-true}
use Rattle.refusal.specs.Refusal.{lowest}
use Rattle.refusal.proofs.Laws.{both_none}
use Rattle.layers.specs.declared.LayerId.{LayerId}
use Rattle.layers.specs.Layers.{is_layer, layer_refusal}
use Rattle.stacking.specs.Lists.{some}
use Rattle.layer_rows.specs.declared.Row.{Row}
use Rattle.layer_rows.specs.Rows.{row_of, marked}
use Rattle.layer_queries.specs.Queries.{is_sublayer_row, is_child_row}
use Rattle.layer_table.specs.Layers.{room_in, same, child_row, full_refusal, pair_refusal, family_refusal, other_parent, with_sublayer, sublayer_refusal}
use Rattle.layer_table.proofs.Changes.{room_left}
use Rattle.areas.specs.declared.Areas.{Areas}
use Rattle.areas.specs.Areas.{stack_of, with_stack, sublayer_set}
use Rattle.area_maps.specs.Egui.{pushed}
use Rattle.area_maps.specs.Egui as Egui
use Rattle.area_maps.specs.Calls.{SetSublayer, egui_step}
use Rattle.area_maps.specs.Meaning.{layers_in, meaning_of, entries_in}
use Rattle.area_maps.specs.Fits.{Fits}
use Rattle.area_maps.proofs.Marked.{layers_marked}
use Rattle.area_maps.proofs.Pushed.{turned}
use Rattle.area_maps.proofs.Sublayers.{sublayer_means, sublayer_fits}
use Rattle.area_maps.proofs.Queries.{refusal_family}
use Rattle.area_maps.proofs.Steps.{layer_taken, Leaves, unless, stack_leaves, full_same}

-- ---- what refusals 8 and 9 that are none say of a pair
module _ (parent child : LayerId) where
  pair_taken : pair_refusal parent child ≡ 0 → (parent.order ≡ child.order) × (is_layer child parent ≡ false)
  unfolding is_layer
  pair_taken e = go (eqb parent.order child.order) (eqb parent.id child.id) refl refl e
    where
      go : (s t : Bool) → eqb parent.order child.order ≡ s → eqb parent.id child.id ≡ t → ◌≡◌ {A = ℕ} (cond (s && not t) 0 8) 0 → (parent.order ≡ child.order) × (is_layer child parent ≡ false)
      go true true p q h = absurd (omega arith)
      go true false p q h = (eqb-true parent.order child.order p, turned parent child (rw (p, q)))
      go false t p q h = absurd (omega arith)

  family_taken : (rows : List Row) → family_refusal rows parent child ≡ 0 → (other_parent (row_of rows child) parent.id ≡ false) × (some (is_child_row child) rows ≡ false) × (is_sublayer_row (row_of rows parent) ≡ false)
  unfolding family_refusal
  family_taken rows e = go (other_parent (row_of rows child) parent.id) (some (is_child_row child) rows) (is_sublayer_row (row_of rows parent)) e
    where
      go : (a b c : Bool) → ◌≡◌ {A = ℕ} (cond (a || (b || c)) 9 0) 0 → (a ≡ false) × (b ≡ false) × (c ≡ false)
      go true b c h = absurd (omega arith)
      go false true c h = absurd (omega arith)
      go false false true h = absurd (omega arith)
      go false false false h = (refl, refl, refl)

module _ (limit : ℕ) (a : Areas) (s : Fits limit a) (parent child : LayerId) where
  abbrev next : List Row
  next = with_sublayer (stack_of a) parent child

  layers_next : layers_in next ≡ pushed (pushed (layers_in (stack_of a)) parent) child
  unfolding with_sublayer
  layers_next =
      let rows = stack_of a in
      layers_marked (child_row parent.id) (λ r. refl) child (marked same rows parent)
      ∙ ap (λ (o : List LayerId). pushed o child) (layers_marked same (λ r. refl) parent rows)

  pub sub_refusal : sublayer_refusal (room_in a.rows) (stack_of a) parent child ≡ Egui.set_sublayer_refusal (meaning_of a) limit parent child
  unfolding sublayer_refusal Egui.set_sublayer_refusal
  sub_refusal =
      let order = pushed (pushed (layers_in (stack_of a)) parent) child in
      let full = full_same limit a s next order layers_next in
      rw (full, refusal_family a.placed (stack_of a) (entries_in a) s.stack parent child)

  module _ (e : sublayer_refusal (room_in a.rows) (stack_of a) parent child ≡ 0) where
    abbrev Taken : Type 0
    Taken =
        (layer_refusal parent ≡ 0) × (length next ≤ limit)
        × (pair_refusal parent child ≡ 0) × (family_refusal (stack_of a) parent child ≡ 0)

    taken : Taken
    unfolding sublayer_refusal
    taken =
        let layers = lowest (layer_refusal parent) (layer_refusal child) in
        let full = full_refusal (room_in a.rows) (length next) in
        let family = family_refusal (stack_of a) parent child in
        let pair = lowest (pair_refusal parent child) family in
        let (p, q) = both_none layers (lowest full pair) e in
        let (p1, p2) = both_none (layer_refusal parent) (layer_refusal child) p in
        let (f, r) = both_none full pair q in
        let (r1, r2) = both_none (pair_refusal parent child) family r in
        (p1, omega (arith, room_left (room_in a.rows) (length next) f, s.room.rows), r1, r2)

    sub_leaves : Leaves limit (with_stack a a.placed next)
        (Egui.set_sublayer (meaning_of a) parent child)
    sub_leaves =
        let rows = stack_of a in
        let entries = entries_in a in
        let (p, short, r1, r2) = taken in
        let (held, o) = layer_taken parent p in
        let (order, apart) = pair_taken parent child r1 in
        let (alone, top, root) = family_taken parent child rows r2 in
        let pair = sublayer_fits parent child rows order held alone a.placed entries in
        let same = sublayer_means parent child rows order held alone a.placed entries in
        let k = pair apart top root o s.stack in
        let (fits, means) = stack_leaves limit a s a.placed next short k in
        (fits, means ∙ same s.stack.placed_held)

  pub sub_step : Leaves limit (sublayer_set a parent child).areas
      (egui_step limit (SetSublayer parent child) (meaning_of a))
  unfolding sublayer_set
  sub_step =
      let refusal = sublayer_refusal (room_in a.rows) (stack_of a) parent child in
      rw (← sub_refusal)
      (unless limit a s refusal _ (Egui.set_sublayer (meaning_of a) parent child) sub_leaves)
