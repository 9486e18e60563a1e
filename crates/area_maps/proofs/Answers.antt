-- A record that fits its tables answers every query as egui does from what the record means.
-- Assumes nothing.
use mathlib.Core.Path.{◌≡◌, refl, sym, ap}
use Prim.Native.Nat.{ℕ, ◌≤◌}
use native.Mathlib.Omega.{arith}
use lib.ListN.{take}
use lib.Seq.{take-take}
use Rattle.layers.specs.declared.LayerId.{LayerId}
use Rattle.layer_rows.specs.Rows.{held_rows, rows_of}
use Rattle.layer_rows.proofs.Rows.{held_length}
use Rattle.layer_queries.specs.Queries.{compared_by}
use Rattle.area_table.specs.Table.{held_of}
use Rattle.area_table.proofs.Entries.{entries_length}
use Rattle.areas.specs.declared.Areas.{Areas}
use Rattle.area_stack.specs.Stack.{layer_id_at, is_interactable}
use Rattle.areas.specs.Areas.{stack_of, areas_in, layers_of, windows_of}
use Rattle.area_maps.specs.Egui as Egui
use Rattle.area_maps.specs.Meaning.{meaning_of, entries_in}
use Rattle.area_maps.specs.Answers.{LayerAnswers, AreaAnswers}
use Rattle.area_maps.specs.Fits.{StackFits}
use Rattle.area_maps.proofs.Queries.{query_order, query_compare, query_sublayer, query_parent, query_top, query_listed_visible, query_children, query_get, query_hit, query_windows}

module _ (a : Areas) (fits : StackFits a.placed (stack_of a) (entries_in a)) where
  abbrev e : Egui.Areas
  e = meaning_of a

  -- the rows that have a place are the first ones of the stack
  pub placed_rows : held_rows a.placed a.rows ≡ take a.placed (stack_of a)
  unfolding held_rows
  placed_rows =
      let few : a.placed ≤ a.count = omega (arith, fits.placed_held, held_length a.count a.rows) in
      sym (take-take a.placed a.count (rows_of a.rows) few)

  pub compare_means : (x y : LayerId) → compared_by (held_rows a.placed a.rows) x y ≡ Egui.compare_order e x y
  compare_means x y = rw placed_rows (query_compare a.placed (stack_of a) (entries_in a) x y)

  pub layer_answers : LayerAnswers a e
  unfolding layers_of
  layer_answers = (
    query_order a.placed (stack_of a) (entries_in a),
    compare_means,
    λ layer. refl,
    λ layer. refl,
    query_sublayer a.placed (stack_of a) (entries_in a) fits,
    query_parent a.placed (stack_of a) (entries_in a) fits,
    query_top a.placed (stack_of a) (entries_in a) fits,
    query_listed_visible a.placed (stack_of a) (entries_in a) fits,
    query_children a.placed (stack_of a) (entries_in a) fits,
  )

  get_means : (id : ℕ) → held_of (areas_in a) a.states 0 id ≡ Egui.get e id
  get_means id = query_get a.placed (stack_of a) (entries_in a) fits (areas_in a) a.states refl 0 id

  pub area_answers : AreaAnswers a e
  unfolding layer_id_at windows_of
  area_answers = (
    sym (entries_length (areas_in a) a.states),
    get_means,
    λ layer. ap is_interactable (get_means layer.id),
    query_hit a.placed (stack_of a) (entries_in a) fits (areas_in a) a.states refl,
    query_windows a.placed (stack_of a) (entries_in a) fits (areas_in a) a.states refl,
  )
