-- Areas of memory/mod.rs (lines 1199 to 1440) in its own terms, its maps, sets and lists. Definitions only.
use Rattle.std.specs.Prelude.{Option, None, Some, ℕ, suc, Bool, false, cond, not, ◌&&◌, ◌||◌, List, [], ◌∷◌, ◌++◌, eqb, ltb, length}
use Rattle.std.specs.Option.{option_or}
use Rattle.refusal.specs.Refusal.{none, full, bad_family, lowest}
use Rattle.emath.specs.declared.Pos2.{Pos2}
use Rattle.area.specs.declared.AreaState.{AreaState}
use Rattle.area.specs.Area.{state_refusal}
use Rattle.layers.specs.declared.LayerId.{LayerId}
use Rattle.layers.specs.Layers.{is_layer, layer_refusal}
use Rattle.stacking.specs.Lists.{keep, some, each}
use Rattle.stacking.specs.Stacking.{stacked, holds}
use Rattle.area_table.specs.Table.{Entry, get_in, insert_in}
use Rattle.layer_queries.specs.Queries.{compared}
use Rattle.areas.specs.declared.Window.{Window}
use Rattle.layer_table.specs.Layers.{pair_refusal}
use Rattle.area_stack.specs.Stack.{hit_by, is_interactable as interactableIn}
use Rattle.areas.specs.Areas.{window_in}

-- `areas` is a map from ids to states, as its entries; a set of layers is the function that says whether a layer is in it; `order_map` has one more than the index, or 0 for none, which is how
-- Rust orders an Option; `sublayers parent child` says whether the parent's set contains the child
pub record Areas : Type 0 where
  pub areas : List Entry
  pub last : LayerId → Bool
  pub current : LayerId → Bool
  pub order : List LayerId
  pub order_map : LayerId → ℕ
  pub on_top : LayerId → Bool
  pub sublayers : LayerId → LayerId → Bool

unfoldable pub empty : Areas
empty = record { areas = []; last = λ l. false; current = λ l. false; order = []; order_map = λ l. 0; on_top = λ l. false; sublayers = λ p c. false }

-- Order::Middle
abbrev pub middle : ℕ
middle = 1

-- `insert` of a set; a push onto the list, unless it contains the layer
abbrev pub with : (LayerId → Bool) → LayerId → LayerId → Bool
with set layer l = is_layer layer l || set l

abbrev pub pushed : List LayerId → LayerId → List LayerId
pushed order layer = cond (holds order layer) order (order ++ (layer ∷ []))

-- one more than the place of a layer in a list, where it stands once, or 0 where it has none
unfoldable pub place_in : List LayerId → LayerId → ℕ
place_in [] layer = 0
place_in (l ∷ order) layer = cond (is_layer l layer) 1 (cond (holds order layer) (suc (place_in order layer)) 0)

-- the last layer of which something holds
unfoldable pub topmost : (LayerId → Bool) → List LayerId → Option LayerId
topmost p [] = None
topmost p (l ∷ order) = option_or (topmost p order) (cond (p l) (Some l) None)

-- more layers than the limit
abbrev pub full_refusal : ℕ → List LayerId → ℕ
full_refusal limit order = cond (ltb limit (length order)) full none

module _ (m : Areas) where
  -- ---- `set_state`, `move_to_top`, `set_sublayer` (lines 1276 to 1282 and 1335 to 1369)
  unfoldable pub set_state : LayerId → AreaState → Areas
  set_state layer state = record { areas = insert_in m.areas layer.id state; last = m.last; current = with m.current layer; order = pushed m.order layer; order_map = m.order_map; on_top = m.on_top; sublayers = m.sublayers }

  unfoldable pub move_to_top : LayerId → Areas
  move_to_top layer = record { areas = m.areas; last = m.last; current = with m.current layer; order = pushed m.order layer; order_map = m.order_map; on_top = with m.on_top layer; sublayers = m.sublayers }

  unfoldable pub set_sublayer : LayerId → LayerId → Areas
  set_sublayer parent child = record { areas = m.areas; last = m.last; current = m.current; order = pushed (pushed m.order parent) child; order_map = m.order_map; on_top = m.on_top; sublayers = λ p c. (is_layer parent p && is_layer child c) || m.sublayers p c }

  -- ---- `end_pass` (lines 1398 to 1440): `stacked` is the stable sort by (Order, raised), and then each top layer followed by its children
  unfoldable pub end_pass : Areas
  end_pass =
      let order = stacked m.on_top m.sublayers m.order in
      record { areas = m.areas; last = m.current; current = λ l. false; order = order; order_map = place_in order; on_top = λ l. false; sublayers = λ p c. false }

  -- ---- the queries (lines 1228 to 1261, 1285 to 1333 and 1371 to 1396)
  unfoldable pub get : ℕ → Option AreaState
  get id = get_in m.areas id

  abbrev pub is_interactable : LayerId → Bool
  is_interactable layer = interactableIn (get layer.id)

  abbrev pub is_visible : LayerId → Bool
  is_visible layer = m.last layer || m.current layer

  unfoldable pub compare_order : LayerId → LayerId → ℕ
  compare_order a b = cond (eqb a.order b.order) (compared (m.order_map a) (m.order_map b)) (compared a.order b.order)

  -- from the top, the first that is visible, and whose area is interactable and contains the point
  unfoldable pub layer_id_at : Pos2 → Option LayerId
  layer_id_at pos = topmost (λ l. is_visible l && hit_by pos (get l.id)) m.order

  -- the parent of a layer, which has at most one (refusal 9)
  unfoldable pub parent_layer : LayerId → Option LayerId
  parent_layer layer = topmost (λ p. m.sublayers p layer) m.order

  abbrev pub is_sublayer : LayerId → Bool
  is_sublayer layer = some (λ p. m.sublayers p layer) m.order

  unfoldable pub top_layer_id : ℕ → Option LayerId
  top_layer_id order = topmost (λ l. eqb l.order order && not (is_sublayer l)) m.order

  -- listings, in stack order (document 01, "Map order")
  unfoldable pub visible_layer_ids : List LayerId
  visible_layer_ids = keep is_visible m.order

  unfoldable pub child_layers : LayerId → List LayerId
  child_layers layer = keep (m.sublayers layer) m.order

  unfoldable pub visible_windows : List Window
  visible_windows = each (λ l. window_in l (get l.id)) (keep (λ l. eqb l.order middle && not (is_sublayer l)) visible_layer_ids)

  -- ---- document 01's refusals, 6 and 9 over these
  unfoldable pub set_state_refusal : ℕ → LayerId → AreaState → ℕ
  set_state_refusal limit layer state = lowest (lowest (layer_refusal layer) (state_refusal state)) (full_refusal limit (pushed m.order layer))

  unfoldable pub move_to_top_refusal : ℕ → LayerId → ℕ
  move_to_top_refusal limit layer = lowest (layer_refusal layer) (full_refusal limit (pushed m.order layer))

  -- the child has another parent, or is a parent, or the parent is a child
  abbrev pub is_misfit : LayerId → LayerId → Bool
  is_misfit parent child = some (λ p. m.sublayers p child && not (is_layer p parent)) m.order || (some (m.sublayers child) m.order || is_sublayer parent)

  unfoldable pub set_sublayer_refusal : ℕ → LayerId → LayerId → ℕ
  set_sublayer_refusal limit parent child =
      lowest (lowest (layer_refusal parent) (layer_refusal child)) (lowest (full_refusal limit (pushed (pushed m.order parent) child)) (lowest (pair_refusal parent child) (cond (is_misfit parent child) bad_family none)))
