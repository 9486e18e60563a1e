-- Where the stack fits, the record's tests about layers say what egui's do. Assumes nothing.
use Rattle.std.specs.Prelude.{◌≡◌, Bool, true, false, cond, not, ◌&&◌, ◌||◌, eqb, ltb}
use mathlib.Core.Path.{refl, ap, ◌∙◌}
use Rattle.std.specs.Prelude.{Option, None, Some}
use Rattle.emath.specs.declared.Pos2.{Pos2}
use Rattle.layers.specs.declared.LayerId.{LayerId}
use Rattle.layer_queries.specs.Queries.{compared}
use Rattle.area_stack.specs.Stack.{layer_id_at as areasLayerIdAt}
use Rattle.areas.specs.declared.Areas.{Areas}
use Rattle.areas.specs.Areas.{stack_of, areas_in}
use Rattle.area_maps.specs.Egui as EguiAreas
use Rattle.area_maps.specs.Meaning.{meaning, entries_in}
use Rattle.area_maps.specs.Meaning as Areas
use Rattle.area_maps.specs.Fits.{StackFits}
use Rattle.area_maps.proofs.Queries.{query_hit}
use Rattle.area_maps.proofs.Answers.{compare_means}
use Rattle.focus_rules.specs.Rules.{layer_or_nothing}
use Rattle.memory_rules.specs.declared.Memory.{Memory}
use Rattle.memory_rules.specs.State.{areas_of, nav_of}
use Rattle.memory_rules.specs.Memory.{is_below, is_above, is_allowed, stays_modal}
use Rattle.memory_rules.specs.Memory.{unless_below, layer_id_at}
use Rattle.memory_maps.specs.Egui as Egui
use Rattle.memory_maps.specs.Calls.{meaning_of}

-- ---- compare_order answers 0, 1 or 2
at_least : (m : EguiAreas.Areas) (x y : LayerId) → not (eqb (EguiAreas.compare_order m x y) 0) ≡ Egui.is_equal_or_greater (EguiAreas.compare_order m x y)
unfolding EguiAreas.compare_order
at_least m x y = go (eqb x.order y.order)
  where
    three : (s t : Bool) → not (eqb (cond s 0 (cond t 2 1)) 0) ≡ Egui.is_equal_or_greater (cond s 0 (cond t 2 1))
    three true t = refl
    three false true = refl
    three false false = refl

    go : (b : Bool) → (let c = cond b (compared (m.order_map x) (m.order_map y)) (compared x.order y.order) in not (eqb c 0) ≡ Egui.is_equal_or_greater c)
    go true = three (ltb (m.order_map x) (m.order_map y)) (ltb (m.order_map y) (m.order_map x))
    go false = three (ltb x.order y.order) (ltb y.order x.order)

-- ---- the tests
module _ (m : Memory)
    (s : StackFits (areas_of m).placed (stack_of (areas_of m)) (entries_in (areas_of m))) where
  abbrev a : Areas
  a = areas_of m

  below_means : (x y : LayerId) → is_below m x y ≡ Egui.is_less (EguiAreas.compare_order (Areas.meaning_of a) x y)
  below_means x y = ap Egui.is_less (compare_means a s x y)

  pub above_means : (layer : LayerId) → is_above m layer ≡ Egui.is_above_modal_layer (meaning_of m) layer
  unfolding is_above
  above_means layer = go (eqb modal.id 0)
    where
      modal : LayerId
      modal = (nav_of m).top_modal_layer

      go : (b : Bool) → (b || not (is_below m layer modal)) ≡ Egui.is_above (meaning_of m) (cond b None (Some modal)) layer
      go true = refl
      go false = ap not (below_means layer modal) ∙ at_least (Areas.meaning_of a) layer modal

  pub allowed_means : (layer : LayerId) → is_allowed m layer ≡ Egui.allows_interaction (meaning_of m) layer
  unfolding is_allowed
  allowed_means layer = ap (λ (b : Bool). b && true) (above_means layer)

  pub stays_means : (layer : LayerId) → stays_modal m layer ≡ Egui.is_less_than (meaning_of m) (meaning_of m).focus.top_modal_layer_current_frame layer
  stays_means layer = go (eqb current.id 0)
    where
      current : LayerId
      current = (nav_of m).top_modal_layer_current_frame

      go : (b : Bool) → (not b && is_below m layer current) ≡ Egui.is_less_than (meaning_of m) (cond b None (Some current)) layer
      go true = refl
      go false = below_means layer current

  pub hit_means : (pos : Pos2) → layer_id_at m pos ≡ Egui.layer_id_at (meaning_of m) pos
  unfolding layer_id_at areasLayerIdAt
  hit_means pos = ap (unless_below m) (query_hit a.placed (stack_of a) (entries_in a) s (areas_in a) a.states refl pos) ∙ go (EguiAreas.layer_id_at (Areas.meaning_of a) pos)
    where
      go : (l : Option LayerId) → unless_below m l ≡ Egui.unless_below (meaning_of m) l
      go None = refl
      go (Some layer) = ap (λ (b : Bool). cond b (Some layer) (layer_or_nothing (nav_of m).top_modal_layer)) (above_means layer)
