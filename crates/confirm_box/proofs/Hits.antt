-- What a hit answers is never under the modal layer in force: not a layer below it, and it itself is not below itself. Assumes nothing.
use Rattle.std.specs.Prelude.{Option, None, Some, ℕ, Bool, true, false, not, cond, ◌&&◌, ◌||◌, ◌≡◌, ◌≤◌, eqb, ltb, leb}
use mathlib.Core.Path.{refl, subst}
use mathlib.Core.Bool.{false≢true, and-false}
use native.Mathlib.Omega.{arith}
use Rattle.std.proofs.lemmas.Bool.{leb-true, ltb-true}
use Rattle.emath.specs.declared.Pos2.{Pos2}
use Rattle.layers.specs.declared.LayerId.{LayerId}
use Rattle.layer_rows.specs.Rows.{held_rows}
use Rattle.layer_queries.specs.Queries.{compared, rank_in}
use Rattle.area_stack.specs.Stack.{layer_id_at as areasLayerIdAt}
use Rattle.areas.specs.Areas.{tables_of}
use Rattle.focus_rules.specs.Rules.{layer_or_nothing}
use Rattle.memory_rules.specs.declared.Memory.{Memory}
use Rattle.memory_rules.specs.State.{areas_of, nav_of}
use Rattle.memory_rules.specs.Memory.{is_below, is_above, unless_below, layer_id_at}
use Rattle.confirm_box.specs.Modal.{is_under, in_force}
use Rattle.confirm_box.proofs.Egui.{both}
use Rattle.confirm_box.proofs.Modal.{not_below_lower}

compared_same : (x : ℕ) → eqb (compared x x) 0 ≡ false
compared_same x = go (ltb x x) refl
  where
    go : (b : Bool) → ltb x x ≡ b → eqb (cond b 0 (cond b 2 1)) 0 ≡ false
    go true e = absurd (let h = ltb-true x x e in omega arith)
    go false e = refl

module _ (m : Memory) where
  abbrev modal : LayerId
  modal = (nav_of m).top_modal_layer

  same_below : (l : LayerId) → is_below m l l ≡ false
  same_below l = go (eqb l.order l.order)
    where
      rank : ℕ
      rank = rank_in (held_rows (areas_of m).placed (areas_of m).rows) l

      go : (b : Bool) → eqb (cond b (compared rank rank) (compared l.order l.order)) 0 ≡ false
      go true = compared_same rank
      go false = compared_same l.order

  above_not_under : (l : LayerId) → is_above m l ≡ true → is_under m l ≡ false
  unfolding is_above
  above_not_under l h = go (eqb modal.id 0) (is_below m l modal) h
    where
      go : (a b : Bool) → (a || not b) ≡ true → (not a && b) ≡ false
      go true b h = refl
      go false true h = absurd (false≢true h)
      go false false h = refl

  unless : (o : Option LayerId) (layer : LayerId) → unless_below m o ≡ Some layer → is_under m layer ≡ false
  unless None layer h = cc
  unless (Some l) layer h = go (is_above m l) refl h
    where
      modal_or : (b : Bool) → cond b None (Some modal) ≡ Some layer → is_under m layer ≡ false
      modal_or true e = cc
      modal_or false e =
          let same : modal ≡ layer = cc in
          subst (λ (k : LayerId). is_under m k ≡ false) same (rw (same_below modal) (and-false _))

      go : (b : Bool) → is_above m l ≡ b → cond b (Some l) (layer_or_nothing modal) ≡ Some layer
          → is_under m layer ≡ false
      go true e k =
          let same : l ≡ layer = cc in
          subst (λ (k : LayerId). is_under m k ≡ false) same (above_not_under l e)
      go false e k = modal_or (eqb modal.id 0) k

pub hit_not_under : (m : Memory) (pos : Pos2) (layer : LayerId) → layer_id_at m pos ≡ Some layer → is_under m layer ≡ false
unfolding layer_id_at
hit_not_under m pos layer h = unless m (areasLayerIdAt (tables_of (areas_of m)) pos) layer h

-- so while a modal layer of this Order or a higher one is in force it is none of a lower Order
pub hit_not_lower : (order : ℕ) (m : Memory) → in_force order m ≡ true → (pos : Pos2) (layer : LayerId) → layer_id_at m pos ≡ Some layer → order ≤ layer.order
hit_not_lower order m f pos layer h =
    let (held, reached) = both (not (eqb (modal m).id 0)) (leb order (modal m).order) f in
    let below : is_below m layer (modal m) ≡ false = rw held at (hit_not_under m pos layer h) in
    omega (arith, leb-true order (modal m).order reached, not_below_lower m layer (modal m) below)
