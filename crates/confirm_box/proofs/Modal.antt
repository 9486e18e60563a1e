-- What is under the modal layer in force is turned away, and a box whose layer is set in every pass keeps a layer of its Order or a higher one in force. Assumes nothing.
use Rattle.std.specs.Prelude.{ℕ, zero, suc, Bool, true, false, cond, not, ◌≡◌, ◌≤◌, ◌<◌, eqb, ltb}
use mathlib.Core.Path.{refl, sym, ◌∙◌}
use mathlib.Core.Bool.{true≢false, false≢true}
use native.Mathlib.Omega.{arith}
use borrow.Author.Tests.{not-true, eqb-true, ltb-true, ltb-false, lt-ltb, ne_eqb}
use Rattle.refusal.specs.Refusal.{none, lowest, id_refusal, kept}
use Rattle.layers.specs.declared.LayerId.{LayerId}
use Rattle.layers.specs.Layers.{layer_refusal}
use Rattle.layer_rows.specs.Rows.{held_rows}
use Rattle.layer_queries.specs.Queries.{compared, rank_in}
use Rattle.memory_rules.specs.declared.Memory.{Memory}
use Rattle.memory_rules.specs.State.{areas_of, nav_of}
use Rattle.memory_rules.specs.Memory.{is_below, is_above, is_allowed, interested_of}
use Rattle.memory_rules.specs.Calls.{Interest, done_by}
use Rattle.confirm_box.specs.Modal.{is_under}
use Rattle.confirm_box.proofs.Egui.{both}

-- ---- what is under it is not allowed
pub under_away : (m : Memory) (layer : LayerId) → is_under m layer ≡ true → is_allowed m layer ≡ false
unfolding is_allowed is_above
under_away m layer h = let (a, b) = both (not (eqb (nav_of m).top_modal_layer.id 0)) (is_below m layer (nav_of m).top_modal_layer) h in rw (not-true (eqb (nav_of m).top_modal_layer.id 0) a, b)

away_stays : (m : Memory) (id : ℕ) (layer : LayerId) → is_allowed m layer ≡ false → (done_by (Interest id layer) m).memory ≡ m
unfolding done_by interested_of
away_stays m id layer h = rw h (go (lowest (lowest (id_refusal id) (layer_refusal layer)) none))
  where
    go : (r : ℕ) → kept r m m ≡ m
    go zero = refl
    go (suc r) = refl

-- ---- Orders and places
module _ (m : Memory) (layer modal : LayerId) where
  pub lower_below : layer.order < modal.order → is_below m layer modal ≡ true
  lower_below h = rw (ne_eqb layer.order modal.order (λ e. omega arith), lt-ltb layer.order modal.order h)

  pub below_lower : is_below m layer modal ≡ true → layer.order ≤ modal.order
  below_lower h = go (eqb layer.order modal.order) (ltb layer.order modal.order) refl refl h
    where
      ranks : ℕ
      ranks = compared (rank_in (held_rows (areas_of m).placed (areas_of m).rows) layer) (rank_in (held_rows (areas_of m).placed (areas_of m).rows) modal)

      more : (b : Bool) → eqb (cond b 2 1) 0 ≡ false
      more true = refl
      more false = refl

      go : (b c : Bool) → eqb layer.order modal.order ≡ b → ltb layer.order modal.order ≡ c → eqb (cond b ranks (cond c 0 (cond (ltb modal.order layer.order) 2 1))) 0 ≡ true → layer.order ≤ modal.order
      go true c e f k = omega (arith, eqb-true layer.order modal.order e)
      go false true e f k = omega (arith, ltb-true layer.order modal.order f)
      go false false e f k = absurd (false≢true (sym (more (ltb modal.order layer.order)) ∙ k))

  pub not_below_lower : is_below m layer modal ≡ false → modal.order ≤ layer.order
  not_below_lower h = go (ltb layer.order modal.order) refl
    where
      go : (b : Bool) → ltb layer.order modal.order ≡ b → modal.order ≤ layer.order
      go true e = absurd (true≢false (sym (lower_below (ltb-true layer.order modal.order e)) ∙ h))
      go false e = ltb-false layer.order modal.order e

pub under_stays : (m : Memory) (id : ℕ) (layer : LayerId) → is_under m layer ≡ true → (is_allowed m layer ≡ false) × ((done_by (Interest id layer) m).memory ≡ m)
under_stays m id layer h = let away = under_away m layer h in (away, away_stays m id layer away)
