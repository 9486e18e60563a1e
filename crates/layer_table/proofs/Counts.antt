-- Laws of how many rows there are once a layer has one, or two layers have. Assumes nothing.
use mathlib.Core.Path.{◌≡◌, refl, sym, ap, ◌∙◌}
use mathlib.Core.Bool.{Bool, true, false, cond}
use mathlib.Core.List.{List, [], ◌∷◌}
use Prim.Native.Nat.{ℕ, suc, ◌+◌, ◌-◌, ◌/◌, min, max}
use native.Mathlib.Omega.{arith}
use lib.ListN.{length}
use Rattle.layers.specs.declared.LayerId.{LayerId}
use Rattle.layers.specs.Layers.{is_layer}
use Rattle.stacking.proofs.Layers.{same_layers_lem}
use Rattle.layer_rows.specs.declared.Row.{Row}
use Rattle.layer_rows.specs.Rows.{held_rows, new_row, spot_in, marked}
use Rattle.layer_rows.proofs.Rows.{held_length}
use Rattle.layer_rows.proofs.Marks.{mark_length}
use Rattle.layer_table.specs.Layers.{same, child_row, with_sublayer}

-- ---- two layers that are marked one after the other, by g and by f, where g keeps a row's layer
module _ (f g : Row → Row) (keeps : (r : Row) → (g r).layer ≡ r.layer) (p c : LayerId) where
  abbrev twice : List Row → List Row
  twice rows = marked f (marked g rows p) c

  -- they are one layer
  twice_one : is_layer p c ≡ true → (rows : List Row) → length (twice rows) ≡ length (marked g rows p)
  unfolding marked
  twice_one e [] = rw (keeps (new_row p), e)
  twice_one e (r ∷ rows) = go (is_layer r.layer p) (is_layer r.layer c) refl refl (twice_one e rows)
    where
      go : (s t : Bool) → is_layer r.layer p ≡ s → is_layer r.layer c ≡ t → length (twice rows) ≡ length (marked g rows p)
          → length (marked f (cond s (g r ∷ rows) (r ∷ marked g rows p)) c) ≡ length (cond s (g r ∷ rows) (r ∷ marked g rows p))
      go true t a b rest = rw (keeps r, ap (λ (l : LayerId). is_layer l c) (same_layers_lem r.layer p a) ∙ e)
      go false true a b rest = rw b
      go false false a b rest = rw b (ap suc rest)

  -- they are two
  twice_two : is_layer p c ≡ false → (rows : List Row) → length (twice rows) + length rows ≡ length (marked g rows p) + length (marked f rows c)
  unfolding marked
  twice_two e [] = rw (keeps (new_row p), e)
  twice_two e (r ∷ rows) = go (is_layer r.layer p) (is_layer r.layer c) refl (twice_two e rows)
    where
      go : (s t : Bool) → is_layer r.layer c ≡ t → length (twice rows) + length rows ≡ length (marked g rows p) + length (marked f rows c)
          → length (marked f (cond s (g r ∷ rows) (r ∷ marked g rows p)) c) + suc (length rows) ≡ length (cond s (g r ∷ rows) (r ∷ marked g rows p)) + length (cond t (f r ∷ rows) (r ∷ marked f rows c))
      go true true b rest = rw (keeps r, b)
      go true false b rest = rw (keeps r, b) (omega arith)
      go false true b rest = rw b
      go false false b rest = rw b (omega arith)

-- ---- from what the calls gave: n rows are held, k is a layer's place, and m rows there are once it has one
module _ (count : ℕ) (w : List ℕ) where
  module _ (n : ℕ) (q : n ≡ min count (length w / 8)) where
    pub marked_count : (f : Row → Row) (layer : LayerId) (k m : ℕ) → k ≡ spot_in (held_rows count w) layer → m ≡ max n (k + 1) → m ≡ length (marked f (held_rows count w) layer)
    marked_count f layer k m e h = omega (arith, mark_length f layer (held_rows count w), held_length count w)

    module _ (parent child : LayerId) (k m : ℕ) (e : k ≡ spot_in (held_rows count w) parent) (h : m ≡ max n (k + 1)) (b : Bool) (t : b ≡ is_layer parent child) where
      first : m ≡ length (marked same (held_rows count w) parent)
      first = marked_count same parent k m e h

      pub both_one : b ≡ true → m ≡ length (with_sublayer (held_rows count w) parent child)
      unfolding with_sublayer
      both_one z = first ∙ sym (twice_one (child_row parent.id) same (λ r. refl) parent child (sym t ∙ z) (held_rows count w))

      pub both_two : b ≡ false → (j s : ℕ) → j ≡ spot_in (held_rows count w) child → s ≡ max n (j + 1) → m + (s - n) ≡ length (with_sublayer (held_rows count w) parent child)
      unfolding with_sublayer
      both_two z j s d g =
          let two = twice_two (child_row parent.id) same (λ r. refl) parent child (sym t ∙ z) (held_rows count w) in
          let second = marked_count (child_row parent.id) child j s d g in
          omega (arith, two, first, second, held_length count w)
