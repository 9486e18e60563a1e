-- Laws of rows with a layer's row changed, in egui's terms: what is held of each layer, the list, and the places. Assumes nothing.
use mathlib.Core.Path.{◌≡◌, refl, sym, ap, ◌∙◌}
use mathlib.Core.Bool.{Bool, true, false, true≢false, cond, ◌||◌}
use mathlib.Core.List.{List, [], ◌∷◌, ◌++◌}
use Prim.Native.Nat.{ℕ, ◌≤◌}
use native.Mathlib.Omega.{arith}
use lib.ListN.{length, take, length-append}
use lib.Seq.{take-append-le}
use Rattle.layers.specs.declared.LayerId.{LayerId}
use Rattle.layers.specs.Layers.{is_layer}
use Rattle.stacking.specs.Lists.{some}
use Rattle.stacking.specs.Stacking.{holds}
use Rattle.stacking.proofs.Layers.{same_layers_lem, layer_itself}
use Rattle.layer_rows.specs.declared.Row.{Row}
use Rattle.layer_rows.specs.Rows.{new_row, row_of, marked}
use Rattle.layer_rows.proofs.Marks.{row_none, row_cons}
use Rattle.area_maps.specs.Egui.{pushed}
use Rattle.area_maps.specs.Meaning.{layers_in}

not_both : (a b c : LayerId) → is_layer a c ≡ true → is_layer b c ≡ true → is_layer a b ≡ false → ⊥
not_both a b c p q n = true≢false (sym (rw (same_layers_lem a c p, same_layers_lem b c q) (layer_itself c)) ∙ n)

-- ---- a change that keeps the layer
module _ (f : Row → Row) (keeps : (r : Row) → (f r).layer ≡ r.layer) (l : LayerId) where
  pub row_marked : (rows : List Row) (x : LayerId) → row_of (marked f rows l) x ≡ cond (is_layer l x) (f (row_of rows l)) (row_of rows x)
  unfolding marked
  row_marked [] x = row_cons (f (new_row l)) [] x ∙ ap (λ (k : LayerId). cond (is_layer k x) (f (new_row l)) (row_of [] x)) (keeps (new_row l)) ∙ rw (row_none l)
  row_marked (r ∷ rows) x = go (is_layer r.layer l) refl (row_marked rows x)
    where
      first : (b : Bool) → cond b (f r) (row_of rows x) ≡ cond b (f r) (cond b r (row_of rows x))
      first true = refl
      first false = refl

      later : (a b : Bool) → is_layer r.layer x ≡ a → is_layer l x ≡ b → is_layer r.layer l ≡ false → cond a r (cond b (f (row_of rows l)) (row_of rows x)) ≡ cond b (f (row_of rows l)) (cond a r (row_of rows x))
      later true true p q e = absurd (not_both r.layer l x p q e)
      later true false p q e = refl
      later false b p q e = refl

      go : (t : Bool) → is_layer r.layer l ≡ t → row_of (marked f rows l) x ≡ cond (is_layer l x) (f (row_of rows l)) (row_of rows x) → row_of (cond t (f r ∷ rows) (r ∷ marked f rows l)) x ≡ cond (is_layer l x) (f (row_of (r ∷ rows) l)) (row_of (r ∷ rows) x)
      go true e rest =
          let q = same_layers_lem r.layer l e in
          let own : row_of (r ∷ rows) l ≡ r = row_cons r rows l ∙ rw e in
          let other : row_of (r ∷ rows) x ≡ cond (is_layer l x) r (row_of rows x) = row_cons r rows x ∙ ap (λ (k : LayerId). cond (is_layer k x) r (row_of rows x)) q in
          row_cons (f r) rows x ∙ ap (λ (k : LayerId). cond (is_layer k x) (f r) (row_of rows x)) (keeps r ∙ q) ∙ first (is_layer l x)
          ∙ sym (ap (λ (y : Row). cond (is_layer l x) (f y) (row_of (r ∷ rows) x)) own ∙ ap (λ (y : Row). cond (is_layer l x) (f r) y) other)
      go false e rest = rw (row_cons r (marked f rows l) x, row_cons r rows l, row_cons r rows x, e, rest) (later (is_layer r.layer x) (is_layer l x) refl refl e)

  -- a field that the change leaves, and a flag that it sets
  pub field_same : {A : Type 0} (g : Row → A) → ((r : Row) → g (f r) ≡ g r) → (rows : List Row) (x : LayerId) → g (row_of (marked f rows l) x) ≡ g (row_of rows x)
  field_same g h rows x = ap g (row_marked rows x) ∙ go (is_layer l x) refl
    where
      go : (t : Bool) → is_layer l x ≡ t → g (cond t (f (row_of rows l)) (row_of rows x)) ≡ g (row_of rows x)
      go true e = h (row_of rows l) ∙ ap (λ (k : LayerId). g (row_of rows k)) (same_layers_lem l x e)
      go false e = refl

  pub flag_set : (g : Row → Bool) → ((r : Row) → g (f r) ≡ true) → (rows : List Row) (x : LayerId) → g (row_of (marked f rows l) x) ≡ is_layer l x || g (row_of rows x)
  flag_set g h rows x = ap g (row_marked rows x) ∙ go (is_layer l x)
    where
      go : (t : Bool) → g (cond t (f (row_of rows l)) (row_of rows x)) ≡ t || g (row_of rows x)
      go true = h (row_of rows l)
      go false = refl

  pub layers_marked : (rows : List Row) → layers_in (marked f rows l) ≡ pushed (layers_in rows) l
  unfolding marked holds some
  layers_marked [] = rw (keeps (new_row l))
  layers_marked (r ∷ rows) = go (is_layer r.layer l) (holds (layers_in rows) l) refl (layers_marked rows)
    where
      go : (t b : Bool) → holds (layers_in rows) l ≡ b → layers_in (marked f rows l) ≡ cond (holds (layers_in rows) l) (layers_in rows) (layers_in rows ++ (l ∷ []))
          → layers_in (cond t (f r ∷ rows) (r ∷ marked f rows l)) ≡ cond (t || b) (layers_in (r ∷ rows)) (layers_in (r ∷ rows) ++ (l ∷ []))
      go true b e rest = rw (keeps r)
      go false true e rest = ap (λ (t : List LayerId). r.layer ∷ t) (rw e at rest)
      go false false e rest = ap (λ (t : List LayerId). r.layer ∷ t) (rw e at rest)

-- ---- the list and its places, which a push does not change
pub pushed_take : (n : ℕ) (order : List LayerId) (l : LayerId) → n ≤ length order → take n (pushed order l) ≡ take n order
pushed_take n order l h = go (holds order l)
  where
    go : (t : Bool) → take n (cond t order (order ++ (l ∷ []))) ≡ take n order
    go true = refl
    go false = take-append-le n order (l ∷ []) h

pub pushed_length : (order : List LayerId) (l : LayerId) → length order ≤ length (pushed order l)
pushed_length order l = go (holds order l)
  where
    go : (t : Bool) → length order ≤ length (cond t order (order ++ (l ∷ [])))
    go true = omega arith
    go false = simp length-append (omega arith)
