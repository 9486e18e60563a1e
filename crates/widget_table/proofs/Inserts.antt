-- Laws of the changes of rows, and of `insert`, from what their calls gave. Assumes nothing.
use mathlib.Core.Path.{◌≡◌, refl, sym, ◌∙◌}
use mathlib.Core.Bool.{Bool, true, false, cond}
use mathlib.Core.List.{List, append_assoc}
use Prim.Native.Nat.{ℕ, ◌+◌, ◌-◌, ◌*◌, ◌<◌, ◌≤◌}
use native.Mathlib.Omega.{arith}
use lib.Dec.{ltb}
use lib.Ieee.{Float}
use lib.ListN.{take, drop}
use lib.Seq.{drop-drop}
use borrow.Author.Tests.{ltb-true}
use borrow.Rule.Slice.PartMut.{put_mid}
use Rattle.layers.specs.declared.LayerId.{LayerId}
use Rattle.layers.specs.Layers.{is_layer}
use Rattle.refusal.specs.Refusal.{lowest}
use Rattle.refusal.proofs.Laws.{both_none}
use Rattle.std.specs.Prelude.{Option, None}
use Rattle.tables.specs.Tables.{closed, on_part}
use Rattle.widget_rect.specs.declared.WidgetRect.{WidgetRect}
use Rattle.widget_rows.specs.Rows.{Rows, rows_in, renumbered}
use Rattle.widget_table.specs.Table.{full_refusal, remove_of, row_after}

-- ---- a part that a function has changed, back in its place
pub part_back : {A : Type 0} (f : List A → List A) (a b : ℕ) (xs ys : List A) → a ≤ b → ys ≡ f (take (b - a) (drop a xs)) → put_mid a (b - a) xs ys ≡ on_part f a b xs
unfolding on_part
part_back f a b xs ys l e =
    let p : a + (b - a) ≡ b = omega arith in
    rw (e, drop-drop (b - a) a xs, p) (sym (append_assoc (take a xs) (f (take (b - a) (drop a xs))) (drop b xs)))

-- ---- rows without row k, and with one more
module _ (t : Rows) (n k : ℕ) (layer : LayerId) (ids words : List ℕ) (rects : List Float) where
  pub removed : k ≤ n → ids ≡ closed 1 (take (n - k) (drop k t.ids)) → words ≡ renumbered layer (closed 10 (take (10 * n - 10 * k) (drop (10 * k) t.words))) → rects ≡ closed 16 (take (16 * n - 16 * k) (drop (16 * k) t.rects))
      → rows_in (put_mid k (n - k) t.ids ids) (put_mid (10 * k) (10 * n - 10 * k) t.words words) (put_mid (16 * k) (16 * n - 16 * k) t.rects rects) ≡ remove_of t n k layer
  unfolding remove_of
  removed l i w r = rw (part_back (closed 1) k n t.ids ids l i, part_back (λ tail. renumbered layer (closed 10 tail)) (10 * k) (10 * n) t.words words (omega arith) w, part_back (closed 16) (16 * k) (16 * n) t.rects rects (omega arith) r)

-- where it then stands is a row of the first n
pub row_below : (n k row : ℕ) (w new : WidgetRect) (top : Bool) → k < n → row ≡ row_after n k w new top → row < n
unfolding row_after
row_below n k row w new top l e = rw e (go (is_layer w.layer_id new.layer_id) top)
  where
    go : (b top : Bool) → cond b (cond top (n - 1) k) k < n
    go true true = omega arith
    go true false = l
    go false top = l

-- ---- a new widget that is not refused has room
pub room_left : (i u r n room : ℕ) (f : Option ℕ) → u ≡ full_refusal f n room → r ≡ lowest i u → r ≡ 0 → f ≡ None → n < room
room_left i u r n room f ue e ok a = below (ltb n room) refl
  where
    none_full : full_refusal f n room ≡ 0
    none_full = sym ue ∙ (both_none i u (sym e ∙ ok)).1

    below : (b : Bool) → ltb n room ≡ b → n < room
    below true p = ltb-true n room p
    below false p = let z : ◌≡◌ {A = ℕ} 6 0 = rw (a, p) at none_full in absurd (omega arith)
