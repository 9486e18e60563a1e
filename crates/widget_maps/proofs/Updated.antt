-- What an insert of a known widget does to the table means what egui does. Assumes nothing.
use mathlib.Core.Path.{◌≡◌, refl, sym, ap, ◌∙◌}
use Prim.Native.Nat.{ℕ, suc, ◌-◌, ◌<◌}
use native.Mathlib.Omega.{arith}
use mathlib.Core.Bool.{Bool, true, false, cond}
use mathlib.Core.List.{List, ◌∷◌, ◌++◌}
use lib.ListN.{take, drop, set}
use lib.Seq.{set-set}
use Rattle.layers.specs.declared.LayerId.{LayerId}
use Rattle.layers.specs.Layers.{is_layer}
use Rattle.widget_rect.specs.declared.WidgetRect.{WidgetRect}
use Rattle.widget_rows.specs.Rows.{Rows, record_at}
use Rattle.widget_table.specs.Table.{put_half, push_of, remove_of, update_of}
use Rattle.widget_maps.specs.Egui.{WidgetRects, known_widget}
use Rattle.widget_maps.proofs.Row.{Row, row_of, rows_to, with_held, with_listed}
use Rattle.widget_maps.proofs.Meaning.{Means, Sound}
use Rattle.widget_maps.proofs.Pushed.{pushed_on}
use Rattle.widget_maps.proofs.Moved.{without}
use Rattle.widget_maps.proofs.AtRow.{joined_only_at, put_in_place_at, moved_at}
use Rattle.widget_maps.proofs.Listing.{rows_length, rows_split}
use Rattle.widget_maps.proofs.Alone.{Same, itself}
use Rattle.widget_maps.proofs.Rowwise.{Fits, Alike, alike_fits, alike_via, half_row, half_rows, half_alike, pushed_rows, pushed_alike}
use Rattle.widget_maps.proofs.Removed.{removed_rows, removed_alike}

-- row k of the first n, and another record of its widget
module _ (t : Rows) (n k : ℕ) (h : k < n) (f : Fits t n) (w : WidgetRect) (e : Same (record_at t k 0) w) where
  abbrev rows : List Row
  rows = rows_to t n

  abbrev r : Row
  r = row_of t k

  -- ---- in both halves
  abbrev half : Rows
  half = put_half t k 0 w

  half_fits : Fits half n
  half_fits = alike_fits (half_alike t n k h f 0 w (omega arith)) f

  again : Same (record_at half k 0) w
  unfolding row_of
  again =
      let p : record_at half k 0 ≡ w = ap (λ (r : Row). r.held) (half_row t n k h f 0 w (omega arith) e) in
      rw p (itself w)

  both_rows : rows_to (put_half half k 1 w) n ≡ set rows k (with_listed (with_held r w) w)
  both_rows = half_rows half n k h half_fits 1 w (omega arith) again ∙ rw (half_rows t n k h f 0 w (omega arith) e, half_row t n k h f 0 w (omega arith) e) (set-set rows k (with_held r w) (with_listed (with_held r w) w))

  -- ---- taken out and put after the others
  abbrev out : Rows
  out = remove_of t n k w.layer_id

  last : suc (n - 1) ≡ n
  last = omega arith

  out_fits : Fits out (suc (n - 1))
  out_fits = rw last (alike_fits (removed_alike w.layer_id t n k h f) f)

  top_rows : rows_to (push_of out (n - 1) w) n ≡ pushed_on (without w.layer_id (take k rows) (drop (suc k) rows)) w
  top_rows = ap (rows_to (push_of out (n - 1) w)) (sym last) ∙ pushed_rows out (n - 1) w out_fits ∙ rw (removed_rows w.layer_id t n k h f)

  module _ (m : WidgetRects) (layer : LayerId) (new : WidgetRect) (s : Sound rows) (means : Means rows m) (new-id : new.id ≡ r.held.id) (new-layer : layer ≡ new.layer_id) (room : n < 18446744073709551615) where
    abbrev pub Known : Bool → Rows → Type 0
    Known top t' = Alike t' t × (Sound (rows_to t' n) × Means (rows_to t' n) (known_widget m layer new top r.index w))

    pub updated : (top : Bool) → Known top (update_of t n k w new top)
    unfolding row_of
    updated top = go (is_layer w.layer_id new.layer_id) refl top
      where
        law : rows ≡ take k rows ++ r ∷ drop (suc k) rows
        law = rows_split t n k h

        go : (b : Bool) → is_layer w.layer_id new.layer_id ≡ b → (top : Bool) → Known top (cond b (cond top (push_of out (n - 1) w) (put_half half k 1 w)) half)
        go true b true = (
          alike_via (pushed_alike out (n - 1) w out_fits) (removed_alike w.layer_id t n k h f),
          rw top_rows (moved_at rows m layer w new k r law s means (sym e.id) (sym e.layer) new-id new-layer b (rw (rows_length t n) room)),
        )
        go true b false = (
          alike_via (half_alike half n k h half_fits 1 w (omega arith)) (half_alike t n k h f 0 w (omega arith)),
          rw both_rows (put_in_place_at rows m layer w new k r law s means (sym e.id) (sym e.layer) new-id new-layer b),
        )
        go false b top = (
          half_alike t n k h f 0 w (omega arith),
          rw (half_rows t n k h f 0 w (omega arith) e) (joined_only_at rows m layer w new k r law s means (sym e.id) (sym e.layer) new-id new-layer top b),
        )
