-- A table holds what egui's maps and lists hold: then they say and refuse the same, and after a call they hold the same again. Assumes nothing.
use mathlib.Core.Path.{◌≡◌, refl, sym, ap, ◌∙◌}
use Prim.Native.Nat.{ℕ, zero, suc, ◌+◌, ◌<◌, ◌≤◌}
use native.Mathlib.Numerals.{add-one}
use native.Mathlib.Omega.{arith}
use mathlib.Core.Bool.{Bool, true, false, cond}
use mathlib.Core.List.{[], ◌∷◌}
use lib.Dec.{ltb}
use borrow.Author.Tests.{ltb-true}
use Rattle.refusal.specs.Refusal.{lowest}
use Rattle.refusal.proofs.Laws.{both_none}
use Rattle.layers.specs.declared.LayerId.{LayerId}
use Rattle.layers.specs.Layers.{is_layer}
use Rattle.std.specs.Prelude.{Option, None, Some}
use Rattle.widget_rect.specs.declared.WidgetRect.{WidgetRect}
use Rattle.widget_rect.specs.WidgetRect.{joined_of, insert_refusal}
use Rattle.widget_rows.specs.Rows.{Rows, Table, room_of, held_in, held_of, found_in, entry_at, entry_of, list_of, record_at}
use Rattle.widget_table.specs.Table.{refusal_of, joined_at, full_refusal, unless_refused, insert_at, insert_of, seen_at, clear_of}
use Rattle.widget_maps.specs.Egui.{WidgetRects, inserted_by, inserted, full_refusal as eguiFull, refusal, cleared}
use Rattle.widget_maps.specs.Calls.{Calls, Insert, Clear, table, egui, unless_refused as eguiUnless, egui_after}
use Rattle.widget_maps.proofs.Row.{row_of, rows_to}
use Rattle.widget_maps.proofs.Meaning.{entry_rows, Means, Sound}
use Rattle.widget_maps.proofs.Laws.{same_layers_lem}
use Rattle.widget_maps.proofs.Pushed.{empty, pushed}
use Rattle.widget_maps.proofs.Vacant.{new_vacant, known_vacant}
use Rattle.widget_maps.proofs.Listing.{rows_length, list_rows_lem}
use Rattle.widget_maps.proofs.Rowwise.{Fits, Alike, room_fits, same_room, pushed_rows, pushed_alike}
use Rattle.widget_maps.proofs.Led.{Led, found_at, entry_rows_lem, led_to}
use Rattle.widget_maps.proofs.Updated.{updated}

-- ---- a table and the maps and lists say the same of every id and every layer, and refuse the same
abbrev Agrees : ℕ → Table → WidgetRects → Type 0
Agrees limit t m =
    ((id : ℕ) → entry_of t id ≡ m.by_id id)
    × ((layer : LayerId) → list_of t layer ≡ m.by_layer layer)
    × ((layer : LayerId) (widget : WidgetRect) → refusal_of t layer widget ≡ refusal limit m layer widget)

-- where nothing is refused, the test has passed
passed : (b : Bool) (n : ℕ) → cond b zero (suc n) ≡ zero → b ≡ true
passed true n e = refl
passed false n e = absurd (omega arith)

pub record Holds (limit : ℕ) (t : Table) (m : WidgetRects) : Type 0 where
  pub room : room_of t.rows ≡ limit
  pub few : t.count ≤ limit
  pub led : Led t.cells m.by_id
  pub sound : Sound (rows_to t.rows t.count)
  pub means : Means (rows_to t.rows t.count) m

module _ (limit : ℕ) (t : Table) (m : WidgetRects) (h : Holds limit t m) where
  all_held : held_of t ≡ t.count
  unfolding held_in
  all_held = omega arith

  fits : Fits t.rows t.count
  fits = room_fits (omega arith)

  entries : (id : ℕ) → entry_of t id ≡ m.by_id id
  unfolding entry_of found_in Means
  entries id = rw all_held (entry_rows_lem t.rows t.count fits.ids t.cells id (λ x e. h.means.0 x ∙ h.led x e) h.sound ∙ h.means.0 id)

  lists : (layer : LayerId) → list_of t layer ≡ m.by_layer layer
  unfolding list_of Means
  lists layer = rw all_held (list_rows_lem t.rows layer t.count ∙ h.means.1 layer)

  full_same : (f : Option ℕ) (n : ℕ) → full_refusal f n limit ≡ eguiFull limit n (entry_at t.rows f)
  full_same (Some k) n = refl
  full_same None n = refl

  refusals : (layer : LayerId) (widget : WidgetRect) → refusal_of t layer widget ≡ refusal limit m layer widget
  unfolding refusal_of refusal entry_of Means
  refusals layer w =
      let n : t.count ≡ m.len = sym (rows_length t.rows t.count) ∙ h.means.2 in
      ap (lowest (insert_refusal w layer)) (rw (all_held, h.room) (full_same (found_in t w.id) t.count ∙ (λ i. eguiFull limit (n i) (entries w.id i))))

  pub agrees : Agrees limit t m
  agrees = (entries, lists, refusals)

  -- ---- a call that is not refused: the widget's record is of the call's layer
  module _ (layer : LayerId) (new : WidgetRect) (e : refusal_of t layer new ≡ 0) where
    same_layer : layer ≡ new.layer_id
    unfolding refusal_of insert_refusal
    same_layer = same_layers_lem layer new.layer_id (passed (is_layer layer new.layer_id) 6 (both_none _ _ (both_none _ _ (both_none _ _ e).0).1).1)

    -- room for a new id
    room_left : found_in t new.id ≡ None → t.count < limit
    unfolding refusal_of
    room_left p = ltb-true t.count limit (passed (ltb t.count limit) 5 (rw (p, all_held, h.room) at (both_none _ _ e).1))

  -- ---- an insert
  module _ (big : limit < 18446744073709551615) (layer : LayerId) (new : WidgetRect) where
    -- rows t' are held, and the cell of the id's home leads to one of them
    seen : (t' : Rows) (n k : ℕ) (m' : WidgetRects) → Alike t' t.rows → n ≤ limit → ((x : ℕ) → (new.id ≡ x → ⊥) → m.by_id x ≡ None → m'.by_id x ≡ None)
        → Sound (rows_to t' n) × Means (rows_to t' n) m' → Holds limit (seen_at t.cells t' n new.id k) m'
    seen t' n k m' a l v p = record { room = same_room a ∙ h.room; few = l; led = led_to t.cells new.id k m.by_id m'.by_id v h.led; sound = p.0; means = p.1 }

    module _ (e : refusal_of t layer new ≡ 0) (top : Bool) where
      abbrev Step : Option ℕ → Option (ℕ × WidgetRect) → Type 0
      Step f entry = Holds limit (insert_at t new top t.count f) (inserted_by m layer new top entry)

      step : (f : Option ℕ) → found_in t new.id ≡ f → Step f (entry_at t.rows f)
      unfolding found_in row_of record_at joined_at joined_of entry_of Means
      step (Some k) p =
          let (l, q) = found_at t.rows t.count fits.ids t.cells new.id k (rw all_held at p) in
          let u = updated t.rows t.count k l fits (joined_at t.rows k new) (record { id = refl; parent = refl; layer = refl }) m layer new h.sound h.means (sym q) (same_layer layer new e) (omega arith) top in
          seen _ t.count _ _ u.0 h.few (λ x d v. known_vacant m layer new x d v top _ _) u.1
      step None p =
          let l = room_left layer new e p in
          let f : Fits t.rows (suc t.count) = room_fits (omega arith) in
          let v : entry_rows (rows_to t.rows t.count) new.id ≡ None = h.means.0 new.id ∙ sym (entries new.id) ∙ ap (entry_at t.rows) p in
          let r = rows_length t.rows t.count in
          seen _ (t.count + 1) _ _ (pushed_alike t.rows t.count new f) (omega arith) (new_vacant m layer new)
          (rw (add-one, pushed_rows t.rows t.count new f) (pushed (rows_to t.rows t.count) m layer new h.sound h.means v (same_layer layer new e) (omega arith)))

    insert_step : (top : Bool) → Holds limit (insert_of t layer new top) (egui_after limit (Insert layer new top) m)
    unfolding insert_of inserted entry_of
    insert_step top = rw (← refusals layer new) (go (refusal_of t layer new) (λ e. rw (all_held, ← entries new.id) (step e top (found_in t new.id) refl)))
      where
        go : (r : ℕ) → (r ≡ 0 → Holds limit (insert_at t new top (held_of t) (found_in t new.id)) (inserted m layer new top)) → Holds limit (unless_refused r t (insert_at t new top (held_of t) (found_in t new.id))) (eguiUnless r m (inserted m layer new top))
        go zero f = f refl
        go (suc r) f = h

-- ---- no rows, and any calls
no_rows : (limit : ℕ) (t : Table) → t.count ≡ 0 → room_of t.rows ≡ limit → Holds limit t cleared
unfolding rows_to cleared
no_rows limit t n e = record { room = e; few = omega arith; led = λ id p. refl; sound = rw n empty.0; means = rw n empty.1 }

module _ (start : Table) (none : start.count ≡ 0) (big : room_of start.rows < 18446744073709551615) where
  abbrev limit : ℕ
  limit = room_of start.rows

  holds : (calls : Calls) → Holds limit (table start calls) (egui limit calls)
  unfolding table egui clear_of
  holds [] = no_rows limit start none refl
  holds (Insert layer new top ∷ before) = insert_step limit (table start before) (egui limit before) (holds before) big layer new top
  holds (Clear ∷ before) = no_rows limit (clear_of (table start before)) refl (holds before).room

  pub theorem : (calls : Calls) → Agrees limit (table start calls) (egui limit calls)
  theorem calls = agrees limit (table start calls) (egui limit calls) (holds calls)
