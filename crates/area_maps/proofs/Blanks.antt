-- A record that holds nothing fits its tables and means egui's empty Areas; a new one is such,
-- and so is what resets leave. Assumes nothing.
use Rattle.std.specs.Prelude.{◌≡◌, ℕ, min, List, []}
use mathlib.Core.Path.{refl, ap}
use native.Mathlib.Omega.{arith}
use Rattle.refusal.specs.Limits.{layers}
use Rattle.stacking.specs.Stacking.{Distinct, Orders}
use Rattle.layer_rows.specs.Rows.{held_rows, row_of, spot_in}
use Rattle.area_table.specs.Table.{Table, room_of, entries_of, entries_from, get_in}
use Rattle.area_table.specs.Table as Table
use Rattle.areas.specs.declared.Areas.{Areas}
use Rattle.areas.specs.Areas.{new_areas, stack_of, areas_in}
use Rattle.area_maps.specs.Egui.{place_in}
use Rattle.area_maps.specs.Egui as Egui
use Rattle.area_maps.specs.Meaning.{meaning, meaning_of, entries_in}
use Rattle.area_maps.specs.Fits.{HasRoom, StackFits, Fits, Blank, Empties}
use Rattle.area_maps.proofs.Pushed.{no_pairs}

-- ---- no rows and no entries
no_rows : (words : List ℕ) → held_rows 0 words ≡ []
unfolding held_rows
no_rows words = refl

no_entries : (t : Table) → entries_of t 0 ≡ []
unfolding entries_of entries_from
no_entries t = ap (λ (n : ℕ). entries_from t 0 n) none_held
  where
    none_held : min 0 (room_of t) ≡ 0
    none_held = omega arith

nothing_fits : StackFits 0 [] []
unfolding Distinct Orders Table.Distinct get_in row_of spot_in Egui.empty
nothing_fits = record {
  placed_held = omega arith;
  distinct = tt;
  orders = tt;
  pairs = no_pairs [] (λ p c. (Egui.empty).sublayers p c) (λ p x. refl);
  entries_distinct = tt;
  entries_known = λ id h. absurd (h refl);
}

nothing_means : meaning 0 [] [] ≡ Egui.empty
unfolding Egui.empty place_in row_of spot_in
nothing_means = refl

-- ---- a record that holds nothing
module _ (a : Areas) (blank : Blank a) where
  stack_none : stack_of a ≡ []
  stack_none = rw blank.layers (no_rows a.rows)

  entries_none : entries_in a ≡ []
  entries_none = rw blank.states (no_entries (areas_in a))

  pub blank_fits : (limit : ℕ) → HasRoom limit a → Fits limit a
  blank_fits limit room =
      record { room = room; stack = rw (blank.placed, stack_none, entries_none) nothing_fits }

  pub blank_means : meaning_of a ≡ Egui.empty
  blank_means = rw (blank.placed, stack_none, entries_none) nothing_means

-- ---- a new record, and resets
new_room : HasRoom layers new_areas
unfolding new_areas room_of
new_room = record { rows = refl; states = omega arith }

pub new_blank : Blank new_areas
unfolding new_areas
new_blank = record { layers = refl; placed = refl; states = refl }

pub new_fits : Fits layers new_areas
new_fits = blank_fits new_areas new_blank layers new_room

pub by_value : Empties layers (λ a. new_areas)
by_value a room = (new_room, new_blank)

pub in_place : (limit : ℕ) → Empties limit (λ a. record a { count = 0; placed = 0; states = 0 })
in_place limit a room = (
  record { rows = room.rows; states = room.states },
  record { layers = refl; placed = refl; states = refl },
)
