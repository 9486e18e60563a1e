-- A record that holds nothing fits its tables, and means no layers, no states and no cached ids; a
-- new one is such, and means egui's new one. Assumes nothing.
use Rattle.std.specs.Prelude.{◌≡◌, ℕ, false, []}
use mathlib.Core.Path.{refl}
use Rattle.refusal.specs.Limits.{layers, cached}
use Rattle.areas.specs.Areas.{new_areas}
use Rattle.area_maps.specs.Egui as EguiAreas
use Rattle.area_maps.proofs.Blanks as Areas
use Rattle.focus_cache.specs.Cache.{held_in}
use Rattle.used.specs.Used.{ids_of, repeated}
use Rattle.focus.specs.Focus.{new_focus, held_of}
use Rattle.focus_maps.specs.Egui as EguiFocus
use Rattle.focus_maps.specs.Calls as FocusCalls
use Rattle.focus_maps.proofs.Holds as FocusHolds
use Rattle.memory_rules.specs.declared.Memory.{Memory}
use Rattle.memory_rules.specs.State.{areas_of, focus_of, new_memory}
use Rattle.memory_maps.specs.Egui as Egui
use Rattle.memory_maps.specs.Calls.{meaning_of}
use Rattle.memory_maps.specs.Fits.{HasRoom, Fits, Blank}

module _ (m : Memory) (blank : Blank m) where
  pub none_cached : held_of (focus_of m) ≡ []
  unfolding held_in
  none_cached = rw blank.1 refl

  none_twice : repeated (ids_of (held_of (focus_of m))) ≡ false
  unfolding repeated
  none_twice = rw none_cached refl

  pub blank_fits : (rows ids : ℕ) → HasRoom rows ids m → Fits rows ids m
  blank_fits rows ids room = (
    Areas.blank_fits (areas_of m) blank.0 rows room.0,
    record { room = room.1; distinct = none_twice },
  )

  pub no_areas : (meaning_of m).areas ≡ EguiAreas.empty
  no_areas = Areas.blank_means (areas_of m) blank.0

-- ---- a new record; of its parts their theorems speak
pub new_blank : Blank new_memory
unfolding new_memory new_focus
new_blank = (Areas.new_blank, refl)

new_room : HasRoom layers cached new_memory
unfolding new_memory FocusCalls.record_after
new_room = (Areas.new_fits.room, (FocusHolds.holds []).0)

pub new_fits : Fits layers cached new_memory
new_fits = blank_fits new_memory new_blank layers cached new_room

pub new_means : meaning_of new_memory ≡ Egui.empty
unfolding new_memory Egui.empty FocusCalls.record_after FocusCalls.egui_after
new_means =
    let areas = Areas.blank_means new_areas Areas.new_blank in
    let focus : FocusCalls.meaning_of new_focus ≡ EguiFocus.empty = (FocusHolds.holds []).1 in
    λ i. Egui.with_focus (Egui.with_areas Egui.empty (areas i)) (focus i)
