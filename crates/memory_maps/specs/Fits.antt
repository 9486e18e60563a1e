-- The records that the theorems start from: those whose counts fit their tables, and those that
-- hold nothing. Definitions only.
use Rattle.std.specs.Prelude.{◌≡◌, ℕ, false}
use Rattle.area_maps.specs.Fits as Areas
use Rattle.focus_cache.specs.Cache.{room_in}
use Rattle.used.specs.Used.{ids_of, repeated}
use Rattle.focus.specs.declared.Focus.{Focus}
use Rattle.focus.specs.Focus.{held_of}
use Rattle.memory_rules.specs.declared.Memory.{Memory}
use Rattle.memory_rules.specs.State.{areas_of, focus_of}

abbrev pub cache_room : Focus → ℕ
cache_room f = room_in f.ids f.rects

-- the tables have room for so many layers and so many cached ids
abbrev pub HasRoom : ℕ → ℕ → Memory → Type 0
HasRoom layers cached m = Areas.HasRoom layers (areas_of m) × (cache_room (focus_of m) ≡ cached)

-- the cache has such room, and no id stands in it twice
pub record CacheFits (cached : ℕ) (f : Focus) : Type 0 where
  pub room : cache_room f ≡ cached
  pub distinct : repeated (ids_of (held_of f)) ≡ false

-- a record whose counts fit its tables
abbrev pub Fits : ℕ → ℕ → Memory → Type 0
Fits layers cached m = Areas.Fits layers (areas_of m) × CacheFits cached (focus_of m)

-- a record that holds no layer, no state and no cached id, whatever stands in its tables
abbrev pub Blank : Memory → Type 0
Blank m = Areas.Blank (areas_of m) × ((focus_of m).count ≡ 0)
