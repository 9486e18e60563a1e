-- Memory (memory/mod.rs, lines 31 to 125) with one viewport: its parts, and the record of them that the fields and the lent tables are. Definitions only.
use Rattle.std.specs.Prelude.{ℕ, Bool, false, List, None, Result, Ok, Err}
use Rattle.refusal.specs.declared.Refusal.{Refusal}
use Rattle.refusal.specs.Refusal.{none, number_of, kept}
use Rattle.areas.specs.declared.Areas.{Areas}
use Rattle.areas.specs.Areas.{new_areas}
use Rattle.area_table.specs.Table.{Table}
use Rattle.focus_rules.specs.declared.Nav.{Nav}
use Rattle.focus_cache.specs.Cache.{Cache}
use Rattle.focus.specs.declared.Focus.{Focus}
use Rattle.focus.specs.Focus.{new_focus}
use Rattle.memory_rules.specs.declared.Popup.{Popup}
use Rattle.memory_rules.specs.declared.Memory.{Memory}
use Rattle.memory_rules.specs.declared.Fields.{Fields}

-- ---- the parts
abbrev pub areas_of : Memory → Areas
areas_of m = m.viewport.areas

abbrev pub focus_of : Memory → Focus
focus_of m = m.viewport.focus

abbrev pub nav_of : Memory → Nav
nav_of m = (focus_of m).nav

abbrev pub popup_of : Memory → Popup
popup_of m = m.viewport.popup

-- ---- one part anew
abbrev pub with_areas : Memory → Areas → Memory
with_areas m a = record { viewport = record { areas = a; focus = focus_of m; popup = popup_of m }; requested_interrupt_ime = m.requested_interrupt_ime; everything_is_visible = m.everything_is_visible }

abbrev pub with_focus : Memory → Focus → Memory
with_focus m f = record { viewport = record { areas = areas_of m; focus = f; popup = popup_of m }; requested_interrupt_ime = m.requested_interrupt_ime; everything_is_visible = m.everything_is_visible }

abbrev pub with_popup : Memory → Popup → Memory
with_popup m p = record { viewport = record { areas = areas_of m; focus = focus_of m; popup = p }; requested_interrupt_ime = m.requested_interrupt_ime; everything_is_visible = m.everything_is_visible }

abbrev pub with_ime : Memory → Bool → Memory
with_ime m ime = record { viewport = m.viewport; requested_interrupt_ime = ime; everything_is_visible = m.everything_is_visible }

abbrev pub with_everything : Memory → Bool → Memory
with_everything m all = record { viewport = m.viewport; requested_interrupt_ime = m.requested_interrupt_ime; everything_is_visible = all }

-- what a call leaves, and its refusal
pub record Done : Type 0 where
  pub memory : Memory
  pub refusal : ℕ

-- where a call is refused it leaves what was there before
abbrev pub done_with : ℕ → Memory → Memory → Done
done_with refusal before after = record { memory = kept refusal before after; refusal = refusal }

-- ---- no popup; a new memory
abbrev pub no_popup : Popup
no_popup = record { id = 0; pos = None; open_this_frame = false }

unfoldable pub new_memory : Memory
new_memory = record { viewport = record { areas = new_areas; focus = new_focus; popup = no_popup }; requested_interrupt_ime = false; everything_is_visible = false }

-- ---- the record that the fields and the lent tables are: the rows of the layers, the map of the states, the cache
abbrev pub areas_in : Fields → List ℕ → Table → Areas
areas_in f rows map = record { count = f.layers; placed = f.placed; states = f.states; rows = rows; ids = map.ids; codes = map.codes; floats = map.floats }

abbrev pub focus_in : Fields → Cache → Focus
focus_in f cache = record { nav = f.nav; ids = cache.ids; rects = cache.rects; count = f.cached; slot = f.slot }

abbrev pub memory_of : Fields → List ℕ → Table → Cache → Memory
memory_of f rows map cache = record { viewport = record { areas = areas_in f rows map; focus = focus_in f cache; popup = f.popup }; requested_interrupt_ime = f.requested_interrupt_ime; everything_is_visible = f.everything_is_visible }

-- what a call has left: by the memory or the fields that it answers where it is taken, and those that were there before where it is refused
abbrev pub done : Memory → Result Memory Refusal → Done
done before (Ok after) = record { memory = after; refusal = none }
done before (Err r) = record { memory = before; refusal = number_of r }

abbrev pub done_of : Fields → Result Fields Refusal → List ℕ → Table → Cache → Done
done_of before (Ok after) rows map cache = record { memory = memory_of after rows map cache; refusal = none }
done_of before (Err r) rows map cache = record { memory = memory_of before rows map cache; refusal = number_of r }

abbrev pub fields_of : Memory → Fields
fields_of m = record { nav = nav_of m; cached = (focus_of m).count; slot = (focus_of m).slot; layers = (areas_of m).count; placed = (areas_of m).placed; states = (areas_of m).states; popup = popup_of m; requested_interrupt_ime = m.requested_interrupt_ime; everything_is_visible = m.everything_is_visible }
