-- The calls that change the registry, in a list, and what they leave: of the table, and of the maps and lists of egui. Definitions only.
use Rattle.std.specs.Prelude.{ℕ, zero, suc, Bool, List, [], ◌∷◌}
use Rattle.layers.specs.declared.LayerId.{LayerId}
use Rattle.widget_rect.specs.declared.WidgetRect.{WidgetRect}
use Rattle.widget_rows.specs.Rows.{Table}
use Rattle.widget_table.specs.Table.{insert_of, clear_of}
use Rattle.widget_maps.specs.Egui.{WidgetRects, inserted, refusal, cleared}

pub data Call : Type 0 where
  Insert : LayerId → WidgetRect → Bool → Call
  Clear : Call

-- the last call stands first
abbrev pub Calls : Type 0
Calls = List Call

-- ---- the table
abbrev pub table_after : Call → Table → Table
table_after (Insert layer widget move-to-top) t = insert_of t layer widget move-to-top
table_after Clear t = clear_of t

unfoldable pub table : Table → Calls → Table
table start [] = start
table start (call ∷ before) = table_after call (table start before)

-- ---- egui, which is not asked a call that is refused
abbrev pub unless_refused : ℕ → WidgetRects → WidgetRects → WidgetRects
unless_refused zero m m' = m'
unless_refused (suc n) m m' = m

abbrev pub egui_after : ℕ → Call → WidgetRects → WidgetRects
egui_after limit (Insert layer widget move-to-top) m = unless_refused (refusal limit m layer widget) m (inserted m layer widget move-to-top)
egui_after limit Clear m = cleared

unfoldable pub egui : ℕ → Calls → WidgetRects
egui limit [] = cleared
egui limit (call ∷ before) = egui_after limit call (egui limit before)
