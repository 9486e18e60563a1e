-- The record by value after a list of calls. Definitions only.
use Rattle.std.specs.Prelude.{[], ◌∷◌}
use Rattle.widget_rects.specs.declared.WidgetRects.{WidgetRects}
use Rattle.widget_rects.specs.WidgetRects.{new_rects, inserted_of, cleared_rects}
use Rattle.widget_maps.specs.Calls.{Calls, Insert, Clear}

unfoldable pub record_after : Calls → WidgetRects
record_after [] = new_rects
record_after (Insert layer widget move-to-top ∷ before) = (inserted_of (record_after before) layer widget move-to-top).widgets
record_after (Clear ∷ before) = cleared_rects (record_after before)
