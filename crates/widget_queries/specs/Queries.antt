-- The queries of WidgetRects of widget_rect.rs (lines 104 to 245) over the tables of crate `widget_rows`. Definitions only.
use Rattle.std.specs.Prelude.{ℕ, Bool, cond, Option, None, Some, is_some, Result, List, [], ◌∷◌}
use Rattle.refusal.specs.declared.Refusal.{Refusal}
use Rattle.refusal.specs.Refusal.{id_refusal, answer}
use Rattle.layers.specs.declared.LayerId.{LayerId}
use Rattle.widget_rect.specs.declared.WidgetRect.{WidgetRect}
use Rattle.widget_rect.specs.WidgetRect.{is_focusable}
use Rattle.widget_rows.specs.Rows.{Table, entry_of}

-- ---- `order`, `get`, `contains` (lines 137 to 149), from what by_id holds; id 0 is refused
abbrev pub order_in : Option (ℕ × WidgetRect) → Option (LayerId × ℕ)
order_in None = None
order_in (Some (idx, w)) = Some (w.layer_id, idx)

abbrev pub widget_in : Option (ℕ × WidgetRect) → Option WidgetRect
widget_in None = None
widget_in (Some (idx, w)) = Some w

abbrev pub order_of : ℕ → Option (ℕ × WidgetRect) → Result (Option (LayerId × ℕ)) Refusal
order_of id held = answer (id_refusal id) (order_in held)

abbrev pub widget_of : ℕ → Option (ℕ × WidgetRect) → Result (Option WidgetRect) Refusal
widget_of id held = answer (id_refusal id) (widget_in held)

abbrev pub contains_of : ℕ → Option (ℕ × WidgetRect) → Result Bool Refusal
contains_of id held = answer (id_refusal id) (is_some held)

unfoldable pub order_answer : Table → ℕ → Result (Option (LayerId × ℕ)) Refusal
order_answer t id = order_of id (entry_of t id)

unfoldable pub widget_answer : Table → ℕ → Result (Option WidgetRect) Refusal
widget_answer t id = widget_of id (entry_of t id)

unfoldable pub contains_answer : Table → ℕ → Result Bool Refusal
contains_answer t id = contains_of id (entry_of t id)

-- ---- `focusable_widgets_in_layer` (lines 158 to 165), from the layer's list
unfoldable pub focusable_ids : List WidgetRect → List ℕ
focusable_ids [] = []
focusable_ids (w ∷ list) = cond (is_focusable w) (w.id ∷ focusable_ids list) (focusable_ids list)
