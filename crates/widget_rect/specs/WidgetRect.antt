-- WidgetRect of widget_rect.rs (lines 8 to 57), what `insert` does to the record of a known widget (lines 212 to 216), `focusable_widgets_in_layer`
-- (line 163), and document 01's refusals of a record. Definitions only.
use Rattle.std.specs.Prelude.{ℕ, ◌/◌, ◌%◌, Bool, cond, ◌&&◌, ◌||◌, eqb}
use Rattle.std.specs.Int.Bits.{bit_or}
use Rattle.refusal.specs.Refusal.{none, other_layer, lowest, id_refusal, code_refusal}
use Rattle.refusal.specs.Limits.{last_sense}
use Rattle.grid.specs.Grid.{rect_refusal}
use Rattle.layers.specs.declared.LayerId.{LayerId}
use Rattle.layers.specs.Layers.{is_layer, layer_refusal}
use Rattle.widget_rect.specs.declared.WidgetRect.{WidgetRect}

-- the last rectangles win; sense, enabled and visible are joined
unfoldable pub joined_of : WidgetRect → WidgetRect → WidgetRect
joined_of existing new = record { id = existing.id; parent_id = existing.parent_id; layer_id = existing.layer_id; rect = new.rect; interact_rect = new.interact_rect; sense = bit_or existing.sense new.sense; enabled = existing.enabled || new.enabled; visible = existing.visible || new.visible }

-- enabled, and the bit of value 4 of its sense is set
unfoldable pub is_focusable : WidgetRect → Bool
is_focusable w = w.enabled && eqb (w.sense / 4 % 2) 1

-- ---- refusals 1 to 4 of a record, and 7
abbrev pub ids_refusal : WidgetRect → ℕ
ids_refusal w = lowest (id_refusal w.id) (id_refusal w.parent_id)

abbrev pub rects_refusal : WidgetRect → ℕ
rects_refusal w = lowest (rect_refusal w.rect) (rect_refusal w.interact_rect)

unfoldable pub widget_refusal : WidgetRect → ℕ
widget_refusal w = lowest (ids_refusal w) (lowest (lowest (layer_refusal w.layer_id) (code_refusal w.sense last_sense)) (rects_refusal w))

abbrev pub other_layer_refusal : LayerId → LayerId → ℕ
other_layer_refusal call held = cond (is_layer call held) none other_layer

unfoldable pub insert_refusal : WidgetRect → LayerId → ℕ
insert_refusal w layer = lowest (widget_refusal w) (lowest (layer_refusal layer) (other_layer_refusal layer w.layer_id))
