-- A refused insert leaves the count as it was, so what C reads is the count after it. Assumes nothing.
use mathlib.Core.Path.{◌≡◌, refl}
use mathlib.Core.Bool.{Bool}
use Prim.Native.Nat.{ℕ, zero, suc}
use Rattle.refusal.specs.Refusal.{kept}
use Rattle.layers.specs.declared.LayerId.{LayerId}
use Rattle.widget_rect.specs.declared.WidgetRect.{WidgetRect}
use Rattle.widget_rows.specs.Rows.{Table}
use Rattle.widget_table.specs.Table.{refusal_of, unless_refused, insert_of}

unless_kept : (r : ℕ) (before after : Table) → kept r before.count (unless_refused r before after).count ≡ (unless_refused r before after).count
unless_kept zero before after = refl
unless_kept (suc r) before after = refl

pub count_kept : (t : Table) (layer : LayerId) (new : WidgetRect) (to_top : Bool) → kept (refusal_of t layer new) t.count (insert_of t layer new to_top).count ≡ (insert_of t layer new to_top).count
unfolding insert_of
count_kept t layer new to_top = unless_kept (refusal_of t layer new) t _
