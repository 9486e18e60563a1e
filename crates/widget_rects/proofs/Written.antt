-- Laws of the widgets of a list, written one a turn. Assumes nothing.
use mathlib.Core.Path.{◌≡◌}
use mathlib.Core.List.{List, []}
use Prim.Native.Nat.{ℕ}
use lib.ListN.{replicate}
use Rattle.refusal.specs.Limits.{widgets}
use Rattle.tables.proofs.Written.{Written, all_written}
use Rattle.widget_rect.specs.declared.WidgetRect.{WidgetRect}
use Rattle.widget_rects.specs.WidgetRects.{blank_widget, listing}

pub all_listed : (whole rest now : List WidgetRect) (n : ℕ) → Written (replicate widgets blank_widget) whole rest now n → rest ≡ [] → record { count = n; widgets = now } ≡ listing whole
all_listed whole rest now n h e =
    let (p, q) = all_written (replicate widgets blank_widget) whole rest now n h e in
    rw (p, q)
