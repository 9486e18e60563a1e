-- The invariant: the windows of the rows passed are written.
use Rattle.std.proofs.Common.{◌≡◌, ◌*◌, ◌-◌, ◌≤◌, length, drop, replicate}
use Rattle.refusal.specs.Limits.{layers}
use Rattle.tables.proofs.Written.{Written}
use Rattle.area_table.specs.Table.{lent as areas_lent}
use Rattle.layer_rows.specs.Rows.{lent}
use Rattle.areas.specs.Areas.{no_window}
use Rattle.areas.proofs.WindowRows.{windows_in}
use Rattle.areas.proofs.Areas.visible_windows.Given as goal

abbrev pub invariant-loop-next : goal.invariant-loop-next
invariant-loop-next l =
    let list = windows_in (areas_lent l.areas) l.areas.count in
    (length l.stack.words.now ≡ 8 * layers) × (l.count ≤ l.from) × Written (replicate layers no_window) (list (lent l.stack)) (list (drop l.from (lent l.stack))) l.windows l.count

abbrev pub decreases-loop-next : goal.decreases-loop-next
decreases-loop-next l = layers - l.from
