-- The invariant: the rows before k are numbered anew, and with those from k on numbered so too it is the whole.
use Rattle.std.proofs.Common.{◌≡◌, ◌*◌, ◌-◌, ◌/◌, ◌++◌, length, take, drop}
use Rattle.widget_rows.specs.Rows.{renumbered_rows, renumbered}
use Rattle.widget_rows.proofs.renumber.Given as goal

abbrev pub invariant-loop-k : goal.invariant-loop-k
invariant-loop-k l = take (10 * l.k) l.tail ++ renumbered_rows (length l.tail / 10 - l.k) l.layer (drop (10 * l.k) l.tail) ≡ renumbered l.layer l.initial.tail
