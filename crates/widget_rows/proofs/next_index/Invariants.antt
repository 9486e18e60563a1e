-- The invariant: the index after the last is the one that the rows below k have.
use Rattle.std.proofs.Common.{◌≡◌, ◌/◌, min, length}
use Rattle.widget_rows.specs.Rows.{next_index}
use Rattle.widget_rows.proofs.next_index.Given as goal

abbrev pub invariant-loop-k : goal.invariant-loop-k
invariant-loop-k l = next_index l.words (min l.n (length l.words / 10)) l.layer ≡ next_index l.words l.k l.layer
