-- `used::repeats` meets its contract. The invariant: no id before here stands twice, and the cell of each has all its bits. Assumes nothing.
use Rattle.used.proofs.Twice.{Shown}
use Rattle.used.proofs.repeats.Given as goal

abbrev pub invariant-loop-i : goal.invariant-loop-i
invariant-loop-i l = Shown l.ids l.cells l.i
