-- The walk from here on is the walk from the start.
use mathlib.Core.Path.{◌≡◌}
use Rattle.search.specs.Search.{table_of, is_better}
use Rattle.search.specs.Walk.{nothing_yet, walk_of}
use Rattle.search.proofs.Places.{walk_from}
use Rattle.search.proofs.find.Given as goal

abbrev pub invariant-loop-i : goal.invariant-loop-i
invariant-loop-i l = walk_from l.ids l.rects l.focused l.current l.direction l.best l.i ≡ walk_of is_better l.focused l.current l.direction nothing_yet (table_of l.ids l.rects)
