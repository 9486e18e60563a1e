-- `focus_cache::remove` meets its contract. The invariant: of the first i entries those that are left stand on the first places. Assumes nothing.
use Rattle.focus_cache.specs.Cache.{cache_in, held_in}
use Rattle.focus_cache.proofs.Calls.{Removed}
use Rattle.focus_cache.proofs.remove.Given as goal

abbrev pub invariant-loop-i : goal.invariant-loop-i
invariant-loop-i l = Removed (cache_in l.initial.ids l.initial.rects) (held_in l.count l.initial.ids l.initial.rects) l.id (cache_in l.ids l.rects) l.kept l.i
