-- `focus_end::retain` meets its contract. The invariant: of the first i entries those that are used stand on the first places. Assumes nothing.
use Rattle.focus_cache.specs.Cache.{cache_in, held_in}
use Rattle.used.specs.Used.{lent}
use Rattle.focus_end.proofs.Calls.{Retained}
use Rattle.focus_end.proofs.retain.Given as goal

abbrev pub invariant-loop-i : goal.invariant-loop-i
invariant-loop-i l = Retained (cache_in l.initial.ids l.initial.rects) (held_in l.count l.initial.ids l.initial.rects) (lent l.used) (cache_in l.ids l.rects) l.so_far.count l.i
