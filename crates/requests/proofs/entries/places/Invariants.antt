-- The loop of `requests::entries::places`: the entries so far are put, and the others are still to be read.
use Rattle.forms.specs.Read.{place_in}
use Rattle.requests.proofs.Many.{Going}
use Rattle.requests.proofs.Held.{UsedPut}
use Rattle.requests.proofs.entries.places.Given as goal

abbrev pub invariant-loop-i : goal.invariant-loop-i
invariant-loop-i l = Going place_in (UsedPut l.fn.used l.used) l.s l.i l.rest
