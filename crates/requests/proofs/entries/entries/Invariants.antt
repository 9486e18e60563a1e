-- The loop of `requests::entries::entries`: the entries so far are put, and the others are still to be read.
use Rattle.forms.specs.Read.{entry_in}
use Rattle.requests.proofs.Many.{Going}
use Rattle.requests.proofs.Held.{EventsPut}
use Rattle.requests.proofs.entries.entries.Given as goal

abbrev pub invariant-loop-i : goal.invariant-loop-i
invariant-loop-i l = Going entry_in (EventsPut l.fn.events l.events) l.s l.i l.rest
