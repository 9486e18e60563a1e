-- A list of begin, interest and end calls of Memory: what it leaves, and whether each was refused.
-- Definitions only.
use Rattle.std.specs.Prelude.{ℕ, Bool, not, List, [], ◌∷◌, eqb}
use Rattle.input.specs.declared.Event.{Event}
use Rattle.layers.specs.declared.LayerId.{LayerId}
use Rattle.search.specs.declared.Candidate.{Candidate}
use Rattle.memory_rules.specs.declared.Memory.{Memory}
use Rattle.memory_rules.specs.State.{Done}
use Rattle.memory_rules.specs.Memory.{begun_of, interested_of, ended_of}

-- ---- a call with its arguments: the events, the id and its layer, the used entries
pub data Call : Type 0 where
  Begin : List Event → Call
  Interest : ℕ → LayerId → Call
  End : List Candidate → Call

unfoldable pub done_by : Call → Memory → Done
done_by (Begin events) m = begun_of m events
done_by (Interest id layer) m = interested_of m id layer
done_by (End used) m = ended_of m used

-- each call gets the state that the last one left
unfoldable pub run : Memory → List Call → Memory
run m [] = m
run m (c ∷ calls) = run (done_by c m).memory calls

unfoldable pub is_refused : Memory → Call → Bool
is_refused m c = not (eqb (done_by c m).refusal 0)

-- each call, and whether it was refused
pub record Made : Type 0 where
  pub call : Call
  pub refused : Bool

unfoldable pub made : Memory → List Call → List Made
made m [] = []
made m (c ∷ calls) = record { call = c; refused = is_refused m c } ∷ made (done_by c m).memory calls
