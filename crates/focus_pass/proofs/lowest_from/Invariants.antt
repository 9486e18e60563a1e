-- `focus_pass::lowest_from` meets its contract. The invariant: the lowest refusal from here on is the lowest of all. Assumes nothing.
use mathlib.Core.Path.{◌≡◌}
use Prim.Native.Nat.{◌*◌}
use lib.ListN.{drop}
use Rattle.refusal.specs.Refusal.{number_of}
use Rattle.focus_pass.specs.Events.{events_in}
use Rattle.focus_pass.specs.Pass.{worst_of}
use Rattle.focus_pass.proofs.lowest_from.Given as goal

abbrev pub invariant-loop-kind : goal.invariant-loop-kind
invariant-loop-kind l = worst_of (number_of l.refused) (events_in (drop (4 * l.kind-index) l.words)) ≡ worst_of (number_of l.fn.first) (events_in l.words)
