-- `focus_pass::listen_to` meets its contract. The invariant: the lowest refusal from here on is the lowest of all, and what is heard from here on is what is heard of all. Assumes nothing.
use mathlib.Core.Path.{◌≡◌}
use Prim.Native.Nat.{◌*◌}
use lib.ListN.{drop}
use Rattle.refusal.specs.Refusal.{none}
use Rattle.focus_rules.specs.Rules.{nothing_heard}
use Rattle.focus_pass.specs.Events.{events_in}
use Rattle.focus_pass.specs.Pass.{worst_of, heard_all}
use Rattle.focus_pass.proofs.listen_to.Given as goal

abbrev pub invariant-loop-i : goal.invariant-loop-i
invariant-loop-i l =
    let left = drop (4 * l.i) l.words in
    (worst_of none (events_in left) ≡ worst_of none (events_in l.words))
    × (heard_all l.filter l.heard (events_in left) ≡ heard_all l.filter nothing_heard (events_in l.words))
