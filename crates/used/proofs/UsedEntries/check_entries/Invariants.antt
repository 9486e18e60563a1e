-- `UsedEntries::check_entries` meets its contract. The invariant: the lowest refusal from here on is the lowest of all. Assumes nothing.
use mathlib.Core.Path.{◌≡◌}
use Rattle.refusal.specs.Refusal.{none, number_in}
use Rattle.used.specs.Used.{entries_in, worst_of}
use Rattle.used.proofs.Entries.{worst_from}
use Rattle.used.proofs.UsedEntries.check_entries.Given as goal

abbrev pub invariant-loop-i : goal.invariant-loop-i
invariant-loop-i l = worst_from l.self.ids.now l.self.corners.now (number_in l.checked) l.i ≡ worst_of none (entries_in l.self.ids.now l.self.corners.now)
