-- `text::digits` meets its contract. The invariant: what is read on from here is what is read from the start. Assumes nothing.
use mathlib.Core.Path.{◌≡◌}
use Prim.Native.Nat.{◌≤◌, max}
use lib.ListN.{length, drop}
use Rattle.text.specs.Read.{digits_of, value_at}
use Rattle.text.proofs.Reading.{read_on}
use Rattle.text.proofs.digits.Given as goal

abbrev pub invariant-loop-i : goal.invariant-loop-i
invariant-loop-i l = (l.i ≤ max l.at (length l.s)) × (l.v ≤ 18446744073709551615) × (value_at l.at (digits_of (drop l.at l.s)) ≡ read_on l.v l.i (drop l.i l.s))
