-- `text::decimal` meets its contract. The invariant: the text of what is left, and the digits written, are the number's. Assumes nothing.
use mathlib.Core.Path.{◌≡◌}
use mathlib.Core.List.{◌++◌}
use lib.ListN.{length, drop}
use Rattle.text.specs.Put.{decimal_in, decimal_of}
use Rattle.text.proofs.decimal.Given as goal

abbrev pub invariant-loop-i : goal.invariant-loop-i
invariant-loop-i l = (length l.text ≡ 20) × (decimal_of l.n ≡ decimal_in l.i l.rest ++ drop l.i l.text)
