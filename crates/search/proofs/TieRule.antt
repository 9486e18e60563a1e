-- All that the search leans on of the tie rule: it orders the candidates, every one of them, and those of which neither goes first stand together.
-- Assumes nothing.
use mathlib.Core.Path.{◌≡◌}
use native.Mathlib.Omega.{arith}
use mathlib.Core.Bool.{true, false}
use borrow.Author.Tests.{ltb-true, ltb-false, le-ltb}
use Rattle.search.specs.declared.Candidate.{Candidate}
use Rattle.search.specs.Search.{goes_first}

pub one_before : (a b : Candidate) → goes_first a b ≡ true → goes_first b a ≡ false
unfolding goes_first
one_before a b h = le-ltb b.id a.id (omega (arith, ltb-true a.id b.id h))

pub not_before : (a b c : Candidate) → goes_first a b ≡ false → goes_first b c ≡ false → goes_first a c ≡ false
unfolding goes_first
not_before a b c h k = le-ltb a.id c.id (omega (arith, ltb-false a.id b.id h, ltb-false b.id c.id k))
