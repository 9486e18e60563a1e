-- `candidate::along` meets its contract. Assumes nothing.
use mathlib.Core.Path.{sym}
use native.Mathlib.Omega.{arith}
use borrow.Author.Tests.{ne_eqb}
use Rattle.candidate.specs.Candidate.{along_of}
use Rattle.candidate.proofs.along.Goals as goal

pub returns-in-0 : goal.returns-in-0
unfolding along_of
returns-in-0 c = rw c.in-0.is

pub returns-in-1 : goal.returns-in-1
unfolding along_of
returns-in-1 c = rw c.in-1.is

pub returns-in-2 : goal.returns-in-2
unfolding along_of
returns-in-2 c = rw c.in-2.is

pub returns-in-3 : goal.returns-in-3
unfolding along_of
returns-in-3 c = rw c.in-3.is

pub returns-in_default : goal.returns-in_default
unfolding along_of
returns-in_default c =
    sym (rw (ne_eqb c.args.direction 0 (omega arith), ne_eqb c.args.direction 1 (omega arith), ne_eqb c.args.direction 2 (omega arith), ne_eqb c.args.direction 3 (omega arith)))
