-- `input::EventFilter::matches_key` meets its contract. Assumes nothing.
use native.Mathlib.Omega.{arith}
use Rattle.input.specs.EventFilter.{matches_key}
use Rattle.input.proofs.Keys.{matches_other}
use Rattle.input.proofs.EventFilter.matches_key.Goals as goal

pub returns-in-0 : goal.returns-in-0
unfolding matches_key
returns-in-0 c = rw c.in-0.is

pub returns-in-1 : goal.returns-in-1
unfolding matches_key
returns-in-1 c = rw c.in-1.is

pub returns-in-2 : goal.returns-in-2
unfolding matches_key
returns-in-2 c = rw c.in-2.is

pub returns-in-3 : goal.returns-in-3
unfolding matches_key
returns-in-3 c = rw c.in-3.is

pub returns-in-4 : goal.returns-in-4
unfolding matches_key
returns-in-4 c = rw c.in-4.is

pub returns-in-5 : goal.returns-in-5
unfolding matches_key
returns-in-5 c = rw c.in-5.is

pub returns-in-6-to-144 : goal.returns-in-6-to-144
returns-in-6-to-144 c = matches_other _ _ (omega arith)

pub returns-in_default : goal.returns-in_default
returns-in_default c = matches_other _ _ (omega arith)
