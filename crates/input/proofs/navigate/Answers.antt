-- `input::navigate` meets its contract. Assumes nothing.
use native.Mathlib.Omega.{arith}
use Rattle.input.proofs.Keys.{down_key, left_key, right_key, up_key, escape_key, tab_key, other_key}
use Rattle.input.proofs.navigate.Goals as goal

pub returns-in-0 : goal.returns-in-0
returns-in-0 c = search down_key

pub returns-in-1 : goal.returns-in-1
returns-in-1 c = search left_key

pub returns-in-2 : goal.returns-in-2
returns-in-2 c = search right_key

pub returns-in-3 : goal.returns-in-3
returns-in-3 c = search up_key

pub returns-in-4 : goal.returns-in-4
returns-in-4 c = search escape_key

pub returns-in-5 : goal.returns-in-5
returns-in-5 c = search tab_key

pub returns-in-6-to-144 : goal.returns-in-6-to-144
returns-in-6-to-144 c = other_key _ _ (omega arith)

pub returns-in_default : goal.returns-in_default
returns-in_default c = other_key _ _ (omega arith)
