-- The places passed have what stands `by` further on, and the others are as they were.
use Rattle.std.proofs.Common.{◌≡◌, ◌-◌, ◌≤◌, length, take, drop, ◌++◌}
use Rattle.tables.proofs.close.Given as goal

abbrev pub invariant-loop-j : goal.invariant-loop-j
invariant-loop-j g l = (length l.tail ≡ length l.initial.tail) × (l.j - l.by ≤ length l.initial.tail - l.by) × (l.tail ≡ take (l.j - l.by) (drop l.by l.initial.tail) ++ drop (l.j - l.by) l.initial.tail)
