-- `replay::fill`: what is read fits the chunk.
use Rattle.std.proofs.Common.{◌≤◌, length}
use Rattle.replay.proofs.fill.Given as goal

abbrev pub invariant-loop : goal.invariant-loop
invariant-loop l = l.used ≤ length l.chunk
