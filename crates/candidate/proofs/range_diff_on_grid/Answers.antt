-- The theorem `candidate::range_diff_on_grid`. Assumes nothing.
use Rattle.candidate.proofs.Apart.{apart_count}
use Rattle.candidate.proofs.range_diff_on_grid.Goals as goal

pub returns : goal.returns
returns c = apart_count
