-- `candidate::to_candidate` meets its contract. Assumes nothing.
use Rattle.candidate.proofs.to_candidate.Goals as goal

pub returns : goal.returns
returns c =
    rw (
      c.range_diff-2.ensures,
      c.y_range-2.ensures,
      c.y_range.ensures,
      c.range_diff.ensures,
      c.x_range-2.ensures,
      c.x_range.ensures,
    )
