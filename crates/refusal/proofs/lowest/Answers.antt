-- `refusal::lowest` meets its contract. Assumes nothing.
use Rattle.refusal.proofs.Laws.{none_left, none_right, left_lower, right_lower}
use Rattle.refusal.proofs.lowest.Goals as goal

pub returns-then-a-eq-NONE : goal.returns-then-a-eq-NONE
returns-then-a-eq-NONE c = search none_left

pub returns-then-b-eq-NONE : goal.returns-then-b-eq-NONE
returns-then-b-eq-NONE c = search none_right

pub returns-then-a-b : goal.returns-then-a-b
returns-then-a-b c = search left_lower

pub returns-else-a-b : goal.returns-else-a-b
returns-else-a-b c = search right_lower
