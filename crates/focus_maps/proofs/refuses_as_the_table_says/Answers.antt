-- `focus_maps::refuses_as_the_table_says` meets its contract. Assumes nothing.
use Rattle.focus_maps.proofs.Holds.{refused, unchanged}
use Rattle.focus_maps.proofs.refuses_as_the_table_says.Goals as goal

pub returns : goal.returns
returns c = (refused, unchanged)
