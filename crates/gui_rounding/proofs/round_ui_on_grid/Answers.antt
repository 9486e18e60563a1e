-- `gui_rounding::round_ui_on_grid`: the law is proved in Grid.antt. Assumes nothing.
use Rattle.gui_rounding.proofs.Grid.{round_ui_count}
use Rattle.gui_rounding.proofs.round_ui_on_grid.Goals as goal

pub returns : goal.returns
returns c = round_ui_count
