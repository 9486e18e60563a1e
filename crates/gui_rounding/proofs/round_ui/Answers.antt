-- `gui_rounding::round_ui` meets its contract. Assumes nothing.
use Rattle.gui_rounding.specs.GuiRounding.{round_ui}
use Rattle.gui_rounding.proofs.round_ui.Goals as goal

pub returns : goal.returns
unfolding round_ui
returns c = rw c.round.ensures
