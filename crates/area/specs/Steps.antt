-- What a private function finds, for its contract; no public contract cites it. Definitions only.
use Rattle.std.specs.Prelude.{Bool, ◌&&◌, Float}
use Rattle.std.specs.Float.{binary32}
use Rattle.std.specs.Float.Ieee.{add, le}
use Rattle.gui_rounding.specs.GuiRounding.{round_ui}

-- whether x is between a low edge and the edge of that size after it, both rounded
unfoldable pub spans : Float → Float → Float → Bool
spans low size x = le (round_ui low) x && le x (round_ui (add binary32 low size))
