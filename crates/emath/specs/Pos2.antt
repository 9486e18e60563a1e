-- emath's pos2.rs, with gui_rounding.rs for Pos2, in IEEE 754. Definitions only.
use Rattle.gui_rounding.specs.GuiRounding.{round_ui}
use Rattle.emath.specs.declared.Pos2.{Pos2}

-- GuiRounding::round_ui: each coordinate
abbrev pub round_pos : Pos2 → Pos2
round_pos p = record { x = round_ui p.x; y = round_ui p.y }
