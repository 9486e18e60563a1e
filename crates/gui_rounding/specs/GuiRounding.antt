-- emath's gui_rounding.rs for f32, in IEEE 754: `round_ui` is (self / GUI_ROUNDING).round() * GUI_ROUNDING. Definitions only.
use Rattle.std.specs.Prelude.{suc, ◌+◌, ◌*◌, ◌/◌, ℤ, pos, negsuc, neg_ℤ, from_bits, Float}
use Rattle.std.specs.Float.{nan, inf, fin, binary32}
use Rattle.std.specs.Float.Ieee.{up, down, round, mul, div}

-- GUI_ROUNDING: 1 / 32
abbrev pub gui_rounding : Float
gui_rounding = from_bits binary32 0x3d00_0000

-- f32::round: the whole number nearest to m * 2 ^ e, which is the whole part of m * 2 ^ e + 1 / 2, so that a tie goes away from zero.
-- The sign stays, that of a zero too
unfoldable pub round_away : Float → Float
round_away nan = nan
round_away (inf s) = inf s
round_away (fin s m e) = round binary32 s ((m * up e * 2 + down e) / (down e * 2)) 1

unfoldable pub round_ui : Float → Float
round_ui x = mul binary32 (round_away (div binary32 x gui_rounding)) gui_rounding

-- what that is on the grid: z steps of 1 / 64 as steps of 1 / 32, a tie away from zero
abbrev pub half_away : ℤ → ℤ
half_away (pos n) = pos ((n + 1) / 2)
half_away (negsuc n) = neg_ℤ (pos ((suc n + 1) / 2))
