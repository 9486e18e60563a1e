-- std's `round` is the definition's. Assumes nothing.
use mathlib.Core.Path.{◌≡◌, refl}
use mathlib.Core.Bool.{true, false}
use Prim.Native.Nat.{◌*◌}
use native.Mathlib.Nat.{mul_comm}
use lib.Ieee.{Float, nan, inf, fin, binary32, up, down}
use Rattle.std.specs.Float.{float_round, round_with}
use Rattle.gui_rounding.specs.GuiRounding.{round_away}

pub as_defined : (x : Float) → float_round binary32 x ≡ round_away x
unfolding round_with round_away
as_defined nan = refl
as_defined (inf s) = refl
as_defined (fin false m e) = rw (mul_comm 2 (m * up e), mul_comm 2 (down e)) refl
as_defined (fin true m e) = rw (mul_comm 2 (m * up e), mul_comm 2 (down e)) refl
