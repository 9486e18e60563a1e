-- What the tests of f32 alone find, for the contracts of private functions; no public contract cites them. Definitions only.
use Rattle.std.specs.Prelude.{Bool, not, ◌&&◌, eqb, Float}
use Rattle.std.specs.Float.{binary32}
use Rattle.std.specs.Float.Ieee.{of_bits, lt, le, eq, add, sub, mul}
use Rattle.refusal.specs.Refusal.{none}
use Rattle.grid.specs.Grid.{magnitude_of, corner_refusal}

-- y is a multiple of the steps that f32 has where y + far lies
abbrev pub multiple_by : Float → Float → Bool
multiple_by y far = eq (sub binary32 (add binary32 y far) far) y

-- the size is within the bound, and so many steps of it are whole, since from 2 ^ 23 to 2 ^ 24 f32 has steps of 1
abbrev pub taken_by : Float → Float → Float → Bool
taken_by x bound steps = le (magnitude_of x) bound && multiple_by (mul binary32 (magnitude_of x) steps) (of_bits binary32 0x4b00_0000)

-- one axis of a rectangle is taken: both its ends are, and the high one is not below the low one
abbrev pub axis_taken : Float → Float → Bool
axis_taken low high = eqb (corner_refusal low) none && (eqb (corner_refusal high) none && not (lt high low))
