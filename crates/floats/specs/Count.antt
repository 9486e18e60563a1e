-- An f32 as a whole number of steps of 1 / c: how IEEE 754's numbers stand on document 01's grid. Definitions only.
use Rattle.std.specs.Prelude.{ℕ, ◌*◌, ◌/◌, ◌%◌, Bool, true, false, cond, ℤ, pos, neg_ℤ, eqb, Float}
use Rattle.std.specs.Float.{nan, inf, fin, binary32}
use Rattle.std.specs.Float.Ieee.{up, down, of_bits}

-- n, below zero where s is true
abbrev pub signed : Bool → ℕ → ℤ
signed true n = neg_ℤ (pos n)
signed false n = pos n

pub data Count : Type 0 where
  off : Count
  at : ℤ → Count

-- m * 2 ^ e with the sign s is z steps of 1 / c where c times it is the whole number z. Both zeros are 0 steps.
-- A number between two steps, an infinity and NaN are off
unfoldable pub count_of : ℕ → Float → Count
count_of c nan = off
count_of c (inf s) = off
count_of c (fin s m e) = cond (eqb (m * up e * c % down e) 0) (at (signed s (m * up e * c / down e))) off

-- 0.5
abbrev pub half : Float
half = of_bits binary32 0x3f00_0000
