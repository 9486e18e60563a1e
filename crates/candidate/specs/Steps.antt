-- range_diff in whole numbers, as document 01 has it ("The search"): ends of ranges in 32nds of a point, the difference in 64ths. Definitions only.
use Rattle.std.specs.Prelude.{cond, ℤ, pos, ◌+ℤ◌, ◌-ℤ◌, ◌*ℤ◌}
use Rattle.std.specs.Int.Signed.{lt_z, le_z}

abbrev pub lower : ℤ → ℤ → ℤ
lower a b = cond (lt_z b a) b a

abbrev pub higher : ℤ → ℤ → ℤ
higher a b = cond (lt_z a b) b a

-- the lower high end less the higher low end
abbrev pub overlap_of : ℤ → ℤ → ℤ → ℤ → ℤ
overlap_of a0 a1 b0 b1 = lower a1 b1 -ℤ higher a0 b0

abbrev pub smaller_span : ℤ → ℤ → ℤ → ℤ → ℤ
smaller_span a0 a1 b0 b1 = lower (b1 -ℤ b0) (a1 -ℤ a0)

-- 0 where twice the overlap is at least the smaller span, else twice the middle of a less twice the middle of b
abbrev pub steps_apart : ℤ → ℤ → ℤ → ℤ → ℤ
steps_apart a0 a1 b0 b1 = cond (le_z (smaller_span a0 a1 b0 b1) (overlap_of a0 a1 b0 b1 *ℤ pos 2)) (pos 0) ((a0 +ℤ a1) -ℤ (b0 +ℤ b1))
