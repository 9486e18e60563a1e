-- AreaState of containers/area.rs (lines 18 to 88 of the Rust), without `last_became_visible_at` and `load`, in IEEE 754; Align::to_factor is emath's. Definitions only.
use Rattle.std.specs.Prelude.{ℕ, zero, suc, ◌*◌, ℤ, pos, ◌+ℤ◌, ◌-ℤ◌, true, Float, Option, None, Some}
use Rattle.std.specs.Float.{binary32}
use Rattle.std.specs.Float.Ieee.{add, sub, mul, of_bits}
use Rattle.refusal.specs.Refusal.{lowest, code_refusal}
use Rattle.refusal.specs.Limits.{last_pivot}
use Rattle.floats.specs.Count.{half}
use Rattle.emath.specs.declared.Pos2.{Pos2}
use Rattle.emath.specs.declared.Vec2.{Vec2}
use Rattle.emath.specs.declared.Rect.{Rect}
use Rattle.gui_rounding.specs.GuiRounding.{half_away}
use Rattle.emath.specs.Pos2.{round_pos}
use Rattle.emath.specs.Rect.{from_min_size, round_rect}
use Rattle.grid.specs.Grid.{pivot_pos_refusal, size_refusal}
use Rattle.area.specs.declared.PivotPos.{PivotPos}
use Rattle.area.specs.declared.AreaState.{AreaState}

abbrev pub nil : Float
nil = of_bits binary32 0

-- pivot_pos.unwrap_or_default() and size.unwrap_or_default(): absent means (0, 0)
abbrev pub position_of : PivotPos → Pos2
position_of PivotPos.Absent = record { x = nil; y = nil }
position_of (PivotPos.At x y) = record { x = x; y = y }

abbrev pub extent_of : Option Vec2 → Vec2
extent_of None = record { x = nil; y = nil }
extent_of (Some v) = v

-- Align::to_factor by its code: 0 low, 1 middle, 2 high. A code past 2 stands for 2
unfoldable pub to_factor : ℕ → Float
to_factor zero = nil
to_factor (suc zero) = half
to_factor (suc (suc n)) = of_bits binary32 0x3f80_0000

-- AreaState::default()
abbrev pub default_state : AreaState
default_state = record { pivot_pos = PivotPos.Absent; pivot = record { x = 0; y = 0 }; size = None; interactable = true }

-- left_top_pos: the pivot position minus factor times size, rounded
unfoldable pub left_top : AreaState → Pos2
left_top s = round_pos (record {
  x = sub binary32 (position_of s.pivot_pos).x (mul binary32 (to_factor s.pivot.x) (extent_of s.size).x);
  y = sub binary32 (position_of s.pivot_pos).y (mul binary32 (to_factor s.pivot.y) (extent_of s.size).y);
})

-- set_left_top_pos: the pivot position is the position plus factor times size
unfoldable pub with_left_top : AreaState → Pos2 → AreaState
with_left_top s p = record {
  pivot_pos =
      PivotPos.At (add binary32 p.x (mul binary32 (to_factor s.pivot.x) (extent_of s.size).x))
      (add binary32 p.y (mul binary32 (to_factor s.pivot.y) (extent_of s.size).y));
  pivot = s.pivot;
  size = s.size;
  interactable = s.interactable;
}

-- rect: from the left top, of that size, rounded
unfoldable pub rect_of : AreaState → Rect
unfolding left_top
rect_of s = round_rect (from_min_size (left_top s) (extent_of s.size))

-- ---- the same in whole numbers, on one axis: a position of p 64ths, a pivot's code f, a size of n 32nds, and the edges in 32nds
abbrev pub low_edge : ℤ → ℕ → ℕ → ℤ
low_edge p f n = half_away (p -ℤ pos (f * n))

abbrev pub high_edge : ℤ → ℕ → ℕ → ℤ
high_edge p f n = low_edge p f n +ℤ pos n

-- ---- what is refused, from document 01's table: 2 a pivot code, 3 a pivot position or size, 4 a negative size
abbrev pub pivot_pos_at : PivotPos → ℕ
pivot_pos_at PivotPos.Absent = 0
pivot_pos_at (PivotPos.At x y) = pivot_pos_refusal x y

abbrev pub size_at : Option Vec2 → ℕ
size_at None = 0
size_at (Some v) = size_refusal v.x v.y

unfoldable pub state_refusal : AreaState → ℕ
state_refusal s = lowest (lowest (code_refusal s.pivot.x last_pivot) (code_refusal s.pivot.y last_pivot)) (lowest (pivot_pos_at s.pivot_pos) (size_at s.size))
