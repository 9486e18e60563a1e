-- emath's rect.rs, with gui_rounding.rs for Rect, in IEEE 754. Definitions only.
use Rattle.std.specs.Prelude.{Bool, true, false, ◌&&◌, List, [], ◌∷◌, Float, get_or}
use Rattle.std.specs.Float.{nan, inf, binary32}
use Rattle.std.specs.Float.Ieee.{add, le}
use Rattle.emath.specs.declared.Pos2.{Pos2}
use Rattle.emath.specs.declared.Vec2.{Vec2}
use Rattle.emath.specs.declared.Rangef.{Rangef}
use Rattle.emath.specs.declared.Rect.{Rect}
use Rattle.emath.specs.Pos2.{round_pos}

-- Rect::EVERYTHING
abbrev pub everything : Rect
everything = record { min = record { x = inf true; y = inf true }; max = record { x = inf false; y = inf false } }

-- Rect::from_min_size: max is min + size
abbrev pub from_min_size : Pos2 → Vec2 → Rect
from_min_size p v = record { min = p; max = record { x = add binary32 p.x v.x; y = add binary32 p.y v.y } }

-- the rectangle of four numbers: left, top, right, bottom; and the numbers of a rectangle
abbrev pub from_corners : List Float → Rect
from_corners c = record { min = record { x = get_or c 0 nan; y = get_or c 1 nan }; max = record { x = get_or c 2 nan; y = get_or c 3 nan } }

abbrev pub to_corners : Rect → List Float
to_corners r = r.min.x ∷ r.min.y ∷ r.max.x ∷ r.max.y ∷ []

-- Rect::contains: edges included, and false where a NaN stands
unfoldable pub contains_pos : Rect → Pos2 → Bool
contains_pos r p = le r.min.x p.x && le p.x r.max.x && le r.min.y p.y && le p.y r.max.y

-- Rect::x_range and Rect::y_range
abbrev pub x_range : Rect → Rangef
x_range r = record { min = r.min.x; max = r.max.x }

abbrev pub y_range : Rect → Rangef
y_range r = record { min = r.min.y; max = r.max.y }

-- GuiRounding::round_ui: each corner
abbrev pub round_rect : Rect → Rect
round_rect r = record { min = round_pos r.min; max = round_pos r.max }
