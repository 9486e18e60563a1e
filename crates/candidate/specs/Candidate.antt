-- find_widget_in_direction of memory/mod.rs: what it says of one candidate (lines 711 to 734 and 758 to 773 of the Rust). Definitions only.
use Rattle.std.specs.Prelude.{ℕ, Bool, true, false, ◌||◌, cond, eqb, Float}
use Rattle.std.specs.Float.{binary32}
use Rattle.std.specs.Float.Ieee.{of_bits, sub, mul, div, neg, lt, le}
use Rattle.floats.specs.Count.{half}
use Rattle.emath.specs.declared.Rangef.{Rangef}
use Rattle.emath.specs.declared.Rect.{Rect}
use Rattle.emath.specs.declared.Vec2.{Vec2}
use Rattle.emath.specs.Range.{min_f, span_of, center_of, intersection_of}
use Rattle.emath.specs.Rect.{x_range, y_range}
use Rattle.grid.specs.Grid.{magnitude_of}
use Rattle.input.specs.FocusDirection.{up, right, down, left}
use Rattle.vec2.specs.Length.{length_of}
use Rattle.vec2.specs.Vec2.{pick_vec, normalized_of, dot_of}
use Rattle.std.specs.Prelude.{Option, None, Some}

abbrev pub zero : Float
zero = of_bits binary32 0

abbrev pub one : Float
one = of_bits binary32 0x3f80_0000

-- the overlap is at least half of the smaller span
unfoldable pub has_significant_overlap : Rangef → Rangef → Bool
has_significant_overlap a b = le (mul binary32 half (min_f (span_of b) (span_of a))) (span_of (intersection_of a b))

unfoldable pub range_diff : Rangef → Rangef → Float
range_diff a b = cond (has_significant_overlap a b) zero (sub binary32 (center_of a) (center_of b))

abbrev pub to_candidate : Rect → Rect → Vec2
to_candidate candidate current = record { x = range_diff (x_range candidate) (x_range current); y = range_diff (y_range candidate) (y_range current) }

-- Vec2::UP, RIGHT, DOWN, LEFT; a direction that is no arrow's has none, and (0, 0) stands for it
unfoldable pub search_direction : ℕ → Vec2
search_direction k =
    pick_vec (eqb k up) (record { x = zero; y = neg one })
    (pick_vec (eqb k right) (record { x = one; y = zero })
    (pick_vec (eqb k down) (record { x = zero; y = one })
    (pick_vec (eqb k left) (record { x = neg one; y = zero }) (record { x = zero; y = zero }))))

-- the cosine of the angle between the difference and the direction
unfoldable pub acos_angle : Vec2 → ℕ → Float
acos_angle v k = dot_of (normalized_of v) (search_direction k)

-- 0.5_f32.sqrt(), which is how wide the cone is
abbrev pub cone_bound : Float
cone_bound = of_bits binary32 0x3f35_04f3

unfoldable pub is_in_search_cone : Vec2 → ℕ → Bool
is_in_search_cone v k = le cone_bound (acos_angle v k)

unfoldable pub score_of : Vec2 → ℕ → Float
score_of v k = div binary32 (length_of v) (mul binary32 (acos_angle v k) (acos_angle v k))

abbrev pub verdict : Bool → Float → Option Float
verdict true score = Some score
verdict false score = None

-- outside the cone, or the score
unfoldable pub judge_of : Vec2 → ℕ → Option Float
judge_of v k = verdict (is_in_search_cone v k) (score_of v k)

-- ---- what the code looks at before it takes a root: the part of a difference along the direction, and whether a part's size is past a limit
unfoldable pub along_of : Vec2 → ℕ → Float
along_of v k = cond (eqb k up) (neg v.y) (cond (eqb k right) v.x (cond (eqb k down) v.y (cond (eqb k left) (neg v.x) zero)))

unfoldable pub is_farther : Vec2 → Float → Bool
is_farther v limit = lt limit (magnitude_of v.x) || lt limit (magnitude_of v.y)
