-- FocusDirection of memory/mod.rs (lines 150 to 184 of the Rust), and the match on a pressed key in Focus::begin_pass (lines 589 to 604). Definitions only.
use Rattle.std.specs.Prelude.{ℕ, Bool, not, ◌&&◌, ◌||◌, cond, eqb}
use Rattle.input.specs.declared.Navigation.{Navigation}
use Rattle.input.specs.declared.Navigation.TheVariants.{Unchanged, Direction, Escape}
use Rattle.input.specs.Key.{arrow_down, arrow_left, arrow_right, arrow_up, escape, tab}
use Rattle.input.specs.Modifiers.{any_of, shift_only}

-- the directions, as declared
abbrev pub up : ℕ
up = 0

abbrev pub right : ℕ
right = 1

abbrev pub down : ℕ
down = 2

abbrev pub left : ℕ
left = 3

abbrev pub previous : ℕ
previous = 4

abbrev pub next : ℕ
next = 5

abbrev pub no_direction : ℕ
no_direction = 6

-- is_cardinal: an arrow's direction
unfoldable pub is_cardinal : ℕ → Bool
is_cardinal d = eqb d up || (eqb d right || (eqb d down || eqb d left))

-- what a pressed key does: it sets a direction, or is Escape, or neither
unfoldable pub navigation_of : ℕ → ℕ → Navigation
navigation_of key modifiers =
    cond (eqb key arrow_up && not (any_of modifiers)) (Direction up)
    (cond (eqb key arrow_right && not (any_of modifiers)) (Direction right)
    (cond (eqb key arrow_down && not (any_of modifiers)) (Direction down)
    (cond (eqb key arrow_left && not (any_of modifiers)) (Direction left)
    (cond (eqb key tab && not (any_of modifiers)) (Direction next)
    (cond (eqb key tab && shift_only modifiers) (Direction previous)
    (cond (eqb key escape && not (any_of modifiers)) Escape Unchanged))))))
