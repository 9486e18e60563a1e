-- Modifiers of data/input/modifiers.rs (lines 19 to 38 and 149 to 168 of the Rust), as document 01 numbers them: alt 1, ctrl 2, shift 4, mac_cmd 8, command 16.
-- Definitions only.
use Rattle.std.specs.Prelude.{ℕ, ◌/◌, ◌%◌, Bool, not, ◌&&◌, ◌||◌, eqb}

abbrev pub alt : ℕ → Bool
alt m = eqb (m % 2) 1

abbrev pub ctrl : ℕ → Bool
ctrl m = eqb (m / 2 % 2) 1

abbrev pub shift : ℕ → Bool
shift m = eqb (m / 4 % 2) 1

abbrev pub mac_cmd : ℕ → Bool
mac_cmd m = eqb (m / 8 % 2) 1

abbrev pub command : ℕ → Bool
command m = eqb (m / 16 % 2) 1

-- any: one of the five is set
unfoldable pub any_of : ℕ → Bool
any_of m = alt m || (ctrl m || (shift m || (mac_cmd m || command m)))

-- shift_only: shift, and neither alt nor command
unfoldable pub shift_only : ℕ → Bool
shift_only m = shift m && not (alt m || command m)
