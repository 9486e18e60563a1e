-- The events that begin a pass, as the numbers that a caller lends: four for each (src/lib.rt has the table). Definitions only.
use Rattle.std.specs.Prelude.{ℕ, zero, suc, ◌+◌, ◌*◌, ◌/◌, ◌%◌, cond, List, [], ◌∷◌, eqb, length, get_or}
use Rattle.input.specs.declared.Event.{Event}
use Rattle.input.specs.declared.Event.TheVariants.{Key, AccessKitFocus, Other}

-- a code that is missing is past the last of every kind, and an id that is missing is none
abbrev pub missing : ℕ
missing = 18446744073709551615

unfoldable pub event_of : ℕ → ℕ → ℕ → ℕ → ℕ → Event
event_of kind code id flags modifiers = cond (eqb kind 1) (Key code (eqb (flags % 2) 1) (eqb (flags / 2 % 2) 1) modifiers) (cond (eqb kind 2) (AccessKitFocus id) Other)

unfoldable pub event_at : List ℕ → ℕ → Event
event_at words at = event_of (get_or words at 0) (get_or words (at + 1) missing) (get_or words (at + 1) 0) (get_or words (at + 2) 0) (get_or words (at + 3) missing)

unfoldable pub events_from : List ℕ → ℕ → ℕ → List Event
events_from words i zero = []
events_from words i (suc n) = event_at words (4 * i) ∷ events_from words (suc i) n

-- one that is not whole counts
unfoldable pub count_in : List ℕ → ℕ
count_in words = length words / 4 + cond (eqb (length words % 4) 0) 0 1

unfoldable pub events_in : List ℕ → List Event
events_in words = events_from words 0 (count_in words)
