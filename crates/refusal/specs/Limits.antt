-- The limits of document 01, one name each. Definitions only.
use Rattle.std.specs.Prelude.{ℕ}

-- how many a table or a list holds ("Maps and sets", and refusals 5 and 6)
abbrev pub layers : ℕ
layers = 64

abbrev pub widgets : ℕ
widgets = 256

abbrev pub cached : ℕ
cached = 256

abbrev pub events : ℕ
events = 64

abbrev pub used : ℕ
used = 256

-- the last code of each kind ("Enums as codes", and refusal 2)
abbrev pub last_order : ℕ
last_order = 4

abbrev pub last_key : ℕ
last_key = 144

abbrev pub last_direction : ℕ
last_direction = 6

abbrev pub last_modifiers : ℕ
last_modifiers = 31

abbrev pub last_pivot : ℕ
last_pivot = 2

abbrev pub last_sense : ℕ
last_sense = 7
