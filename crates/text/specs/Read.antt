-- Words and numbers at a place of a line of bytes, from ../shared/REPLAY.md, "Words". Definitions only.
use Rattle.std.specs.Prelude.{ℕ, suc, ◌+◌, ◌-◌, ◌*◌, Bool, true, false, not, ◌&&◌, cond, List, [], ◌∷◌, leb, eqb, length, drop, Option, None, Some}

abbrev pub is_digit : ℕ → Bool
is_digit b = leb 48 b && leb b 57

-- the digits at the front of the bytes, as many as stand there
unfoldable pub digits_of : List ℕ → List ℕ
digits_of [] = []
digits_of (b ∷ bs) = cond (is_digit b) (b ∷ digits_of bs) []

-- what digits are worth after others that are worth v
unfoldable pub worth : ℕ → List ℕ → ℕ
worth v [] = v
worth v (b ∷ bs) = worth (v * 10 + (b - 48)) bs

-- at least one digit, and no 0 before others
unfoldable pub well_written : List ℕ → Bool
well_written [] = false
well_written (b ∷ []) = true
well_written (b ∷ c ∷ bs) = not (eqb b 48)

-- the value of the digits that stand at a place, up to 2^64 - 1, and the place after them
unfoldable pub value_at : ℕ → List ℕ → Option (ℕ × ℕ)
value_at at ds = cond (leb (worth 0 ds) 18446744073709551615) (Some (worth 0 ds, at + length ds)) None

-- a number: all the digits at the place, well written; `01` is none
unfoldable pub number_at : List ℕ → ℕ → Option (ℕ × ℕ)
number_at s at = cond (well_written (digits_of (drop at s))) (value_at at (digits_of (drop at s))) None

-- whether the bytes of a word stand at the front of others
unfoldable pub opens : List ℕ → List ℕ → Bool
opens [] s = true
opens (b ∷ w) [] = false
opens (b ∷ w) (c ∷ s) = eqb c b && opens w s

-- the place after a word, and after a single byte
unfoldable pub word_at : List ℕ → ℕ → List ℕ → Option ℕ
word_at s at w = cond (opens w (drop at s)) (Some (at + length w)) None

abbrev pub skip_at : List ℕ → ℕ → ℕ → Option ℕ
skip_at s at b = word_at s at (b ∷ [])

-- a number at a place, where there is one
abbrev pub number_from : List ℕ → Option ℕ → Option (ℕ × ℕ)
number_from s (Some i) = number_at s i
number_from s None = None

-- a space, and a number
abbrev pub argument_at : List ℕ → ℕ → Option (ℕ × ℕ)
argument_at s at = number_from s (skip_at s at 32)

-- how many bytes stand before the first b, or before the end
unfoldable pub length_before : ℕ → List ℕ → ℕ
length_before b [] = 0
length_before b (c ∷ s) = cond (eqb c b) 0 (suc (length_before b s))

abbrev pub find_from : List ℕ → ℕ → ℕ → ℕ
find_from s at b = at + length_before b (drop at s)
