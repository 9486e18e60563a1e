-- How the answers are written, a line each, from document 01, "The pass program"; and what of them a buffer gets. Definitions only.
use Rattle.std.specs.Prelude.{ℕ, ◌-◌, cond, List, [], ◌∷◌, ◌++◌, leb, length, codes}
use Rattle.std.specs.List.{flat_map}
use Rattle.text.specs.Put.{decimal_of}
use Rattle.tables.specs.Tables.{written_on}
use Rattle.session.specs.declared.runner.Answer.{Answer}
use Rattle.session.specs.declared.runner.Answer.TheVariants.{Ok, NoForm, No, Layer, Id, None}
use Rattle.session.specs.Session.{answers_to}

-- a space and a number
abbrev pub number : ℕ → List ℕ
number n = codes " " ++ decimal_of n

-- a word, so many such numbers, and the end of the line
unfoldable pub said : List ℕ → List ℕ → List ℕ
said word numbers = word ++ (flat_map number numbers ++ codes "\n")

-- the number of a line that is no form
abbrev pub no_form : ℕ
no_form = 10

abbrev pub line_of : Answer → List ℕ
line_of Ok = said (codes "ok") []
line_of NoForm = said (codes "no") (no_form ∷ [])
line_of (No n) = said (codes "no") (n ∷ [])
line_of (Layer l) = said (codes "layer") (l.order ∷ l.id ∷ [])
line_of (Id id) = said (codes "id") (id ∷ [])
line_of None = said (codes "none") []

abbrev pub lines_of_answers : List Answer → List ℕ
lines_of_answers answers = flat_map line_of answers

unfoldable pub output_of : List ℕ → List ℕ
output_of input = lines_of_answers (answers_to input)

-- the lines that fit whole into so many bytes, up to the first that does not
unfoldable pub fitting : ℕ → List Answer → List ℕ
fitting room [] = []
fitting room (a ∷ answers) = cond (leb (length (line_of a)) room) (line_of a ++ fitting (room - length (line_of a)) answers) []

-- a buffer after a session: those lines at its start, and the rest as it was
unfoldable pub filled_by : List ℕ → List ℕ → List ℕ
filled_by input out = written_on out (fitting (length out) (answers_to input))
