-- The answers to a session are no longer than six bytes for each of its bytes. Assumes nothing.
use Rattle.std.proofs.Common.{◌≡◌, ℕ, suc, ◌+◌, ◌*◌, ◌/◌, ◌%◌, ◌<◌, ◌≤◌, Bool, true, false, cond, eqb, ltb, max, List, [], ◌∷◌, ◌++◌, length, map, Option, Some, None, refl, ap, arith, length-append, inl, inr}
use Rattle.std.proofs.lemmas.Bool.{cases_lt}
use Rattle.std.specs.Prelude.{codes}
use borrow.Author.Tests.{le-ltb, lt-ltb}
use Rattle.tables.specs.Tables.{written_on}
use Rattle.text.specs.Put.{decimal_in, decimal_of}
use Rattle.memory_rules.specs.declared.Memory.{Memory}
use Rattle.memory_rules.specs.State.{nav_of, new_memory}
use Rattle.memory_rules.specs.Calls.{Call, done_by}
use Rattle.memory_rules.specs.Calls as calls
use Rattle.forms.specs.declared.Spot.{Spot}
use Rattle.forms.specs.Form.{Form, Begin, Want, Area, Top, Sub, Modal, End, Hit, Focus, coordinate, spot, written}
use Rattle.forms.specs.Read.{form_of}
use Rattle.forms.proofs.Forms.{form_takes}
use Rattle.forms.proofs.Shortest.{shortest}
use Rattle.requests.specs.Asked.{event_of, state_of, child_of, candidate_of}
use Rattle.session.specs.declared.runner.Answer.TheVariants as answers
use Rattle.session.specs.Session.{answer_by, called, step, step_by, onto, lines_of, answers_from, answers_to}
use Rattle.session.specs.Output.{line_of, lines_of_answers, said, output_of, filled_by}
use Rattle.session.proofs.Running.{said_length, one_number, line_short}
use Rattle.session.proofs.Filling.{total_cons, all_fit}

-- ---- the answer to a form: of a call and of `focus` one number, of a hit two
one_number_short : (word : List ℕ) (n : ℕ) → length word ≤ 2 → length (said word (n ∷ [])) ≤ 24
one_number_short word n h = omega (arith, said_length word (n ∷ []), one_number n)

word_short : (word : List ℕ) → length word ≤ 4 → length (said word []) ≤ 24
word_short word h = omega (arith, said_length word [])

called_short : (refusal : ℕ) → length (line_of (answer_by refusal)) ≤ 24
called_short refusal = go (eqb refusal 0)
  where
    go : (t : Bool) → length (line_of (cond t answers.Ok (answers.No refusal))) ≤ 24
    go true = word_short (codes "ok") (omega arith)
    go false = one_number_short (codes "no") refusal (omega arith)

call_short : (m : Memory) (call : Call) → length (line_of (called m call).answer) ≤ 24
call_short m call = called_short (done_by call m).refusal

focus_short : (id : ℕ) → length (line_of (cond (eqb id 0) answers.None (answers.Id id))) ≤ 24
focus_short id = go (eqb id 0)
  where
    go : (t : Bool) → length (line_of (cond t answers.None (answers.Id id))) ≤ 24
    go true = word_short (codes "none") (omega arith)
    go false = one_number_short (codes "id") id (omega arith)

some_digit : (n : ℕ) → 0 < length (decimal_of n)
unfolding decimal_in
some_digit n = go (ltb n 10)
  where
    go : (t : Bool) → 0 < length (cond t ((48 + n) ∷ []) (decimal_in 19 (n / 10) ++ ((48 + n % 10) ∷ [])))
    go true = omega arith
    go false = omega (arith, length-append (decimal_in 19 (n / 10)) ((48 + n % 10) ∷ []))

hit_long : (at : Spot) → 8 ≤ length (written (Hit at))
hit_long at =
    let x = length-append (cond at.x.below (codes "-") []) (decimal_of at.x.steps) in
    let both = length-append (coordinate at.x) (coordinate at.y) in
    omega (arith, x, some_digit at.x.steps, both, length-append (spot at) (codes ")"))

answer_short : (m : Memory) (line : List ℕ) (f : Form) → form_of line ≡ Some f → length (line_of (step m f).answer) ≤ 6 * length line
unfolding step
answer_short m line (Begin es) e = omega (arith, call_short m (calls.Begin (map event_of es)), shortest line (Begin es) e)
answer_short m line (Want l id) e = omega (arith, call_short m (calls.Interest id l), shortest line (Want l id) e)
answer_short m line (Area l at size) e = omega (arith, call_short m (calls.SetState l (state_of at size)), shortest line (Area l at size) e)
answer_short m line (Top l) e = omega (arith, call_short m (calls.MoveToTop l), shortest line (Top l) e)
answer_short m line (Sub l id) e = omega (arith, call_short m (calls.SetSublayer l (child_of l id)), shortest line (Sub l id) e)
answer_short m line (Modal l) e = omega (arith, call_short m (calls.SetModalLayer l), shortest line (Modal l) e)
answer_short m line (End ps) e = omega (arith, call_short m (calls.End (map candidate_of ps)), shortest line (End ps) e)
answer_short m line (Hit at) e = omega (arith, line_short (step m (Hit at)).answer, hit_long at, ap length (form_takes line (Hit at) e).0)
answer_short m line Focus e = omega (arith, focus_short (nav_of m).focused, shortest line Focus e)

-- ---- a line: with its end it is at least one byte
abbrev weight : List ℕ → ℕ
weight line = max 1 (length line)

no_form_length : length (line_of answers.NoForm) ≡ 6
unfolding said decimal_in
no_form_length = refl

line_fits : (m : Memory) (line : List ℕ) (o : Option Form) → form_of line ≡ o → length (line_of (step_by m o).answer) ≤ 6 * weight line
line_fits m line (Some f) e = omega (arith, answer_short m line f e)
line_fits m line None e = omega (arith, no_form_length)

abbrev weights : List (List ℕ) → ℕ
weights [] = 0
weights (line ∷ lines) = weight line + weights lines

onto_weighs : (b : ℕ) (lines : List (List ℕ)) → weights (onto b lines) ≤ suc (weights lines)
onto_weighs b [] = omega arith
onto_weighs b (line ∷ lines) = omega arith

lines_weigh : (s : List ℕ) → weights (lines_of s) ≤ length s
unfolding lines_of
lines_weigh [] = omega arith
lines_weigh (b ∷ s) = go (eqb b 10) (lines_weigh s)
  where
    go : (t : Bool) → weights (lines_of s) ≤ length s → weights (cond t ([] ∷ lines_of s) (onto b (lines_of s))) ≤ suc (length s)
    go true h = omega arith
    go false h = omega (arith, h, onto_weighs b (lines_of s))

answers_weigh : (m : Memory) (lines : List (List ℕ)) → length (lines_of_answers (answers_from m lines)) ≤ 6 * weights lines
unfolding answers_from
answers_weigh m [] = omega arith
answers_weigh m (line ∷ lines) =
    let s = step_by m (form_of line) in
    omega (arith, total_cons s.answer (answers_from s.memory lines), line_fits m line (form_of line) refl, answers_weigh s.memory lines)

output_fits : (input : List ℕ) → length (output_of input) ≤ 6 * 65536
unfolding output_of answers_to
output_fits input =
    elim (cases_lt 65536 (length input)) [
      | inl h ↦ rw (lt-ltb 65536 (length input) h) (omega (arith, total_cons (answers.No 5) [], called_short 5))
      | inr h ↦ rw (le-ltb 65536 (length input) h) (omega (arith, answers_weigh new_memory (lines_of input), lines_weigh input))
    ]

pub all_written : (input out : List ℕ) → 6 * 65536 ≤ length out → (length (output_of input) ≤ 6 * 65536) × (filled_by input out ≡ written_on out (output_of input))
unfolding filled_by output_of
all_written input out h = (output_fits input, ap (written_on out) (all_fit (answers_to input) (length out) (omega (arith, h, output_fits input))))
