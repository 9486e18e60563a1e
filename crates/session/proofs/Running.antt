-- The loop over a session's lines: what is told and what is still to be told are the answers to the whole. Assumes nothing.
use Rattle.std.proofs.Common.{◌≡◌, ℕ, ◌+◌, ◌*◌, ◌<◌, ◌≤◌, List, [], ◌∷◌, ◌++◌, length, refl, sym, ap, ◌∙◌, append_assoc, append-nil, arith, length-append}
use Rattle.std.proofs.lemmas.List.{nil_from_length}
use Rattle.std.proofs.lemmas.Grind.{flat_map-append}
use Rattle.std.proofs.lemmas.List.Concat.{flat_map-cons}
use Rattle.std.specs.Prelude.{codes}
use Rattle.std.specs.List.{flat_map}
use borrow.Author.Tests.{le-ltb, lt-ltb}
use Rattle.tables.specs.Tables.{written_on}
use Rattle.text.specs.Put.{place_after, put_on}
use Rattle.memory_rules.specs.declared.Memory.{Memory}
use Rattle.memory_rules.specs.State.{new_memory}
use Rattle.forms.specs.Read.{form_of}
use Rattle.session.specs.declared.runner.Answer.{Answer}
use Rattle.session.specs.declared.runner.Answer.TheVariants.{Ok, NoForm, No, Layer, Id, None}
use Rattle.session.specs.Session.{Step, step_by, lines_of, answers_from, answers_to}
use Rattle.session.specs.Output.{line_of, lines_of_answers, said, number, output_of, fitting, filled_by}
use Rattle.session.specs.Runs.{Cuts}
use Rattle.session.proofs.Printing.{digits_few}
use Rattle.session.proofs.Filling.{nothing_filled, one_filled}

-- ---- no line is longer than 48 bytes
pub said_length : (word numbers : List ℕ) → length (said word numbers) ≡ length word + (length (flat_map number numbers) + 1)
unfolding said
said_length word numbers = length-append word (flat_map number numbers ++ codes "\n") ∙ ap (λ (n : ℕ). length word + n) (length-append (flat_map number numbers) (codes "\n"))

pub one_number : (n : ℕ) → length (flat_map number (n ∷ [])) ≤ 21
one_number n = omega (arith, ap length (flat_map-cons number n []), length-append (number n) [], digits_few 20 n)

two_numbers : (m n : ℕ) → length (flat_map number (m ∷ n ∷ [])) ≤ 42
two_numbers m n = omega (arith, ap length (flat_map-cons number m (n ∷ [])), length-append (number m) (flat_map number (n ∷ [])), digits_few 20 m, one_number n)

pub line_short : (a : Answer) → length (line_of a) ≤ 48
line_short Ok = omega (arith, said_length (codes "ok") [])
line_short NoForm = omega (arith, said_length (codes "no") (10 ∷ []), one_number 10)
line_short (No n) = omega (arith, said_length (codes "no") (n ∷ []), one_number n)
line_short (Layer l) = omega (arith, said_length (codes "layer") (l.order ∷ l.id ∷ []), two_numbers l.order l.id)
line_short (Id id) = omega (arith, said_length (codes "id") (id ∷ []), one_number id)
line_short None = omega (arith, said_length (codes "none") [])

-- ---- the loop
pub record Running (input before : List ℕ) (m : Memory) (rest now : List ℕ) (at i : ℕ) : Type 0 where
  pub told : List Answer
  pub answers : told ++ answers_from m (lines_of rest) ≡ answers_from new_memory (lines_of input)
  pub place : at ≡ length (lines_of_answers told)
  pub filled : now ≡ written_on before (fitting (length before) told)
  pub left : length rest + i ≤ length input
  pub bound : at ≤ 48 * i

pub runs_start : (input before : List ℕ) → Running input before new_memory input before 0 0
runs_start input before = record { told = []; answers = refl; place = refl; filled = nothing_filled before; left = omega arith; bound = omega arith }

module _ (input before : List ℕ) (short : length input ≤ 65536) where
  module _ (m : Memory) (rest now : List ℕ) (at i : ℕ) (r : Running input before m rest now at i) where
    pub runs_line : (line next : List ℕ) → Cuts rest line next → (after : Memory) (a : Answer) → ◌≡◌ {A = Step} (record { memory = after; answer = a }) (step_by m (form_of line)) → (to : ℕ) (then : List ℕ) → (to ≡ place_after at (line_of a)) × (then ≡ put_on now at (line_of a)) → Running input before after next then to (i + 1)
    unfolding answers_from
    runs_line line next c after a e to then p =
        let n = line_short a in
        let more : lines_of_answers (r.told ++ a ∷ []) ≡ lines_of_answers r.told ++ line_of a = flat_map-append line_of r.told (a ∷ []) ∙ ap (λ (l : List ℕ). lines_of_answers r.told ++ l) (flat_map-cons line_of a [] ∙ append-nil (line_of a)) in
        let whole : to ≡ at + length (line_of a) = omega (arith, p.0, n, r.bound, r.left) in
        record {
          told = r.told ++ a ∷ [];
          answers =
              append_assoc r.told (a ∷ []) (answers_from after (lines_of next))
              ∙ ap (λ (s : Step). r.told ++ (s.answer ∷ answers_from s.memory (lines_of next))) e
              ∙ ap (λ (l : List (List ℕ)). r.told ++ answers_from m l) (sym c.lines) ∙ r.answers;
          place = whole ∙ ap (λ (k : ℕ). k + length (line_of a)) r.place ∙ sym (ap length more ∙ length-append (lines_of_answers r.told) (line_of a));
          filled = p.1 ∙ ap (λ (k : ℕ). put_on now k (line_of a)) r.place ∙ one_filled before now r.told a r.filled;
          left = omega (arith, c.less, r.left);
          bound = omega (arith, n, r.bound, whole);
        }

    pub runs_end : length rest ≡ 0 → (at ≡ length (output_of input)) × (now ≡ filled_by input before)
    unfolding output_of filled_by answers_to lines_of answers_from
    runs_end z =
        let e : r.told ≡ answers_from new_memory (lines_of input) = sym (append-nil r.told) ∙ ap (λ (s : List ℕ). r.told ++ answers_from m (lines_of s)) (sym (nil_from_length rest z)) ∙ r.answers in
        rw (le-ltb 65536 (length input) short, ← e) (r.place, r.filled)

-- ---- a session that is too long
pub too_long : (input before : List ℕ) → 65536 < length input → (to : ℕ) (now : List ℕ) → (to ≡ place_after 0 (line_of (No 5))) × (now ≡ put_on before 0 (line_of (No 5))) → (to ≡ length (output_of input)) × (now ≡ filled_by input before)
unfolding output_of filled_by answers_to
too_long input before h to now p =
    let n = line_short (No 5) in
    let one : lines_of_answers (No 5 ∷ []) ≡ line_of (No 5) = flat_map-cons line_of (No 5) [] ∙ append-nil (line_of (No 5)) in
    rw (lt-ltb 65536 (length input) h, one) (omega (arith, p.0, n), p.1 ∙ one_filled before before [] (No 5) (nothing_filled before))
