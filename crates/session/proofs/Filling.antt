-- A buffer that gets the answers' lines one after the other: those that fit whole, up to the first that does not. Assumes nothing.
use Rattle.std.proofs.Common.{◌≡◌, ℕ, ◌+◌, ◌-◌, ◌<◌, ◌≤◌, cond, leb, List, [], ◌∷◌, ◌++◌, length, refl, sym, ap, ◌∙◌, append_assoc, append-nil, arith, length-append, ◌⊎◌, inl, inr}
use Rattle.std.proofs.lemmas.Bool.{cases_lt}
use Rattle.std.proofs.lemmas.List.Concat.{flat_map-cons}
use borrow.Author.Tests.{le-leb, lt-leb}
use lib.Seq.{take-nil}
use Rattle.tables.specs.Tables.{put_at, written_on}
use Rattle.tables.proofs.Written.{written_length, row_more}
use Rattle.text.specs.Put.{put_on}
use Rattle.session.specs.declared.runner.Answer.{Answer}
use Rattle.session.specs.Output.{line_of, lines_of_answers, fitting}

cases_le : (a b : ℕ) → (a ≤ b) ⊎ (b < a)
cases_le a b = elim (cases_lt b a) [
  | inl h ↦ inr h
  | inr h ↦ inl h
]

pub total_cons : (a : Answer) (told : List Answer) → length (lines_of_answers (a ∷ told)) ≡ length (line_of a) + length (lines_of_answers told)
total_cons a told = ap length (flat_map-cons line_of a told) ∙ length-append (line_of a) (lines_of_answers told)

-- where there is room for all of them, all are written
pub all_fit : (told : List Answer) (room : ℕ) → length (lines_of_answers told) ≤ room → fitting room told ≡ lines_of_answers told
unfolding fitting
all_fit [] room h = refl
all_fit (a ∷ told) room h =
    let t = total_cons a told in
    rw (le-leb (length (line_of a)) room (omega (arith, t)), all_fit told (room - length (line_of a)) (omega (arith, t))) (sym (flat_map-cons line_of a told))

-- one more
one_more : (told : List Answer) (room : ℕ) (a : Answer) → fitting room (told ++ a ∷ []) ≡ cond (leb (length (lines_of_answers told) + length (line_of a)) room) (fitting room told ++ line_of a) (fitting room told)
unfolding fitting
one_more [] room a =
    elim (cases_le (length (line_of a)) room) [
      | inl h ↦
          let z : 0 + length (line_of a) ≤ room = omega arith in
          rw (le-leb (length (line_of a)) room h, le-leb (0 + length (line_of a)) room z) (append-nil (line_of a))
      | inr h ↦
          let z : room < 0 + length (line_of a) = omega arith in
          rw (lt-leb (length (line_of a)) room h, lt-leb (0 + length (line_of a)) room z) refl
    ]
one_more (d ∷ told) room a = go (cases_le (length (line_of d)) room) (one_more told (room - length (line_of d)) a)
  where
    n : ℕ
    n = length (line_of d)

    m : ℕ
    m = length (lines_of_answers told) + length (line_of a)

    F : List ℕ
    F = fitting (room - n) told

    go : (n ≤ room) ⊎ (room < n) → fitting (room - n) (told ++ a ∷ []) ≡ cond (leb m (room - n)) (F ++ line_of a) F
        → cond (leb n room) (line_of d ++ fitting (room - n) (told ++ a ∷ [])) [] ≡ cond (leb (length (lines_of_answers (d ∷ told)) + length (line_of a)) room) (cond (leb n room) (line_of d ++ F) [] ++ line_of a) (cond (leb n room) (line_of d ++ F) [])
    go (inl h) e =
        let t = total_cons d told in
        elim (cases_le m (room - n)) [
          | inl k ↦ rw (le-leb n room h, le-leb (length (lines_of_answers (d ∷ told)) + length (line_of a)) room (omega (arith, t))) (ap (λ (l : List ℕ). line_of d ++ l) (e ∙ rw (le-leb m (room - n) k) refl) ∙ sym (append_assoc (line_of d) F (line_of a)))
          | inr k ↦ rw (le-leb n room h, lt-leb (length (lines_of_answers (d ∷ told)) + length (line_of a)) room (omega (arith, t))) (ap (λ (l : List ℕ). line_of d ++ l) (e ∙ rw (lt-leb m (room - n) k) refl))
        ]
    go (inr h) e =
        let t = total_cons d told in
        rw (lt-leb n room h, lt-leb (length (lines_of_answers (d ∷ told)) + length (line_of a)) room (omega (arith, t))) refl

pub nothing_filled : (before : List ℕ) → before ≡ written_on before (fitting (length before) [])
unfolding fitting written_on
nothing_filled before = rw (take-nil (length before)) refl

-- a line put behind the others
pub one_filled : (before now : List ℕ) (told : List Answer) (a : Answer) → now ≡ written_on before (fitting (length before) told) → put_on now (length (lines_of_answers told)) (line_of a) ≡ written_on before (fitting (length before) (told ++ a ∷ []))
unfolding put_on put_at
one_filled before now told a h =
    let room = length before in
    let n = length (lines_of_answers told) in
    let k = length (line_of a) in
    let l : length now ≡ room = ap length h ∙ written_length before (fitting room told) in
    elim (cases_le (n + k) room) [
      | inl f ↦
          let e : fitting room told ≡ lines_of_answers told = all_fit told room (omega arith) in
          let w : now ≡ written_on before (lines_of_answers told) = h ∙ ap (written_on before) e in
          ap (λ (x : List ℕ). put_at x n (line_of a)) w ∙ row_more before (lines_of_answers told) (line_of a) f
          ∙ ap (written_on before) (sym (one_more told room a ∙ rw (le-leb (n + k) room f, e) refl))
      | inr f ↦ rw (l, lt-leb (n + k) room f) (h ∙ ap (written_on before) (sym (one_more told room a ∙ rw (lt-leb (n + k) room f) refl)))
    ]
