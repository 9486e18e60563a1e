-- Rows of four that are put one behind the other, and read again. Assumes nothing.
use Rattle.std.proofs.Common.{◌≡◌, ℕ, ◌+◌, ◌*◌, ◌/◌, ◌<◌, ◌≤◌, List, [], ◌∷◌, ◌++◌, length, get_or, refl, sym, ap, ◌∙◌, arith, length-append, append-nil, inl, inr}
use Rattle.std.specs.List.{flat_map}
use Rattle.std.proofs.lemmas.Bool.{cases_lt}
use Rattle.std.proofs.lemmas.Grind.{flat_map-append}
use Rattle.std.proofs.lemmas.List.{get_or_append_left, get_or-append-add, take-append-le}
use Rattle.std.proofs.lemmas.List.Concat.{flat_map-cons}
use lib.ListN.{drop_of_length-le}
use borrow.Author.Tests.{lt-leb}
use Rattle.tables.specs.Tables.{put_at, written_on}
use Rattle.tables.proofs.Written.{written_length, row_more}

module _ {A : Type 0} where
  -- a row that has no place changes nothing
  pub no_row : (rows : List A) (i : ℕ) (row : List A) → length row ≡ 4 → length rows / 4 ≤ i → rows ≡ put_at rows (4 * i) row
  unfolding put_at
  no_row rows i row l h = rw (lt-leb (4 * i + length row) (length rows) (omega (arith, l)))

  -- element o of row i, behind the rows before it
  pub row_get : (before row rest : List A) (i o : ℕ) (d : A) → length before ≡ 4 * i → length row ≡ 4 → o < 4 → get_or (before ++ (row ++ rest)) (4 * i + o) d ≡ get_or row o d
  row_get before row rest i o d b l h =
      ap (λ (k : ℕ). get_or (before ++ (row ++ rest)) (k + o) d) (sym b) ∙ get_or-append-add before (row ++ rest) o d ∙ get_or_append_left row rest d o (omega (arith, l))

  -- of a list as long as the array or longer, what comes later is not written
  full : (out list row : List A) → length out ≤ length list → written_on out list ≡ written_on out (list ++ row)
  unfolding written_on
  full out list row h =
      let k : length out ≤ length (list ++ row) = omega (arith, length-append list row) in
      rw (take-append-le (length out) list row h, drop_of_length-le out h, drop_of_length-le out k)

-- entries that are a row each, in an array of n rows
module _ {E A : Type 0} (row : E → List A) (four : (e : E) → length (row e) ≡ 4) where
  pub rows_length : (es : List E) → length (flat_map row es) ≡ 4 * length es
  rows_length [] = refl
  rows_length (e ∷ es) = rw (flat_map-cons row e es, length-append) (omega (arith, four e, rows_length es))

  one_more : (es : List E) (e : E) → flat_map row (es ++ e ∷ []) ≡ flat_map row es ++ row e
  one_more es e = flat_map-append row es (e ∷ []) ∙ ap (λ (r : List A). flat_map row es ++ r) (flat_map-cons row e [] ∙ append-nil (row e))

  -- one more behind the others, where there is room, and else nothing
  pub put_more : (out : List A) (n : ℕ) (es : List E) (e : E) → length out ≡ 4 * n → put_at (written_on out (flat_map row es)) (4 * length es) (row e) ≡ written_on out (flat_map row (es ++ e ∷ []))
  put_more out n es e l =
      let list = flat_map row es in
      let k : length list ≡ 4 * length es = rows_length es in
      let r : length (row e) ≡ 4 = four e in
      rw (one_more es e)
      (elim (cases_lt (length es) n) [
        | inl lt ↦ ap (λ (at : ℕ). put_at (written_on out list) at (row e)) (sym k) ∙ row_more out list (row e) (omega arith)
        | inr le ↦ sym (no_row (written_on out list) (length es) (row e) r (rw (written_length out list) (omega arith))) ∙ full out list (row e) (omega arith)
      ])
