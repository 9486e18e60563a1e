-- Laws of a table with other rows from its beginning on: what it then holds, and a row put in it. Assumes nothing.
use mathlib.Core.Path.{◌≡◌, refl, sym, ap, ◌∙◌}
use mathlib.Core.Bool.{Bool, true, false, cond}
use mathlib.Core.List.{List, [], ◌∷◌, ◌++◌, append_assoc}
use Prim.Native.Nat.{ℕ, zero, suc, ◌+◌, ◌*◌, ◌-◌, ◌/◌, min, ◌≤◌}
use native.Mathlib.Nat.{not-suc-le-zero, le_of_suc-le-suc, zero-add, zero-min, min-zero}
use native.Mathlib.Omega.{arith}
use lib.ListN.{length, take, drop, length-append, length-drop}
use lib.Dec.{leb}
use lib.Seq.{drop-cons, drop-drop, take-append-add, drop-append-add}
use borrow.Author.Tests.{leb-true, leb-false, le-leb, lt-leb}
use Rattle.tables.specs.Tables.{put_at}
use Rattle.layer_rows.specs.declared.Row.{Row}
use Rattle.layer_rows.specs.Rows.{row_in, rows_from, rows_of, held_rows, words_of, flat, rows_on}

-- row k of the rows, or one more after them, is another
abbrev pub placed : ℕ → Row → List Row → List Row
placed k r rows = take k rows ++ r ∷ drop (suc k) rows

-- ---- words and rows
flat_length : (rows : List Row) → length (flat rows) ≡ 8 * length rows
unfolding flat
flat_length [] = refl
flat_length (r ∷ rows) = omega (arith, flat_length rows)

on_nil : (w : List ℕ) → rows_on w [] ≡ w
unfolding rows_on flat
on_nil w = refl

on_cons : (w : List ℕ) (r : Row) (rows : List Row) → rows_on w (r ∷ rows) ≡ words_of r ++ rows_on (drop 8 w) rows
unfolding rows_on flat
on_cons w r rows =
    let e : 8 * suc (length rows) ≡ 8 + 8 * length rows = omega arith in
    rw (e, ← drop-drop (8 * length rows) 8 w)

pub on_length : (w : List ℕ) (rows : List Row) → 8 * length rows ≤ length w → length (rows_on w rows) ≡ length w
unfolding rows_on
on_length w rows h = simp (length-append, length-drop, flat_length) (omega arith)

-- eight words are a row
words_row : (w : List ℕ) → 8 ≤ length w → w ≡ words_of (row_in w 0) ++ drop 8 w
words_row w h = rw (← drop-cons w 7 0 (omega arith), ← drop-cons w 6 0 (omega arith), ← drop-cons w 5 0 (omega arith), ← drop-cons w 4 0 (omega arith), ← drop-cons w 3 0 (omega arith), ← drop-cons w 2 0 (omega arith), ← drop-cons w 1 0 (omega arith), ← drop-cons w 0 0 (omega arith))

on_from : (n : ℕ) (w : List ℕ) → 8 * n ≤ length w → rows_on w (rows_from n w) ≡ w
unfolding rows_from
on_from zero w h = on_nil w
on_from (suc n) w h =
    on_cons w (row_in w 0) (rows_from n (drop 8 w))
    ∙ ap (λ (t : List ℕ). words_of (row_in w 0) ++ t) (on_from n (drop 8 w) (simp length-drop (omega arith)))
    ∙ sym (words_row w (omega arith))

from_on : (rows : List Row) (w : List ℕ) (m : ℕ) → take (length rows) (rows_from (length rows + m) (rows_on w rows)) ≡ rows
unfolding rows_from
from_on [] w m = refl
from_on (r ∷ rows) w m =
    let e : suc (length rows) + m ≡ suc (length rows + m) = omega arith in
    rw (on_cons w r rows, e) (ap (λ (t : List Row). r ∷ t) (from_on rows (drop 8 w) m))

take_from : (k n : ℕ) (w : List ℕ) → take k (rows_from n w) ≡ rows_from (min k n) w
unfolding rows_from
take_from zero n w = rw zero-min
take_from (suc k) zero w = rw min-zero
take_from (suc k) (suc n) w =
    let e : min (suc k) (suc n) ≡ suc (min k n) = omega arith in
    rw e (ap (λ (t : List Row). row_in w 0 ∷ t) (take_from k n (drop 8 w)))

-- ---- the rows that are held are on the table, and rows on a table are held
pub on_held : (count : ℕ) (w : List ℕ) → rows_on w (held_rows count w) ≡ w
unfolding held_rows rows_of
on_held count w = rw (take_from count (length w / 8) w) (on_from (min count (length w / 8)) w (omega arith))

module _ (w : List ℕ) (rows : List Row) (h : 8 * length rows ≤ length w) where
  pub held_on : held_rows (length rows) (rows_on w rows) ≡ rows
  unfolding held_rows rows_of
  held_on =
      let e : length (rows_on w rows) / 8 ≡ length rows + (length w / 8 - length rows) = rw (on_length w rows h) (omega arith) in
      rw e (from_on rows w (length w / 8 - length rows))

-- ---- a row put in a table
put_start : (w : List ℕ) (row : List ℕ) → length row ≤ length w → put_at w 0 row ≡ row ++ drop (length row) w
unfolding put_at
put_start w row h = rw (zero-add (length row), le-leb (length row) (length w) h)

put_after : (a b row : List ℕ) (p : ℕ) → put_at (a ++ b) (length a + p) row ≡ a ++ put_at b p row
unfolding put_at
put_after a b row p = go (leb (p + length row) (length b)) refl
  where
    l : length (a ++ b) ≡ length a + length b
    l = length-append a b

    go : (t : Bool) → leb (p + length row) (length b) ≡ t → cond (leb (length a + p + length row) (length (a ++ b))) (take (length a + p) (a ++ b) ++ row ++ drop (length a + p + length row) (a ++ b)) (a ++ b) ≡ a ++ cond t (take p b ++ row ++ drop (p + length row) b) b
    go true e =
        let q : length a + p + length row ≡ length a + (p + length row) = omega arith in
        rw (le-leb (length a + p + length row) (length (a ++ b)) (omega (arith, l, leb-true (p + length row) (length b) e)), q, take-append-add a b p, drop-append-add a b (p + length row)) (simp append_assoc)
    go false e = rw (lt-leb (length a + p + length row) (length (a ++ b)) (omega (arith, l, leb-false (p + length row) (length b) e)))

pub put_on_lem : (w : List ℕ) (rows : List Row) (k : ℕ) (r : Row) → k ≤ length rows → 8 * length rows ≤ length w → 8 * k + 8 ≤ length w → put_at (rows_on w rows) (8 * k) (words_of r) ≡ rows_on w (placed k r rows)
put_on_lem w [] zero r h l m = rw (on_nil w) (put_start w (words_of r) (omega arith) ∙ sym (on_cons w r [] ∙ ap (λ (t : List ℕ). words_of r ++ t) (on_nil (drop 8 w))))
put_on_lem w [] (suc k) r h l m = absurd (not-suc-le-zero h)
put_on_lem w (x ∷ rows) zero r h l m =
    put_start (rows_on w (x ∷ rows)) (words_of r) (rw (on_length w (x ∷ rows) l) (omega arith))
    ∙ ap (λ (t : List ℕ). words_of r ++ t) (rw (on_cons w x rows)) ∙ sym (on_cons w r rows)
put_on_lem w (x ∷ rows) (suc k) r h l m =
    let e : 8 * suc k ≡ 8 + 8 * k = omega arith in
    rw (on_cons w x rows, e, put_after (words_of x) (rows_on (drop 8 w) rows) (words_of r) (8 * k))
    (ap (λ (t : List ℕ). words_of x ++ t) (put_on_lem (drop 8 w) rows k r (le_of_suc-le-suc h) (simp length-drop (omega arith)) (simp length-drop (omega arith)))
    ∙ sym (on_cons w x (placed k r rows)))

-- ---- rows on a table twice, no fewer the second time
pub on_more : (w : List ℕ) (rows rows' : List Row) → length rows ≤ length rows' → rows_on (rows_on w rows) rows' ≡ rows_on w rows'
unfolding rows_on
on_more w rows rows' h =
    let m = 8 * length rows' - 8 * length rows in
    let e : 8 * length rows' ≡ length (flat rows) + m = omega (arith, flat_length rows) in
    let d : 8 * length rows + m ≡ 8 * length rows' = omega arith in
    ap (λ (t : List ℕ). flat rows' ++ t)
    (ap (λ (n : ℕ). drop n (flat rows ++ drop (8 * length rows) w)) e ∙ drop-append-add (flat rows) (drop (8 * length rows) w) m ∙ drop-drop m (8 * length rows) w ∙ ap (λ (n : ℕ). drop n w) d)

-- as many are held as there is room for
pub held_min : (n count : ℕ) (w : List ℕ) → n ≡ min count (length w / 8) → held_rows n w ≡ held_rows count w
unfolding held_rows rows_of
held_min n count w e =
    let m : min (min count (length w / 8)) (length w / 8) ≡ min count (length w / 8) = omega arith in
    rw (e, take_from (min count (length w / 8)) (length w / 8) w, take_from count (length w / 8) w, m)
