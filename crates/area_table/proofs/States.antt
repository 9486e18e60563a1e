-- A state that was put in a row reads back as itself, and no other row is changed. Assumes nothing.
use mathlib.Core.Path.{◌≡◌, refl, sym, ◌∙◌}
use mathlib.Core.Bool.{Bool, true, false, not, cond}
use Rattle.std.specs.Bool.{then_some}
use mathlib.Core.List.{List, append-nil}
use Prim.Native.Nat.{ℕ, ◌+◌, ◌*◌, ◌<◌, ◌≤◌}
use native.Mathlib.Nat.{zero-add, add-zero}
use native.Mathlib.Omega.{arith}
use lib.Dec.{eqb}
use lib.Ieee.{Float, nan}
use lib.ListN.{length, get_or, set, drop_of_length-le}
use lib.Seq.{get_or-set_same, get_or-set_other}
use borrow.Author.Tests.{le-leb, lt-ltb}
use Rattle.tables.specs.Tables.{put_at, row_at}
use Rattle.tables.proofs.Rows.{row_length, row_get, put_row_same, put_row_other}
use Rattle.std.specs.Prelude.{Option, None, Some}
use Rattle.emath.specs.declared.Vec2.{Vec2}
use Rattle.area.specs.declared.AreaState.{AreaState}
use Rattle.area.specs.declared.PivotPos.{PivotPos}
use Rattle.area_table.specs.Table.{Table, table_in, Entry, word, pivot_pos_in, size_in, state_in, positioned, sized, codes_of, floats_of, room_of, put_in}
use Rattle.area_table.proofs.Places.{row_fits}

-- ---- a row that is put whole
module _ {A : Type 0} where
  put_whole : (xs row : List A) → length xs ≡ length row → put_at xs 0 row ≡ row
  unfolding put_at
  put_whole xs row e =
      let h : length xs ≤ length row = omega arith in
      rw (zero-add (length row), le-leb (length row) (length xs) (omega arith), drop_of_length-le xs h) (append-nil row)

  put_here : (s k : ℕ) (xs row : List A) → length row ≡ s → s * k + s ≤ length xs → row_at s k (put_at xs (s * k) row) ≡ row
  put_here s k xs row e h = rw add-zero at (put_row_same s k 0 xs row (omega arith) h) ∙ put_whole (row_at s k xs) row (row_length s k xs h ∙ sym e)

  put_there : (s j k : ℕ) (xs row : List A) → (j ≡ k → ⊥) → length row ≡ s → s * k + s ≤ length xs → row_at s j (put_at xs (s * k) row) ≡ row_at s j xs
  put_there s j k xs row n e h = rw add-zero at (put_row_other s j k 0 xs row n (omega arith) h)

-- a size that is read by its flag
pub sized_some : (held : ℕ) (x y : Float) → then_some {T = Vec2} (not (eqb held 0)) (record { x = x; y = y }) ≡ size_in held x y
sized_some held x y = go (eqb held 0)
  where
    go : (t : Bool) → then_some {T = Vec2} (not t) (record { x = x; y = y }) ≡ cond t None (Some (record { x = x; y = y }))
    go true = refl
    go false = refl

-- ---- a state is read from its row only
module _ (codes : List ℕ) (floats : List Float) (k : ℕ) where
  code : (p o : ℕ) → o < 5 → p ≡ 5 * k + o → get_or codes p 0 ≡ get_or (row_at 5 k codes) o 0
  code p o h e = rw e (sym (row_get 5 k o codes 0 h))

  float : (p o : ℕ) → o < 4 → p ≡ 4 * k + o → get_or floats p nan ≡ get_or (row_at 4 k floats) o nan
  float p o h e = rw e (sym (row_get 4 k o floats nan h))

  state_row : state_in codes floats k ≡ state_in (row_at 5 k codes) (row_at 4 k floats) 0
  unfolding state_in
  state_row = λ i. record {
    pivot_pos = pivot_pos_in (code (5 * k) 0 (omega arith) (omega arith) i) (float (4 * k) 0 (omega arith) (omega arith) i) (float (4 * k + 1) 1 (omega arith) refl i);
    pivot = record { x = code (5 * k + 1) 1 (omega arith) refl i; y = code (5 * k + 2) 2 (omega arith) refl i };
    size = size_in (code (5 * k + 3) 3 (omega arith) refl i) (float (4 * k + 2) 2 (omega arith) refl i) (float (4 * k + 3) 3 (omega arith) refl i);
    interactable = not (eqb (code (5 * k + 4) 4 (omega arith) refl i) 0);
  }

-- ---- a state's numbers are read as the state
read_pivot_pos : (p : PivotPos) → pivot_pos_in (positioned p).held (positioned p).x (positioned p).y ≡ p
read_pivot_pos PivotPos.Absent = refl
read_pivot_pos (PivotPos.At x y) = refl

read_size : (s : Option Vec2) → size_in (sized s).held (sized s).x (sized s).y ≡ s
read_size None = refl
read_size (Some v) = refl

read_word : (b : Bool) → not (eqb (word b) 0) ≡ b
read_word true = refl
read_word false = refl

read_back : (s : AreaState) → state_in (codes_of s) (floats_of s) 0 ≡ s
unfolding state_in
read_back s = λ i. record { pivot_pos = read_pivot_pos s.pivot_pos i; pivot = s.pivot; size = read_size s.size i; interactable = read_word s.interactable i }

-- ---- row k of a table as an entry, after an id and its state were put in a row
abbrev pub entry_at : Table → ℕ → Entry
entry_at t k = record { id = get_or t.ids k 0; state = state_in t.codes t.floats k }

module _ (t : Table) (k id : ℕ) (s : AreaState) where
  abbrev pub with_row : Table
  with_row = table_in (set t.ids k id) (put_at t.codes (5 * k) (codes_of s)) (put_at t.floats (4 * k) (floats_of s))

  module _ (h : k < room_of t) where
    fits : (k < length t.ids) × (5 * k + 5 ≤ length t.codes) × (4 * k + 4 ≤ length t.floats)
    fits = row_fits t k (room_of t) h refl

    put_is : put_in t k id s ≡ with_row
    unfolding put_in
    put_is = rw (lt-ltb k (room_of t) h)

    state_here : state_in with_row.codes with_row.floats k ≡ s
    state_here = state_row with_row.codes with_row.floats k ∙ (λ i. state_in (put_here 5 k t.codes (codes_of s) refl fits.1 i) (put_here 4 k t.floats (floats_of s) refl fits.2 i) 0) ∙ read_back s

    pub entry_here : entry_at (put_in t k id s) k ≡ record { id = id; state = s }
    entry_here = rw put_is (λ i. record { id = get_or-set_same t.ids k id 0 fits.0 i; state = state_here i })

    module _ (j : ℕ) (n : j ≡ k → ⊥) where
      state_there : state_in with_row.codes with_row.floats j ≡ state_in t.codes t.floats j
      state_there =
          state_row with_row.codes with_row.floats j
          ∙ (λ i. state_in (put_there 5 j k t.codes (codes_of s) n refl fits.1 i) (put_there 4 j k t.floats (floats_of s) n refl fits.2 i) 0)
          ∙ sym (state_row t.codes t.floats j)

      pub entry_there : entry_at (put_in t k id s) j ≡ entry_at t j
      entry_there = rw put_is (λ i. record { id = get_or-set_other t.ids k j id 0 n i; state = state_there i })
