-- What the changes of a table do to its rows: another record in a half of one, and a widget after them. Assumes nothing.
use mathlib.Core.Path.{◌≡◌, refl, sym, ap, ◌∙◌}
use Prim.Native.Nat.{ℕ, suc, ◌+◌, ◌*◌, ◌<◌, ◌≤◌}
use native.Mathlib.Omega.{arith}
use mathlib.Core.List.{List, [], ◌∷◌, ◌++◌}
use lib.Ieee.{nan}
use lib.ListN.{length, get_or, set, length-set}
use lib.Seq.{get_or-set_same, get_or-set_other}
use Rattle.widget_rect.specs.declared.WidgetRect.{WidgetRect}
use Rattle.tables.specs.Tables.{row_at, put_at}
use Rattle.tables.proofs.Rows.{row_length, put_length, put_row_same, put_row_other}
use Rattle.widget_rows.specs.Rows.{Rows, rows_in, record_at, next_index, room_of}
use Rattle.widget_table.specs.Table.{look_of, edges_of, put_half, push_words, push_rects, push_of}
use Rattle.widget_maps.proofs.Row.{Row, row_of, rows_to, new_row, next_from}
use Rattle.widget_maps.proofs.Listing.{rows_same, but_one, next_rows}
use Rattle.widget_maps.proofs.Alone.{alone, record_alone, row_alone, same_row, apart, is_apart, Same, with_half, new_words, new_edges, half_one, new_one}

-- ---- room for n rows, and tables with the same room
pub record Fits (t : Rows) (n : ℕ) : Type 0 where
  pub ids : n ≤ length t.ids
  pub words : 10 * n ≤ length t.words
  pub rects : 16 * n ≤ length t.rects

pub record Alike (t' t : Rows) : Type 0 where
  pub ids : length t'.ids ≡ length t.ids
  pub words : length t'.words ≡ length t.words
  pub rects : length t'.rects ≡ length t.rects

pub room_fits : {t : Rows} {n : ℕ} → n ≤ room_of t → Fits t n
unfolding room_of
room_fits {t} h = record { ids = omega arith; words = omega arith; rects = omega arith }

pub same_room : {t' t : Rows} → Alike t' t → room_of t' ≡ room_of t
unfolding room_of
same_room a = rw (a.ids, a.words, a.rects)

pub alike_via : {t₁ t₂ t₃ : Rows} → Alike t₁ t₂ → Alike t₂ t₃ → Alike t₁ t₃
alike_via a b = record { ids = a.ids ∙ b.ids; words = a.words ∙ b.words; rects = a.rects ∙ b.rects }

pub alike_fits : {t' t : Rows} {n : ℕ} → Alike t' t → Fits t n → Fits t' n
alike_fits a f = record { ids = omega arith; words = omega arith; rects = omega arith }

-- ---- rows of s each: ys is xs but for row k, of which g was made
module _ {A : Type 0} where
  record Wrote (s k : ℕ) (xs ys : List A) (g : List A → List A) : Type 0 where
    room : s * k + s ≤ length ys
    long : length ys ≡ length xs
    here : row_at s k ys ≡ g (row_at s k xs)
    there : (j : ℕ) → (j ≡ k → ⊥) → row_at s j ys ≡ row_at s j xs

  nothing : {s k : ℕ} {xs : List A} → s * k + s ≤ length xs → Wrote s k xs xs (λ r. r)
  nothing l = record { room = l; long = refl; here = refl; there = λ j d. refl }

  then : {s k : ℕ} {xs ys : List A} {g : List A → List A} (o : ℕ) (row : List A) (p : ℕ) → p ≡ s * k + o → o + length row ≤ s → Wrote s k xs ys g → Wrote s k xs (put_at ys p row) (λ r. put_at (g r) o row)
  then {s} {k} {xs} {ys} o row p e h w = record {
    room = rw put_length w.room;
    long = put_length ys p row ∙ w.long;
    here = rw e (put_row_same s k o ys row h w.room) ∙ ap (λ (r : List A). put_at r o row) w.here;
    there = λ j d. rw e (put_row_other s j k o ys row d h w.room) ∙ w.there j d;
  }

module _ (t : Rows) (n k : ℕ) (h : k < n) (f : Fits t n) where
  pub words_apart : row_at 10 k t.words ≡ apart 0 10 (row_at 10 k t.words)
  words_apart = is_apart 0 10 (row_at 10 k t.words) (row_length 10 k t.words (omega arith))

  pub edges_apart : row_at 16 k t.rects ≡ apart nan 16 (row_at 16 k t.rects)
  edges_apart = is_apart nan 16 (row_at 16 k t.rects) (row_length 16 k t.rects (omega arith))

  -- ---- another record in a half
  module _ (half : ℕ) (w : WidgetRect) (l : half < 2) where
    half_words : Wrote 10 k t.words (put_at t.words (10 * k + 4 + 3 * half) (look_of w)) (λ r. put_at r (0 + 4 + 3 * half) (look_of w))
    half_words = then _ _ _ (omega arith) (omega arith) (nothing (omega arith))

    half_edges : Wrote 16 k t.rects (put_at t.rects (16 * k + 8 * half) (edges_of w)) (λ r. put_at r (0 + 8 * half) (edges_of w))
    half_edges = then _ _ _ (omega arith) (omega arith) (nothing (omega arith))

    half_alone : Same (record_at (alone t k) 0 0) w → row_of (put_half (alone t k) 0 half w) 0 ≡ with_half half (row_of (alone t k) 0) w
    half_alone = rw (words_apart, edges_apart) (half_one (row_at 10 k t.words) (row_at 16 k t.rects) (get_or t.ids k 0) half w l)

    pub half_row : Same (record_at t k 0) w → row_of (put_half t k half w) k ≡ with_half half (row_of t k) w
    unfolding put_half
    half_row e = row_alone (put_half t k half w) k ∙ (λ i. row_of (rows_in (get_or t.ids k 0 ∷ []) (half_words.here i) (half_edges.here i)) 0)
        ∙ half_alone (rw (record_alone t k 0 (omega arith)) at e) ∙ ap (λ (r : Row). with_half half r w) (sym (row_alone t k))

    half_other : (i : ℕ) → i < n → (i ≡ k → ⊥) → row_of (put_half t k half w) i ≡ row_of t i
    unfolding put_half
    half_other i b d = same_row (put_half t k half w) t i i refl (half_words.there i d) (half_edges.there i d)

    pub half_rows : Same (record_at t k 0) w → rows_to (put_half t k half w) n ≡ set (rows_to t n) k (with_half half (row_of t k) w)
    half_rows e = but_one t (put_half t k half w) n k h half_other ∙ ap (set (rows_to t n) k) (half_row e)

    pub half_alike : Alike (put_half t k half w) t
    unfolding put_half
    half_alike = record { ids = refl; words = half_words.long; rects = half_edges.long }

-- ---- a widget after the first n
module _ (t : Rows) (n : ℕ) (w : WidgetRect) (f : Fits t (suc n)) where
  abbrev index : ℕ
  index = next_index t.words n w.layer_id

  push_words_lem : Wrote 10 n t.words (push_words t.words n w) (λ r. new_words r index w)
  unfolding push_words
  push_words_lem = then _ _ _ (omega arith) (omega arith) (then _ _ _ (omega arith) (omega arith) (then _ _ _ (omega arith) (omega arith) (nothing (omega arith))))

  push_edges : Wrote 16 n t.rects (push_rects t.rects n w) (λ r. new_edges r w)
  unfolding push_rects
  push_edges = then _ _ _ (omega arith) (omega arith) (then _ _ _ (omega arith) (omega arith) (nothing (omega arith)))

  new_alone : row_of (rows_in (w.id ∷ []) (new_words (row_at 10 n t.words) index w) (new_edges (row_at 16 n t.rects) w)) 0 ≡ new_row index w
  new_alone = rw (words_apart t (suc n) n (omega arith) f, edges_apart t (suc n) n (omega arith) f) (new_one (row_at 10 n t.words) (row_at 16 n t.rects) index w)

  push_row : row_of (push_of t n w) n ≡ new_row index w
  unfolding push_of
  push_row = row_alone (push_of t n w) n ∙ (λ i. row_of (rows_in (get_or-set_same t.ids n w.id 0 f.ids i ∷ []) (push_words_lem.here i) (push_edges.here i)) 0) ∙ new_alone

  push_other : (i : ℕ) → i < n → row_of (push_of t n w) i ≡ row_of t i
  unfolding push_of
  push_other i l =
      let d : i ≡ n → ⊥ = omega arith in
      same_row (push_of t n w) t i i (get_or-set_other t.ids n i w.id 0 d) (push_words_lem.there i d) (push_edges.there i d)

  pub pushed_rows : rows_to (push_of t n w) (suc n) ≡ rows_to t n ++ (new_row (next_from 0 (rows_to t n) w.layer_id) w ∷ [])
  unfolding rows_to
  pushed_rows = (λ i. rows_same t (push_of t n w) n push_other i ++ (push_row i ∷ [])) ∙ rw (next_rows t w.layer_id n)

  pub pushed_alike : Alike (push_of t n w) t
  unfolding push_of
  pushed_alike = record { ids = length-set t.ids n w.id; words = push_words_lem.long; rects = push_edges.long }
