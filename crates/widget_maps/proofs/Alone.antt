-- A row of a table by itself, which depends on its id, its ten words and its sixteen edges only: what a change of the table makes of it. Assumes nothing.
use mathlib.Core.Path.{◌≡◌, refl, sym, ap, ◌∙◌}
use Prim.Native.Nat.{ℕ, zero, suc, ◌+◌, ◌-◌, ◌*◌, ◌<◌, ◌≤◌}
use native.Mathlib.Nat.{add-zero, add_assoc}
use native.Mathlib.Omega.{arith}
use mathlib.Core.Bool.{Bool, true, false, cond, not}
use mathlib.Core.List.{List, [], ◌∷◌}
use lib.Dec.{eqb}
use lib.Ieee.{Float, nan}
use lib.ListN.{length, get_or, drop, set}
use Rattle.layers.specs.declared.LayerId.{LayerId}
use Rattle.widget_rect.specs.declared.WidgetRect.{WidgetRect}
use Rattle.tables.specs.Tables.{row_at, put_at}
use Rattle.tables.proofs.Rows.{row_get}
use Rattle.widget_rows.specs.Rows.{Rows, rows_in, rect_at, is_in, index_at, record_at, one_less, lowered_at}
use Rattle.widget_table.specs.Table.{word, look_of, shared_of, edges_of, put_half}
use Rattle.widget_maps.proofs.Row.{Row, row_of, new_row, with_held, with_listed, lowered}

-- row k of a table as a table of one row
abbrev pub alone : Rows → ℕ → Rows
alone t k = rows_in (get_or t.ids k 0 ∷ []) (row_at 10 k t.words) (row_at 16 k t.rects)

module _ (t : Rows) (k : ℕ) where
  at_word : (p o : ℕ) → o < 10 → p ≡ 10 * k + o → get_or t.words p 0 ≡ get_or (row_at 10 k t.words) o 0
  at_word p o h e = rw e (sym (row_get 10 k o t.words 0 h))

  edges_at : (p o : ℕ) → o + 4 ≤ 16 → p ≡ 16 * k + o → rect_at t.rects p ≡ rect_at (row_at 16 k t.rects) o
  edges_at p o h e =
      let at : (d : ℕ) → d < 4 → get_or t.rects (p + d) nan ≡ get_or (row_at 16 k t.rects) (o + d) nan = λ d l. rw (e, add_assoc) (sym (row_get 16 k (o + d) t.rects nan (omega arith))) in
      λ i. record { min = record { x = (simp add-zero at (at 0 (omega arith))) i; y = at 1 (omega arith) i }; max = record { x = at 2 (omega arith) i; y = at 3 (omega arith) i } }

  pub record_alone : (half : ℕ) → half < 2 → record_at t k half ≡ record_at (alone t k) 0 half
  unfolding record_at
  record_alone half h = λ i. record {
    id = get_or t.ids k 0;
    parent_id = at_word (10 * k) 0 (omega arith) (omega arith) i;
    layer_id = record { order = at_word (10 * k + 1) 1 (omega arith) refl i; id = at_word (10 * k + 2) 2 (omega arith) refl i };
    rect = edges_at (16 * k + 8 * half) (0 + 8 * half) (omega arith) (omega arith) i;
    interact_rect = edges_at (16 * k + 8 * half + 4) (0 + 8 * half + 4) (omega arith) (omega arith) i;
    sense = at_word (10 * k + 4 + 3 * half) (4 + 3 * half) (omega arith) (omega arith) i;
    enabled = not (eqb (at_word (10 * k + 4 + 3 * half + 1) (4 + 3 * half + 1) (omega arith) (omega arith) i) 0);
    visible = not (eqb (at_word (10 * k + 4 + 3 * half + 2) (4 + 3 * half + 2) (omega arith) (omega arith) i) 0);
  }

  pub row_alone : row_of t k ≡ row_of (alone t k) 0
  unfolding row_of index_at
  row_alone = λ i. record { index = at_word (10 * k + 3) 3 (omega arith) refl i; held = record_alone 0 (omega arith) i; listed = record_alone 1 (omega arith) i }

-- two rows with the same id, words and edges
pub same_row : (t t' : Rows) (j k : ℕ) → get_or t.ids j 0 ≡ get_or t'.ids k 0 → row_at 10 j t.words ≡ row_at 10 k t'.words → row_at 16 j t.rects ≡ row_at 16 k t'.rects → row_of t j ≡ row_of t' k
same_row t t' j k a b c = row_alone t j ∙ (λ i. row_of (rows_in (a i ∷ []) (b i) (c i)) 0) ∙ sym (row_alone t' k)

-- ---- a list of so many, taken apart
module _ {A : Type 0} (d : A) where
  abbrev pub apart : ℕ → List A → List A
  apart zero xs = []
  apart (suc n) xs = get_or xs 0 d ∷ apart n (drop 1 xs)

  pub is_apart : (n : ℕ) (xs : List A) → length xs ≡ n → xs ≡ apart n xs
  is_apart zero [] e = refl
  is_apart zero (x ∷ xs) e = absurd (omega arith)
  is_apart (suc n) [] e = absurd (omega arith)
  is_apart (suc n) (x ∷ xs) e = ap (◌∷◌ x) (is_apart n xs (omega arith))

-- ---- a record by its parts
flag : (b : Bool) → not (eqb (word b) 0) ≡ b
flag true = refl
flag false = refl

-- the same widget: its id, its parent and its layer
pub record Same (w v : WidgetRect) : Type 0 where
  pub id : w.id ≡ v.id
  pub parent : w.parent_id ≡ v.parent_id
  pub layer : w.layer_id ≡ v.layer_id

pub itself : (w : WidgetRect) → Same w w
itself w = record { id = refl; parent = refl; layer = refl }

-- a record that was put beside the id, the parent and the layer of one of the same widget
written : (v w : WidgetRect) → Same v w
    → ◌≡◌ {A = WidgetRect} (record { id = v.id; parent_id = v.parent_id; layer_id = v.layer_id; rect = w.rect; interact_rect = w.interact_rect; sense = w.sense; enabled = not (eqb (word w.enabled) 0); visible = not (eqb (word w.visible) 0) }) w
written v w e = λ i. record { id = e.id i; parent_id = e.parent i; layer_id = e.layer i; rect = w.rect; interact_rect = w.interact_rect; sense = w.sense; enabled = flag w.enabled i; visible = flag w.visible i }

-- ---- what a change makes of a row alone
abbrev pub with_half : ℕ → Row → WidgetRect → Row
with_half zero r w = with_held r w
with_half (suc n) r w = with_listed r w

-- the words and the edges of a new row
abbrev pub new_words : List ℕ → ℕ → WidgetRect → List ℕ
new_words ws index w = put_at (put_at (put_at ws 0 (shared_of w index)) 4 (look_of w)) 7 (look_of w)

abbrev pub new_edges : List Float → WidgetRect → List Float
new_edges rs w = put_at (put_at rs 0 (edges_of w)) 8 (edges_of w)

module _ (ws : List ℕ) (rs : List Float) where
  pub new_one : (index : ℕ) (w : WidgetRect) → row_of (rows_in (w.id ∷ []) (new_words (apart 0 10 ws) index w) (new_edges (apart nan 16 rs) w)) 0 ≡ new_row index w
  unfolding row_of put_at index_at record_at
  new_one index w = λ i. new_row index (written w w (itself w) i)

  module _ (id : ℕ) where
    abbrev one : Rows
    one = rows_in (id ∷ []) (apart 0 10 ws) (apart nan 16 rs)

    pub half_one : (half : ℕ) (w : WidgetRect) → half < 2 → Same (record_at one 0 0) w → row_of (put_half one 0 half w) 0 ≡ with_half half (row_of one 0) w
    unfolding row_of put_half put_at index_at record_at
    half_one zero w h e = λ i. with_held (row_of one 0) (written (record_at one 0 0) w e i)
    half_one (suc zero) w h e = λ i. with_listed (row_of one 0) (written (record_at one 0 0) w e i)
    half_one (suc (suc n)) w h e = absurd (omega arith)

    pub lowered_one : (layer : LayerId) → row_of (rows_in (id ∷ []) (lowered_at (apart 0 10 ws) 0 layer) (apart nan 16 rs)) 0 ≡ lowered layer (row_of one 0)
    unfolding row_of lowered_at lowered index_at record_at is_in
    lowered_one layer = go (is_in (apart 0 10 ws) 0 layer)
      where
        go : (b : Bool) → row_of (rows_in (id ∷ []) (cond b (set (apart 0 10 ws) 3 (one_less (index_at (apart 0 10 ws) 0))) (apart 0 10 ws)) (apart nan 16 rs)) 0
            ≡ record { index = cond b ((row_of one 0).index - 1) (row_of one 0).index; held = (row_of one 0).held; listed = (row_of one 0).listed }
        go true = refl
        go false = refl
