-- Laws of the first n rows of a table in a list: its length and its places, when it is another list, the list of a layer, and the next index. Assumes nothing.
use mathlib.Core.Path.{◌≡◌, refl, sym, ap, ◌∙◌}
use Prim.Native.Nat.{ℕ, zero, suc, ◌+◌, ◌-◌, ◌<◌}
use native.Mathlib.Nat.{add-zero, zero-add}
use native.Mathlib.Decide.{dec_lt, ℕ_discrete}
use native.Mathlib.Omega.{arith}
use mathlib.Core.Bool.{cond}
use mathlib.Core.List.{List, [], ◌∷◌, ◌++◌, map, append-nil, append_assoc}
use lib.ListN.{length, get_or, take, drop, set, length-append, length-take, length-drop, length-set, length-map, get_or-append, get_or-map}
use lib.Seq.{length-take-le, split_at, get_or_at, get_or-append-add, get_or-take, get_or-drop, get_or-set_same, get_or-set_other, ext_get_or}
use Rattle.layers.specs.declared.LayerId.{LayerId}
use Rattle.layers.specs.Layers.{is_layer}
use Rattle.widget_rect.specs.declared.WidgetRect.{WidgetRect}
use Rattle.widget_rows.specs.Rows.{Rows, is_in, index_at, record_at, one_more, next_index, list_in}
use Rattle.widget_maps.proofs.Row.{Row, row_of, rows_to, next_from}
use Rattle.widget_maps.proofs.Meaning.{list_rows}

module _ (t : Rows) where
  pub rows_length : (n : ℕ) → length (rows_to t n) ≡ n
  unfolding rows_to
  rows_length zero = refl
  rows_length (suc n) = simp length-append (omega (arith, rows_length n))

  pub rows_get : (n i : ℕ) (d : Row) → i < n → get_or (rows_to t n) i d ≡ row_of t i
  unfolding rows_to
  rows_get zero i d h = absurd (omega arith)
  rows_get (suc n) i d h = go (dec_lt i n) (rows_get n i d)
    where
      go : Dec (i < n) → (i < n → get_or (rows_to t n) i d ≡ row_of t i) → get_or (rows_to t n ++ (row_of t n ∷ [])) i d ≡ row_of t i
      go (yes l) rest = get_or-append (rows_to t n) (row_of t n ∷ []) d i (omega (arith, rows_length n)) ∙ rest l
      go (no l) rest =
          let e : n ≡ i = omega arith in
          rw (← e) (get_or_at (rows_to t n) (row_of t n) [] d n (rows_length n))

  pub rows_split : (n k : ℕ) → k < n → rows_to t n ≡ take k (rows_to t n) ++ row_of t k ∷ drop (suc k) (rows_to t n)
  rows_split n k h = rw rows_get at (split_at (rows_to t n) k (row_of t k) (omega (arith, rows_length n)))

  -- a list that has each of them at its place
  rows_are : (n : ℕ) (d : Row) (rows : List Row) → length rows ≡ n → ((i : ℕ) → i < n → row_of t i ≡ get_or rows i d) → rows_to t n ≡ rows
  rows_are n d rows e h =
      ext_get_or d (rows_to t n) rows (rows_length n ∙ sym e) (λ i l. let k : i < n = omega (arith, rows_length n) in rows_get n i d k ∙ h i k)

-- ---- a table t' whose rows are those of t, but for one, or without one
module _ (t t' : Rows) where
  pub rows_same : (n : ℕ) → ((i : ℕ) → i < n → row_of t' i ≡ row_of t i) → rows_to t' n ≡ rows_to t n
  unfolding rows_to
  rows_same zero h = refl
  rows_same (suc n) h = λ i. rows_same n (λ j l. h j (omega arith)) i ++ (h n (omega arith) i ∷ [])

  module _ (n k : ℕ) (h : k < n) where
    pub but_one : ((i : ℕ) → i < n → (i ≡ k → ⊥) → row_of t' i ≡ row_of t i) → rows_to t' n ≡ set (rows_to t n) k (row_of t' k)
    but_one other = rows_are t' n (row_of t 0) (set (rows_to t n) k (row_of t' k)) (simp length-set (rows_length t n)) (λ i l. go i l (ℕ_discrete i k))
      where
        go : (i : ℕ) → i < n → Dec (i ≡ k) → row_of t' i ≡ get_or (set (rows_to t n) k (row_of t' k)) i (row_of t 0)
        go i l (yes e) = rw e (sym (get_or-set_same (rows_to t n) k (row_of t' k) (row_of t 0) (omega (arith, rows_length t n))))
        go i l (no e) = other i l e ∙ sym (get_or-set_other (rows_to t n) k i (row_of t' k) (row_of t 0) e ∙ rows_get t n i (row_of t 0) l)

    pub one_gone : (f : Row → Row) → ((i : ℕ) → i < k → row_of t' i ≡ row_of t i) → ((i : ℕ) → k + i + 1 < n → row_of t' (k + i) ≡ f (row_of t (k + i + 1)))
        → rows_to t' (n - 1) ≡ take k (rows_to t n) ++ map f (drop (suc k) (rows_to t n))
    one_gone f before after = rows_are t' (n - 1) (f d) (front ++ back) (simp (length-append, length-map, length-take, length-drop, rows_length) (omega arith)) (λ i l. go i l (dec_lt i k))
      where
        d : Row
        d = row_of t 0

        front : List Row
        front = take k (rows_to t n)

        back : List Row
        back = map f (drop (suc k) (rows_to t n))

        front_length : length front ≡ k
        front_length = length-take-le k (rows_to t n) (omega (arith, rows_length t n))

        at : (i j : ℕ) → k + j ≡ i → i < n - 1 → row_of t' i ≡ get_or (front ++ back) i (f d)
        at i j e l =
            let p : suc k + j ≡ k + j + 1 = omega arith in
            rw (← e) (after j (omega arith) ∙ sym (rw front_length at (get_or-append-add front back j (f d)) ∙ get_or-map f (drop (suc k) (rows_to t n)) j d ∙ ap f (rw (get_or-drop, p) (rows_get t n (k + j + 1) d (omega arith)))))

        go : (i : ℕ) → i < n - 1 → Dec (i < k) → row_of t' i ≡ get_or (front ++ back) i (f d)
        go i l (yes b) = before i b ∙ sym (get_or-append front back (f d) i (omega (arith, front_length)) ∙ get_or-take k (rows_to t n) i (f d) b ∙ rows_get t n i (f d) (omega arith))
        go i l (no b) = at i (i - k) (omega arith) l

-- ---- the list of a layer, and the index after its last
module _ (t : Rows) where
  -- m rows from row k on
  rows_from : ℕ → ℕ → List Row
  rows_from zero k = []
  rows_from (suc m) k = row_of t k ∷ rows_from m (suc k)

  from_front : (m k : ℕ) → rows_to t k ++ rows_from m k ≡ rows_to t (k + m)
  unfolding rows_to rows_from
  from_front zero k = rw add-zero (append-nil (rows_to t k))
  from_front (suc m) k =
      let e : k + suc m ≡ suc k + m = omega arith in
      rw e (sym (append_assoc (rows_to t k) (row_of t k ∷ []) (rows_from m (suc k))) ∙ from_front m (suc k))

  module _ (layer : LayerId) where
    list_from : (m k : ℕ) → list_in t layer m k ≡ list_rows (rows_from m k) layer
    unfolding list_in list_rows rows_from row_of is_in record_at
    list_from zero k = refl
    list_from (suc m) k = ap (λ (ws : List WidgetRect). cond (is_in t.words k layer) (record_at t k 1 ∷ ws) ws) (list_from m (suc k))

    pub list_rows_lem : (n : ℕ) → list_in t layer n 0 ≡ list_rows (rows_to t n) layer
    unfolding rows_to
    list_rows_lem n = list_from n 0 ∙ ap (λ (rows : List Row). list_rows rows layer) (from_front n 0 ∙ ap (rows_to t) (zero-add n))

    next_after : (i : ℕ) (rows : List Row) (r : Row) → next_from i (rows ++ (r ∷ [])) layer ≡ cond (is_layer r.held.layer_id layer) (one_more r.index) (next_from i rows layer)
    unfolding next_from
    next_after i [] r = refl
    next_after i (q ∷ rows) r = next_after (cond (is_layer q.held.layer_id layer) (one_more q.index) i) rows r

    pub next_rows : (n : ℕ) → next_index t.words n layer ≡ next_from 0 (rows_to t n) layer
    unfolding next_index rows_to next_from row_of is_in record_at
    next_rows zero = refl
    next_rows (suc n) = ap (cond (is_in t.words n layer) (one_more (index_at t.words n))) (next_rows n) ∙ sym (next_after 0 (rows_to t n) (row_of t n))
