-- Where an id is found by the cell of its home, and what it holds there is what the rows mean. Assumes nothing.
use mathlib.Core.Path.{◌≡◌, refl, sym}
use Prim.Native.Nat.{ℕ, zero, suc, ◌+◌, ◌<◌, ◌≤◌}
use native.Mathlib.Decide.{dec_lt, ℕ_discrete}
use native.Mathlib.Omega.{arith}
use mathlib.Core.List.{List, [], ◌∷◌}
use lib.ListN.{length, get_or, take, drop, set, length-set, get_or-eq_default}
use lib.Seq.{length-take-le, get_or-take, get_or-set_same, get_or-set_other}
use borrow.Author.Tests.{ne_eqb}
use Rattle.widget_rect.specs.declared.WidgetRect.{WidgetRect}
use Rattle.std.specs.Prelude.{Option, None, Some}
use Rattle.tables.proofs.Finding.{nearest_at, nearest_none}
use Rattle.widget_rows.specs.Rows.{Rows, home_of, place_by, place_of, record_at, entry_at}
use Rattle.widget_maps.proofs.Row.{Row, row_of, rows_to}
use Rattle.widget_maps.proofs.Meaning.{entry_rows, Sound}
use Rattle.widget_maps.proofs.Laws.{known_entry}
use Rattle.widget_maps.proofs.Listing.{rows_length, rows_get, rows_split}

-- a cell that leads nowhere is the home of no id that is held
abbrev pub Led : List ℕ → (ℕ → Option (ℕ × WidgetRect)) → Type 0
Led cells by_id = (id : ℕ) → get_or cells (home_of cells id) 1 ≡ 0 → by_id id ≡ None

module _ (held : List ℕ) (id : ℕ) where
  by_at : (j k : ℕ) → place_by j held id ≡ Some k → (k < length held) × (get_or held k 0 ≡ id)
  unfolding place_by
  by_at zero k e = let z : ◌≡◌ {A = ℕ} 0 1 = cc in absurd (omega arith)
  by_at (suc j) k e = nearest_at held (suc j) id k e

  by_none : (j i : ℕ) → place_by (suc j) held id ≡ None → i < length held → (get_or held i 0 ≡ id → ⊥)
  unfolding place_by
  by_none j i e = nearest_none held (suc j) id i e

none_held : (rows : List Row) (id : ℕ) (d : Row) → ((i : ℕ) → i < length rows → (get_or rows i d).held.id ≡ id → ⊥) → entry_rows rows id ≡ None
unfolding entry_rows
none_held [] id d h = refl
none_held (r ∷ rows) id d h = rw (ne_eqb r.held.id id (h 0 (omega arith))) (none_held rows id d (λ i l. h (suc i) (omega arith)))

module _ (t : Rows) (n : ℕ) (fits : n ≤ length t.ids) (cells : List ℕ) (id : ℕ) where
  pub found_at : (k : ℕ) → place_of cells (take n t.ids) id ≡ Some k → (k < n) × (get_or t.ids k 0 ≡ id)
  unfolding place_of
  found_at k e =
      let (l, p) = by_at (take n t.ids) id (get_or cells (home_of cells id) 1) k e in
      let h : k < n = omega (arith, length-take-le n t.ids fits) in
      (h, rw get_or-take at p)

  pub entry_rows_lem : Led cells (entry_rows (rows_to t n)) → Sound (rows_to t n) → entry_at t (place_of cells (take n t.ids) id) ≡ entry_rows (rows_to t n) id
  unfolding place_of row_of record_at
  entry_rows_lem led s = go (place_of cells (take n t.ids) id) refl (get_or cells (home_of cells id) 1) refl
    where
      rows : List Row
      rows = rows_to t n

      nowhere : (j : ℕ) → place_by (suc j) (take n t.ids) id ≡ None → (i : ℕ) → i < length rows → (get_or rows i (row_of t 0)).held.id ≡ id → ⊥
      nowhere j e i l p =
          let h : i < n = omega (arith, rows_length t n) in
          by_none (take n t.ids) id j i e (omega (arith, length-take-le n t.ids fits)) (rw get_or-take (rw rows_get at p))

      go : (f : Option ℕ) → place_of cells (take n t.ids) id ≡ f → (j : ℕ) → get_or cells (home_of cells id) 1 ≡ j → entry_at t f ≡ entry_rows rows id
      go (Some k) e j p =
          let (l, q) = found_at k e in
          rw (← q) (sym (known_entry rows (take k rows) (row_of t k) (drop (suc k) rows) s (rows_split t n k l)))
      go None e zero p = sym (led id p)
      go None e (suc j) p = sym (none_held rows id (row_of t 0) (nowhere j (rw p at e)))

-- ---- a cell that leads to a row, after which the id of its home is held
module _ (cells : List ℕ) (id k : ℕ) (by_id byId' : ℕ → Option (ℕ × WidgetRect)) (new : (x : ℕ) → (id ≡ x → ⊥) → by_id x ≡ None → byId' x ≡ None) where
  abbrev home : ℕ
  home = home_of cells id

  abbrev cells' : List ℕ
  cells' = set cells home (k + 1)

  leads : get_or cells' home 1 ≡ 0 → ⊥
  leads e = go (dec_lt home (length cells))
    where
      go : Dec (home < length cells) → ⊥
      go (yes h) = omega (arith, get_or-set_same cells home (k + 1) 1 h)
      go (no h) = omega (arith, get_or-eq_default cells' 1 {n = home} (rw length-set (omega arith)))

  pub led_to : Led cells by_id → Led cells' byId'
  led_to led x e = go (ℕ_discrete (home_of cells x) home) (rw length-set at e)
    where
      go : Dec (home_of cells x ≡ home) → get_or cells' (home_of cells x) 1 ≡ 0 → byId' x ≡ None
      go (yes p) e = absurd (leads (rw p at e))
      go (no p) e = new x (λ q. p (rw q)) (led x (rw (get_or-set_other cells home (home_of cells x) (k + 1) 1 p) at e))
