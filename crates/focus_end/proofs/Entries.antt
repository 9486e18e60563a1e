-- Laws of the rectangle of an id in a list of entries, and of the entries that are used, one entry more at a time. Assumes nothing.
use Rattle.std.specs.Prelude.{Option, None, Some}
use mathlib.Core.Path.{◌≡◌, refl, sym, ap, ◌∙◌}
use mathlib.Core.Bool.{Bool, true, false, cond}
use mathlib.Core.List.{List, [], ◌∷◌, ◌++◌, append-nil}
use Prim.Native.Nat.{ℕ, zero, suc, ◌+◌, ◌*◌, ◌/◌, min, ◌<◌, ◌≤◌}
use native.Mathlib.Nat.{add-zero}
use native.Mathlib.Numerals.{add-one}
use native.Mathlib.Omega.{arith}
use lib.Dec.{eqb}
use lib.Ieee.{Float}
use lib.ListN.{length, get_or, take, drop, take-append-drop}
use lib.Seq.{take_all, take-suc, get_or-drop}
use borrow.Author.Tests.{eq-eqb, ne_eqb, lt-ltb}
use Rattle.tables.specs.Tables.{first_from, after}
use Rattle.tables.proofs.Finding.{after_at, after_none}
use Rattle.emath.specs.declared.Rect.{Rect}
use Rattle.search.specs.declared.Candidate.{Candidate}
use Rattle.search.specs.Search.{table_of}
use Rattle.search.proofs.Places.{rest_drop, rest_none}
use Rattle.focus_cache.specs.Cache.{held_in, room_in, ids_of, rect_at}
use Rattle.focus_cache.proofs.Entries.{held_ids, held_at, held_length}
use Rattle.used.specs.Used.{entries_in, repeated}
use Rattle.used.proofs.Entries.{entries_ids, entries_length, entries_at, unrepeated}
use Rattle.focus_end.specs.End.{rect_in, kept_with, updated}

-- ---- the rectangle of an id, by its places
pub rect_first : (l : List Candidate) (id k : ℕ) (d : Candidate) → k < length l → get_or (ids_of l) k 0 ≡ id → ((i : ℕ) → i < k → get_or (ids_of l) i 0 ≡ id → ⊥) → rect_in l id ≡ Some (get_or l k d).rect
unfolding rect_in
rect_first [] id k d h q n = absurd (omega arith)
rect_first (e ∷ l) id zero d h q n = rw (eq-eqb e.id id q)
rect_first (e ∷ l) id (suc k) d h q n = rw (ne_eqb e.id id (n 0 (omega arith))) (rect_first l id k d (omega arith) q (λ i b. n (suc i) (omega arith)))

pub rect_nowhere : (l : List Candidate) (id : ℕ) → ((i : ℕ) → i < length l → get_or (ids_of l) i 0 ≡ id → ⊥) → rect_in l id ≡ None
unfolding rect_in
rect_nowhere [] id n = refl
rect_nowhere (e ∷ l) id n = rw (ne_eqb e.id id (n 0 (omega arith))) (rect_nowhere l id (λ i h. n (suc i) (omega arith)))

-- ---- and as the scan from the first place on finds it
scan_at : (j : ℕ) (l : List Candidate) (id k : ℕ) (d : Candidate) → first_from j (ids_of l) id ≡ Some k → (n : ℕ) × (k ≡ j + n) × (n < length l) × (rect_in l id ≡ Some (get_or l n d).rect)
unfolding first_from rect_in
scan_at j [] id k d e = let z : ◌≡◌ {A = ℕ} 0 1 = cc in absurd (omega arith)
scan_at j (c ∷ l) id k d e = go (eqb c.id id) e (scan_at (suc j) l id k d)
  where
    go : (t : Bool) → cond t (Some j) (first_from (suc j) (ids_of l) id) ≡ Some k
        → (first_from (suc j) (ids_of l) id ≡ Some k → (n : ℕ) × (k ≡ suc j + n) × (n < length l) × (rect_in l id ≡ Some (get_or l n d).rect))
        → (n : ℕ) × (k ≡ j + n) × (n < length (c ∷ l)) × (cond t (Some c.rect) (rect_in l id) ≡ Some (get_or (c ∷ l) n d).rect)
    go true e rest = let p : j ≡ k = cc in (0, omega arith, omega arith, refl)
    go false e rest = let (n, p, h, q) = rest e in (suc n, omega arith, omega arith, q)

scan_none : (j : ℕ) (l : List Candidate) (id : ℕ) → first_from j (ids_of l) id ≡ None → rect_in l id ≡ None
unfolding first_from rect_in
scan_none j [] id e = refl
scan_none j (c ∷ l) id e = go (eqb c.id id) e (scan_none (suc j) l id)
  where
    go : (t : Bool) → cond t (Some j) (first_from (suc j) (ids_of l) id) ≡ None
        → (first_from (suc j) (ids_of l) id ≡ None → rect_in l id ≡ None) → cond t (Some c.rect) (rect_in l id) ≡ None
    go true e rest = let z : ◌≡◌ {A = ℕ} 0 1 = cc in absurd (omega arith)
    go false e rest = rest e

-- ---- in tables that hold all their entries
module _ (ids : List ℕ) (rects : List Float) (h : 4 * length ids ≤ length rects) where
  abbrev all : List Candidate
  all = held_in (length ids) ids rects

  all_held : table_of ids rects ≡ held_in (length ids) ids rects
  unfolding held_in
  all_held =
      let n = length ids in
      let past : drop n (table_of ids rects) ≡ [] = rest_drop ids rects n ∙ rest_none ids rects n (omega arith) in
      sym (take-append-drop n (table_of ids rects)) ∙ ap (λ (r : List Candidate). take n (table_of ids rects) ++ r) past ∙ append-nil (take n (table_of ids rects))

  all_ids : ids_of all ≡ ids
  all_ids = held_ids (length ids) ids rects ∙ take_all (min (length ids) (room_in ids rects)) ids (omega arith)

  pub table_at : (id k : ℕ) → first_from 0 ids id ≡ Some k → rect_in (table_of ids rects) id ≡ Some (rect_at rects k)
  table_at id k e =
      let d : Candidate = record { id = 0; rect = rect_at rects k } in
      let (n, p, b, q) = scan_at 0 all id k d (rw all_ids e) in
      let s : n ≡ k = omega arith in
      let m = held_length (length ids) ids rects in
      rw all_held (q ∙ ap (λ (c : Candidate). Some c.rect) (held_at (length ids) ids rects n d (omega arith)) ∙ ap (λ (j : ℕ). Some (rect_at rects j)) s)

  pub table_none : (id : ℕ) → first_from 0 ids id ≡ None → rect_in (table_of ids rects) id ≡ None
  table_none id e = rw all_held (scan_none 0 all id (rw all_ids e))

-- ---- among the used entries, of which no two have one id
module _ (used : List ℕ) (corners : List Float) where
  abbrev entries : List Candidate
  entries = entries_in used corners

  entry_rect : (k : ℕ) (d : Candidate) → k < length used → 4 * length used ≤ length corners → (get_or entries k d).rect ≡ rect_at corners k
  unfolding rect_at
  entry_rect k d h b =
      rw (lt-ltb k (length corners / 4) (omega arith))
      (rw add-zero at (ap (λ (c : Candidate). c.rect) (sym (get_or-drop k entries 0 d) ∙ ap (λ (t : List Candidate). get_or t 0 d) (entries_at used corners k h))))

  pub used_at : (from id k : ℕ) → repeated used ≡ false → 4 * length used ≤ length corners → after used from id ≡ Some k → rect_in entries id ≡ Some (rect_at corners k)
  used_at from id k u b e =
      let d : Candidate = record { id = 0; rect = rect_at corners k } in
      let (h, q) = after_at used from id k e in
      let once : (i : ℕ) → i < k → get_or used i 0 ≡ id → ⊥ = λ i l p. let s = unrepeated used u i k (omega arith) h (p ∙ sym q) in omega arith in
      rect_first entries id k d (rw entries_length h) (rw entries_ids q) (rw entries_ids once) ∙ ap Some (entry_rect k d h b)

  pub used_none : (from id : ℕ) → after used from id ≡ None → rect_in entries id ≡ None
  used_none from id e = rect_nowhere entries id (rw (entries_ids, entries_length) (λ i. after_none used from id i e))

-- ---- the entries that are used, one entry more at a time
module _ (used : List Candidate) where
  pub updated_append : (l m : List Candidate) → updated used (l ++ m) ≡ updated used l ++ updated used m
  unfolding updated
  updated_append [] m = refl
  updated_append (e ∷ l) m = go (rect_in used e.id) (updated_append l m)
    where
      go : (r : Option Rect) → updated used (l ++ m) ≡ updated used l ++ updated used m → kept_with r e.id (updated used (l ++ m)) ≡ kept_with r e.id (updated used l) ++ updated used m
      go None p = p
      go (Some rect) p = ap (λ (t : List Candidate). record { id = e.id; rect = rect } ∷ t) p

  pub updated_length : (l : List Candidate) → length (updated used l) ≤ length l
  unfolding updated
  updated_length [] = omega arith
  updated_length (e ∷ l) = go (rect_in used e.id) (updated_length l)
    where
      go : (r : Option Rect) → length (updated used l) ≤ length l → length (kept_with r e.id (updated used l)) ≤ length (e ∷ l)
      go None h = omega arith
      go (Some rect) h = omega arith

  pub updated_more : (l : List Candidate) (i : ℕ) (d : Candidate) → i < length l → updated used (take (i + 1) l) ≡ updated used (take i l) ++ kept_with (rect_in used (get_or l i d).id) (get_or l i d).id []
  unfolding updated
  updated_more l i d h = rw (add-one, take-suc l i d h, updated_append)
