-- Laws of the entries that tables hold, of a list of entries on the first places of tables, and of an id in a list. Assumes nothing.
use mathlib.Core.Path.{◌≡◌, refl, sym, ap, ◌∙◌}
use mathlib.Core.Bool.{Bool, true, false, true≢false, cond, or-true, ◌||◌}
use mathlib.Core.List.{List, [], ◌∷◌, ◌++◌, append-nil}
use Prim.Native.Nat.{ℕ, zero, suc, ◌+◌, ◌*◌, ◌/◌, min, ◌<◌, ◌≤◌}
use native.Mathlib.Numerals.{add-one}
use native.Mathlib.Omega.{arith}
use lib.Dec.{eqb}
use lib.Ieee.{Float, nan}
use lib.ListN.{length, get_or, take, drop, length-map}
use Rattle.std.specs.Prelude.{None, Some}
use Rattle.std.specs.List.{list_any}
use lib.Seq.{take-nil, take-suc, take-append_seam, length-take-le, get_or-take}
use borrow.Author.Tests.{eq-eqb, ne_eqb, lt-ltb}
use Rattle.tables.specs.Tables.{after}
use Rattle.tables.proofs.Finding.{after_at, after_none}
use Rattle.tables.proofs.Written.{one_more_lem, row_more, written_length, written_fits, written_same, written_get}
use Rattle.search.specs.declared.Candidate.{Candidate}
use Rattle.search.specs.Search.{place_of, table_of}
use Rattle.search.proofs.Places.{no_room, first_place, table_get}
use Rattle.focus_cache.specs.Cache.{Cache, cache_in, room_in, held_in, ids_of, has_id, without, corners_of, cache_on, put_in, rect_at}

pub ids_length : (l : List Candidate) → length (ids_of l) ≡ length l
ids_length l = length-map l (λ (e : Candidate). e.id)

-- ---- the entries that are held stand in the first numbers of the tables
abbrev Numbers : ℕ → List ℕ → List Float → Type 0
Numbers count ids rects = (ids_of (held_in count ids rects) ≡ take (min count (room_in ids rects)) ids) × (corners_of (held_in count ids rects) ≡ take (4 * min count (room_in ids rects)) rects)

module _ (count : ℕ) (ids : List ℕ) (rects : List Float) where
  none_held : held_in count ids rects ≡ [] → min count (room_in ids rects) ≡ 0 → Numbers count ids rects
  unfolding corners_of
  none_held e z = rw (e, z) (refl, refl)

  few_held : length rects < 4 → Numbers count ids rects
  unfolding held_in
  few_held h = none_held (rw (no_room ids rects h) (take-nil count)) (omega arith)

more_held : (count id : ℕ) (ids : List ℕ) (rects : List Float) → 4 ≤ length rects → held_in (suc count) (id ∷ ids) rects ≡ place_of id rects ∷ held_in count ids (drop 4 rects)
unfolding held_in
more_held count id ids rects h = ap (take (suc count)) (first_place id ids rects h)

held_numbers : (count : ℕ) (ids : List ℕ) (rects : List Float) → Numbers count ids rects
unfolding held_in table_of corners_of
held_numbers zero ids rects = none_held zero ids rects refl (omega arith)
held_numbers (suc count) [] rects = none_held (suc count) [] rects refl (omega arith)
held_numbers (suc count) (id ∷ ids) [] = few_held (suc count) (id ∷ ids) [] (omega arith)
held_numbers (suc count) (id ∷ ids) (a ∷ []) = few_held (suc count) (id ∷ ids) (a ∷ []) (omega arith)
held_numbers (suc count) (id ∷ ids) (a ∷ b ∷ []) = few_held (suc count) (id ∷ ids) (a ∷ b ∷ []) (omega arith)
held_numbers (suc count) (id ∷ ids) (a ∷ b ∷ c ∷ []) = few_held (suc count) (id ∷ ids) (a ∷ b ∷ c ∷ []) (omega arith)
held_numbers (suc count) (id ∷ ids) (a ∷ b ∷ c ∷ d ∷ rects) =
    let (p, q) = held_numbers count ids rects in
    let n : min (suc count) (room_in (id ∷ ids) (a ∷ b ∷ c ∷ d ∷ rects)) ≡ suc (min count (room_in ids rects)) = omega arith in
    let m : 4 * suc (min count (room_in ids rects)) ≡ suc (suc (suc (suc (4 * min count (room_in ids rects))))) = omega arith in
    rw (more_held count id ids (a ∷ b ∷ c ∷ d ∷ rects) (omega arith), n, m) (ap (λ (r : List ℕ). id ∷ r) p, ap (λ (r : List Float). a ∷ b ∷ c ∷ d ∷ r) q)

module _ (count : ℕ) (ids : List ℕ) (rects : List Float) where
  pub held_ids : ids_of (held_in count ids rects) ≡ take (min count (room_in ids rects)) ids
  held_ids = (held_numbers count ids rects).0

  pub held_corners : corners_of (held_in count ids rects) ≡ take (4 * min count (room_in ids rects)) rects
  held_corners = (held_numbers count ids rects).1

  pub held_length : length (held_in count ids rects) ≡ min count (room_in ids rects)
  held_length = sym (ids_length (held_in count ids rects)) ∙ rw held_ids (length-take-le (min count (room_in ids rects)) ids (omega arith))

  pub held_at : (i : ℕ) (d : Candidate) → i < min count (room_in ids rects) → get_or (held_in count ids rects) i d ≡ record { id = get_or ids i 0; rect = rect_at rects i }
  unfolding held_in rect_at
  held_at i d h = rw (get_or-take count (table_of ids rects) i d (omega arith), lt-ltb i (length rects / 4) (omega arith)) (table_get ids rects i d (omega arith))

-- ---- a list of entries on the first places of tables
pub corners_length : (l : List Candidate) → length (corners_of l) ≡ 4 * length l
unfolding corners_of
corners_length [] = refl
corners_length (e ∷ l) = omega (arith, corners_length l)

pub corners_append : (l m : List Candidate) → corners_of (l ++ m) ≡ corners_of l ++ corners_of m
unfolding corners_of
corners_append [] m = refl
corners_append (e ∷ l) m = ap (λ (r : List Float). e.rect.min.x ∷ e.rect.min.y ∷ e.rect.max.x ∷ e.rect.max.y ∷ r) (corners_append l m)

pub ids_append : (l m : List Candidate) → ids_of (l ++ m) ≡ ids_of l ++ ids_of m
ids_append [] m = refl
ids_append (e ∷ l) m = ap (λ (r : List ℕ). e.id ∷ r) (ids_append l m)

pub table_append : (l : List Candidate) (ids : List ℕ) (rects : List Float) → table_of (ids_of l ++ ids) (corners_of l ++ rects) ≡ l ++ table_of ids rects
unfolding table_of corners_of
table_append [] ids rects = refl
table_append (e ∷ l) ids rects = first_place e.id (ids_of l ++ ids) (corners_of (e ∷ l) ++ rects) (omega arith) ∙ ap (λ (r : List Candidate). e ∷ r) (table_append l ids rects)

pub part_table : (n : ℕ) (ids : List ℕ) (rects : List Float) → n ≤ room_in ids rects → table_of (take n ids) (take (4 * n) rects) ≡ held_in n ids rects
unfolding table_of
part_table n ids rects h =
    let l = held_in n ids rects in
    let m : min n (room_in ids rects) ≡ n = omega arith in
    rw (append-nil (ids_of l), append-nil (corners_of l), append-nil l, held_ids n ids rects, held_corners n ids rects, m) at (table_append l [] [])

pub on_held : (count : ℕ) (ids : List ℕ) (rects : List Float) → cache_on (cache_in ids rects) (held_in count ids rects) ≡ cache_in ids rects
unfolding cache_on
on_held count ids rects = rw (held_ids count ids rects, held_corners count ids rects, written_same ids (min count (room_in ids rects)), written_same rects (4 * min count (room_in ids rects)))

module _ (c : Cache) where
  pub on_none : cache_on c [] ≡ c
  unfolding cache_on corners_of
  on_none = λ i. cache_in (written_same c.ids 0 i) (written_same c.rects 0 i)

  module _ (l : List Candidate) where
    pub on_lengths : (length (cache_on c l).ids ≡ length c.ids) × (length (cache_on c l).rects ≡ length c.rects)
    unfolding cache_on
    on_lengths = (written_length c.ids (ids_of l), written_length c.rects (corners_of l))

    pub on_room : room_in (cache_on c l).ids (cache_on c l).rects ≡ room_in c.ids c.rects
    on_room = rw (on_lengths.0, on_lengths.1)

    pub held_on : length l ≤ room_in c.ids c.rects → held_in (length l) (cache_on c l).ids (cache_on c l).rects ≡ l
    unfolding held_in cache_on
    held_on h =
        let p = ids_length l in
        let q = corners_length l in
        let ids = drop (length (ids_of l)) c.ids in
        let rects = drop (length (corners_of l)) c.rects in
        rw (written_fits c.ids (ids_of l) (omega arith), written_fits c.rects (corners_of l) (omega arith), table_append l ids rects) (take-append_seam l (table_of ids rects))

    pub put_more : (k : ℕ) (e : Candidate) → k ≡ length l → k < room_in c.ids c.rects → put_in (cache_on c l) k e ≡ cache_on c (l ++ (e ∷ []))
    unfolding put_in cache_on
    put_more k e p h =
        let q = corners_length l in
        let r = corners_length (e ∷ []) in
        let a : k ≡ length (ids_of l) = omega (arith, ids_length l) in
        let b : 4 * k ≡ length (corners_of l) = omega arith in
        rw (on_room, lt-ltb k (room_in c.ids c.rects) h, ids_append l (e ∷ []), corners_append l (e ∷ []), b, a)
        (λ i. cache_in (one_more_lem c.ids (ids_of l) e.id i) (row_more c.rects (corners_of l) (corners_of (e ∷ [])) (omega arith) i))

    -- the places after them are as they were
    pub rest_ids : (i d : ℕ) → length l ≤ i → get_or (cache_on c l).ids i d ≡ get_or c.ids i d
    unfolding cache_on
    rest_ids i d h = written_get c.ids (ids_of l) i d (omega (arith, ids_length l))

    pub rest_rects : (i : ℕ) → length l ≤ i → rect_at (cache_on c l).rects i ≡ rect_at c.rects i
    unfolding cache_on rect_at
    rest_rects i h =
        let q = corners_length l in
        let same : (k : ℕ) → 4 * i ≤ k → get_or (cache_on c l).rects k nan ≡ get_or c.rects k nan = λ k b. written_get c.rects (corners_of l) k nan (omega arith) in
        rw (on_lengths.1, same (4 * i) (omega arith), same (4 * i + 1) (omega arith), same (4 * i + 2) (omega arith), same (4 * i + 3) (omega arith))

-- ---- an id among the entries
pub any_has : (l : List Candidate) (id : ℕ) → list_any (λ x. eqb x id) (ids_of l) ≡ has_id l id
unfolding has_id
any_has [] id = refl
any_has (e ∷ l) id = ap (λ (t : Bool). eqb e.id id || t) (any_has l id)

pub has_at : (l : List Candidate) (id i : ℕ) → i < length l → get_or (ids_of l) i 0 ≡ id → has_id l id ≡ true
unfolding has_id
has_at [] id i h q = absurd (omega arith)
has_at (e ∷ l) id zero h q = rw (eq-eqb e.id id q)
has_at (e ∷ l) id (suc i) h q = rw (has_at l id i (omega arith) q) (or-true (eqb e.id id))

pub has_nowhere : (l : List Candidate) (id : ℕ) → ((i : ℕ) → i < length l → get_or (ids_of l) i 0 ≡ id → ⊥) → has_id l id ≡ false
unfolding has_id
has_nowhere [] id n = refl
has_nowhere (e ∷ l) id n = rw (ne_eqb e.id id (n 0 (omega arith))) (has_nowhere l id (λ i h. n (suc i) (omega arith)))

module _ (l : List Candidate) (id : ℕ) where
  pub after_has : (from k : ℕ) → after (ids_of l) from id ≡ Some k → (k < length l) × (has_id l id ≡ true)
  after_has from k e =
      let (h, q) = after_at (ids_of l) from id k e in
      let b : k < length l = omega (arith, ids_length l) in
      (b, has_at l id k b q)

  pub after_not : (from : ℕ) → after (ids_of l) from id ≡ None → has_id l id ≡ false
  after_not from e = has_nowhere l id (λ i h. after_none (ids_of l) from id i e (omega (arith, ids_length l)))

-- ---- the entries without an id, one entry more at a time
pub without_append : (l m : List Candidate) (id : ℕ) → without (l ++ m) id ≡ without l id ++ without m id
unfolding without
without_append [] m id = refl
without_append (e ∷ l) m id = go (eqb e.id id) (without_append l m id)
  where
    go : (t : Bool) → without (l ++ m) id ≡ without l id ++ without m id → cond t (without (l ++ m) id) (e ∷ without (l ++ m) id) ≡ cond t (without l id) (e ∷ without l id) ++ without m id
    go true r = r
    go false r = ap (λ (k : List Candidate). e ∷ k) r

pub without_none : (l : List Candidate) (id : ℕ) → has_id l id ≡ false → without l id ≡ l
unfolding has_id without
without_none [] id h = refl
without_none (e ∷ l) id h = go (eqb e.id id) h (λ k. without_none l id k)
  where
    go : (t : Bool) → (t || has_id l id) ≡ false → (has_id l id ≡ false → without l id ≡ l) → cond t (without l id) (e ∷ without l id) ≡ e ∷ l
    go true h rest = absurd (true≢false h)
    go false h rest = ap (λ (k : List Candidate). e ∷ k) (rest h)

pub without_length : (l : List Candidate) (id : ℕ) → length (without l id) ≤ length l
unfolding without
without_length [] id = omega arith
without_length (e ∷ l) id = go (eqb e.id id) (without_length l id)
  where
    go : (t : Bool) → length (without l id) ≤ length l → length (cond t (without l id) (e ∷ without l id)) ≤ length (e ∷ l)
    go true h = omega arith
    go false h = omega arith

module _ (l : List Candidate) (id i : ℕ) (d : Candidate) (h : i < length l) where
  pub without_same : (get_or l i d).id ≡ id → without (take (i + 1) l) id ≡ without (take i l) id
  unfolding without
  without_same q = rw (add-one, take-suc l i d h, without_append, eq-eqb (get_or l i d).id id q) (append-nil (without (take i l) id))

  pub without_other : ((get_or l i d).id ≡ id → ⊥) → without (take (i + 1) l) id ≡ without (take i l) id ++ (get_or l i d ∷ [])
  unfolding without
  without_other q = rw (add-one, take-suc l i d h, without_append, ne_eqb (get_or l i d).id id q)
