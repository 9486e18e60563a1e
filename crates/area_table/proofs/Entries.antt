-- What the table means: its rows are the entries of a map, `get` and `put` are the map's, and no id has two entries. Assumes nothing.
use mathlib.Core.Path.{◌≡◌, refl, sym, ap, ◌∙◌}
use mathlib.Core.Bool.{Bool, true, false, cond, true≢false}
use mathlib.Core.List.{List, [], ◌∷◌, ◌++◌}
use Prim.Native.Nat.{ℕ, zero, suc, ◌+◌, ◌*◌, min, ◌<◌, ◌≤◌}
use native.Mathlib.Decide.{ℕ_discrete}
use native.Mathlib.Nat.{zero-add, add-zero}
use native.Mathlib.Omega.{arith}
use lib.Dec.{eqb, ltb}
use lib.ListN.{length, get_or, take, set, length-set, length-append, get_or-append}
use lib.Seq.{length-take-le, get_or-take, get_or_at, get_or-set_same, get_or-set_other, ext_get_or}
use borrow.Author.Tests.{eqb-true, eqb-false, eq-eqb, ne_eqb, lt-ltb, le-ltb}
use Rattle.tables.proofs.Finding.{nearest_at, nearest_none}
use Rattle.tables.proofs.Rows.{put_length}
use Rattle.area.specs.declared.AreaState.{AreaState}
use Rattle.std.specs.Prelude.{Option, None, Some}
use Rattle.area_table.specs.Table.{Table, Entry, codes_of, floats_of, room_of, held_in, found_in, spot_at, spot_of, held_at, held_of, put_in, entries_from, entries_of, get_in, insert_in, Distinct, elem}
use Rattle.area_table.proofs.Places.{rows_fit}
use Rattle.area_table.proofs.States.{entry_at, with_row, entry_here, entry_there}

some_none : {s : AreaState} → Some s ≡ None → ⊥
some_none e = let z : ◌≡◌ {A = ℕ} 0 1 = cc in omega arith

-- ---- a map after an insert
pub insert_get : (es : List Entry) (id : ℕ) (s : AreaState) (x : ℕ) → get_in (insert_in es id s) x ≡ cond (eqb id x) (Some s) (get_in es x)
unfolding get_in insert_in
insert_get [] id s x = refl
insert_get (e ∷ es) id s x = go (eqb e.id id) refl (insert_get es id s x)
  where
    same : (b : Bool) → eqb id x ≡ b → e.id ≡ id → cond b (Some s) (get_in es x) ≡ cond b (Some s) (cond (eqb e.id x) (Some e.state) (get_in es x))
    same true p q = refl
    same false p q = rw (q, p)

    other : (b c : Bool) → eqb e.id x ≡ b → eqb id x ≡ c → (e.id ≡ id → ⊥) → cond b (Some e.state) (cond c (Some s) (get_in es x)) ≡ cond c (Some s) (cond b (Some e.state) (get_in es x))
    other true true p q n = absurd (n (eqb-true e.id x p ∙ sym (eqb-true id x q)))
    other true false p q n = refl
    other false c p q n = refl

    go : (b : Bool) → eqb e.id id ≡ b → get_in (insert_in es id s) x ≡ cond (eqb id x) (Some s) (get_in es x) → get_in (cond b (record { id = id; state = s } ∷ es) (e ∷ insert_in es id s)) x ≡ cond (eqb id x) (Some s) (cond (eqb e.id x) (Some e.state) (get_in es x))
    go true p rest = same (eqb id x) refl (eqb-true e.id id p)
    go false p rest = rw rest (other (eqb e.id x) (eqb id x) refl refl (eqb-false e.id id p))

pub insert_distinct : (es : List Entry) (id : ℕ) (s : AreaState) → Distinct es → Distinct (insert_in es id s)
unfolding Distinct insert_in get_in
insert_distinct [] id s u = (refl, tt)
insert_distinct (e ∷ es) id s u = go (eqb e.id id) refl (insert_distinct es id s u.1)
  where
    go : (b : Bool) → eqb e.id id ≡ b → Distinct (insert_in es id s) → Distinct (cond b (record { id = id; state = s } ∷ es) (e ∷ insert_in es id s))
    go true p rest = (rw (eqb-true e.id id p) at u.0, u.1)
    go false p rest = (insert_get es id s e.id ∙ rw (ne_eqb id e.id (λ q. eqb-false e.id id p (sym q))) u.0, rest)

-- ---- an id that has an entry, and one that has none
module _ (d : Entry) (id : ℕ) where
  first_other : (x : Entry) (es : List Entry) {s : AreaState} → get_in es x.id ≡ None → get_in es id ≡ Some s → eqb x.id id ≡ false
  first_other x es v o = ne_eqb x.id id (λ p. some_none (sym o ∙ rw p at v))

  get_at : (es : List Entry) (k : ℕ) → Distinct es → k < length es → (get_or es k d).id ≡ id → get_in es id ≡ Some (get_or es k d).state
  unfolding Distinct get_in
  get_at [] k u h e = absurd (omega arith)
  get_at (x ∷ es) zero u h e = rw (eq-eqb x.id id e)
  get_at (x ∷ es) (suc k) u h e =
      let r = get_at es k u.1 (omega arith) e in
      rw (first_other x es u.0 r) r

  get_none : (es : List Entry) → ((i : ℕ) → i < length es → (get_or es i d).id ≡ id → ⊥) → get_in es id ≡ None
  unfolding get_in
  get_none [] n = refl
  get_none (x ∷ es) n = rw (ne_eqb x.id id (n 0 (omega arith))) (get_none es (λ i h. n (suc i) (omega arith)))

  module _ (s : AreaState) where
    insert_at_lem : (es : List Entry) (k : ℕ) → Distinct es → k < length es → (get_or es k d).id ≡ id → insert_in es id s ≡ set es k (record { id = id; state = s })
    unfolding Distinct get_in insert_in
    insert_at_lem [] k u h e = absurd (omega arith)
    insert_at_lem (x ∷ es) zero u h e = rw (eq-eqb x.id id e)
    insert_at_lem (x ∷ es) (suc k) u h e =
        rw (first_other x es u.0 (get_at es k u.1 (omega arith) e)) (ap (◌∷◌ x) (insert_at_lem es k u.1 (omega arith) e))

insert_none : (es : List Entry) (id : ℕ) (s : AreaState) → get_in es id ≡ None → insert_in es id s ≡ es ++ record { id = id; state = s } ∷ []
unfolding get_in insert_in
insert_none [] id s v = refl
insert_none (x ∷ es) id s v = go (eqb x.id id) v (insert_none es id s)
  where
    go : (b : Bool) → cond b (Some x.state) (get_in es id) ≡ None → (get_in es id ≡ None → insert_in es id s ≡ es ++ record { id = id; state = s } ∷ []) → cond b (record { id = id; state = s } ∷ es) (x ∷ insert_in es id s) ≡ x ∷ es ++ record { id = id; state = s } ∷ []
    go true v rest = absurd (some_none v)
    go false v rest = ap (◌∷◌ x) (rest v)

-- ---- distinct ids that all stand in a list are no more than it has: each takes one of it away
unfoldable without : List ℕ → ℕ → List ℕ
without [] x = []
without (y ∷ ys) x = cond (eqb y x) ys (y ∷ without ys x)

without_length : (ys : List ℕ) (x : ℕ) → elem ys x ≡ true → length ys ≡ suc (length (without ys x))
unfolding elem without
without_length [] x h = absurd (true≢false (sym h))
without_length (y ∷ ys) x h = go (eqb y x) h (without_length ys x)
  where
    go : (b : Bool) → cond b true (elem ys x) ≡ true → (elem ys x ≡ true → length ys ≡ suc (length (without ys x))) → suc (length ys) ≡ suc (length (cond b ys (y ∷ without ys x)))
    go true h rest = refl
    go false h rest = ap suc (rest h)

without_other : (ys : List ℕ) (x z : ℕ) → (x ≡ z → ⊥) → elem ys z ≡ true → elem (without ys x) z ≡ true
unfolding elem without
without_other [] x z n h = h
without_other (y ∷ ys) x z n h = go (eqb y x) (eqb y z) refl refl h (without_other ys x z n)
  where
    go : (b c : Bool) → eqb y x ≡ b → eqb y z ≡ c → cond c true (elem ys z) ≡ true → (elem ys z ≡ true → elem (without ys x) z ≡ true) → elem (cond b ys (y ∷ without ys x)) z ≡ true
    go true true p q h rest = absurd (n (sym (eqb-true y x p) ∙ eqb-true y z q))
    go true false p q h rest = h
    go false true p q h rest = rw q
    go false false p q h rest = rw q (rest h)

pub distinct_fits : (es : List Entry) (ids : List ℕ) → Distinct es → ((x : ℕ) → (get_in es x ≡ None → ⊥) → elem ids x ≡ true) → length es ≤ length ids
unfolding Distinct get_in
distinct_fits [] ids u all = omega arith
distinct_fits (e ∷ es) ids u all =
    let h = without_length ids e.id (all e.id (rw (eq-eqb e.id e.id refl) (λ v. some_none v))) in
    let r = distinct_fits es (without ids e.id) u.1 (λ x n. let d : e.id ≡ x → ⊥ = λ p. n (rw p at u.0) in without_other ids e.id x d (all x (rw (ne_eqb e.id x d) n))) in
    omega arith

-- ---- the entries of a table
module _ (t : Table) where
  from_length : (k n : ℕ) → length (entries_from t k n) ≡ n
  unfolding entries_from
  from_length k zero = refl
  from_length k (suc n) = ap suc (from_length (suc k) n)

  from_get : (k n i : ℕ) (d : Entry) → i < n → get_or (entries_from t k n) i d ≡ entry_at t (k + i)
  unfolding entries_from
  from_get k zero i d h = absurd (omega arith)
  from_get k (suc n) zero d h = rw add-zero
  from_get k (suc n) (suc i) d h =
      let e : suc k + i ≡ k + suc i = omega arith in
      rw e at (from_get (suc k) n i d (omega arith))

  first_get : (n i : ℕ) (d : Entry) → i < n → get_or (entries_from t 0 n) i d ≡ entry_at t i
  first_get n i d h = rw zero-add at (from_get 0 n i d h)

  -- a list that has each of them at its place
  entries_are : (n : ℕ) (d : Entry) (es : List Entry) → length es ≡ n → ((i : ℕ) → i < n → entry_at t i ≡ get_or es i d) → entries_from t 0 n ≡ es
  entries_are n d es e h = ext_get_or d (entries_from t 0 n) es (from_length 0 n ∙ sym e) (λ i l. let k : i < n = omega (arith, from_length 0 n) in first_get n i d k ∙ h i k)

  pub entries_length : (count : ℕ) → length (entries_of t count) ≡ held_in count t
  unfolding entries_of
  entries_length count = from_length 0 (held_in count t)

pub put_room : (t : Table) (k id : ℕ) (s : AreaState) → room_of (put_in t k id s) ≡ room_of t
unfolding room_of put_in
put_room t k id s = go (ltb k (room_of t))
  where
    go : (b : Bool) → room_of (cond b (with_row t k id s) t) ≡ room_of t
    go true = rw (length-set t.ids k id, put_length t.codes (5 * k) (codes_of s), put_length t.floats (4 * k) (floats_of s))
    go false = refl

-- ---- a table with an id and its state put in row k has the entries es, where those but row k are the old ones
put_entries : (t : Table) (k id : ℕ) (s : AreaState) (d : Entry) (es : List Entry) → k < room_of t → length es ≤ room_of t → ((i : ℕ) → i < length es → (i ≡ k → ⊥) → entry_at t i ≡ get_or es i d) → record { id = id; state = s } ≡ get_or es k d
    → entries_of (put_in t k id s) (length es) ≡ es
unfolding entries_of
put_entries t k id s d es h l other here =
    let m : min (length es) (room_of t) ≡ length es = omega arith in
    rw (put_room t k id s, m) (entries_are (put_in t k id s) (length es) d es refl (λ i b. go i b (ℕ_discrete i k)))
  where
    go : (i : ℕ) → i < length es → Dec (i ≡ k) → entry_at (put_in t k id s) i ≡ get_or es i d
    go i b (yes e) = rw e (entry_here t k id s h ∙ here)
    go i b (no n) = entry_there t k id s h i n ∙ other i b n

-- ---- the row of an id among those that are held
module _ (t : Table) (count from id : ℕ) where
  abbrev n : ℕ
  n = held_in count t

  abbrev es : List Entry
  es = entries_of t count

  abbrev d : Entry
  d = entry_at t 0

  held_ids : length (take n t.ids) ≡ n
  held_ids = length-take-le n t.ids (rows_fit t n (omega arith)).0

  entry_get : (k : ℕ) → k < n → get_or es k d ≡ entry_at t k
  unfolding entries_of
  entry_get k h = first_get t n k d h

  entry_id : (k : ℕ) → k < n → (get_or es k d).id ≡ get_or (take n t.ids) k 0
  entry_id k h = ap (λ (e : Entry). e.id) (entry_get k h) ∙ sym (get_or-take n t.ids k 0 h)

  found_at : (k : ℕ) → found_in t.ids n from id ≡ Some k → (k < n) × (k < length es) × ((get_or es k d).id ≡ id)
  found_at k e =
      let (h, p) = nearest_at (take n t.ids) from id k e in
      let l : k < n = omega (arith, held_ids) in
      (l, omega (arith, entries_length t count), entry_id k l ∙ p)

  found_none : found_in t.ids n from id ≡ None → get_in es id ≡ None
  found_none e = get_none d id es (λ i h p. let l : i < n = omega (arith, entries_length t count) in nearest_none (take n t.ids) from id i e (omega (arith, held_ids)) (sym (entry_id i l) ∙ p))

  pub entries_get : Distinct (entries_of t count) → held_of t count from id ≡ get_in (entries_of t count) id
  unfolding held_of
  entries_get u = go (found_in t.ids n from id) refl
    where
      go : (f : Option ℕ) → found_in t.ids n from id ≡ f → held_at t f ≡ get_in es id
      go (Some k) e =
          let (h, l, p) = found_at k e in
          sym (get_at d id es k u l p ∙ ap (λ (e : Entry). Some e.state) (entry_get k h))
      go None e = sym (found_none e)

  module _ (s : AreaState) (u : Distinct (entries_of t count)) where
    abbrev new : Entry
    new = record { id = id; state = s }

    pub entries_count : length (insert_in (entries_of t count) id s) ≡ cond (ltb (spot_of t count from id) (held_in count t)) (held_in count t) (spot_of t count from id + 1)
    unfolding spot_of
    entries_count = go (found_in t.ids n from id) refl
      where
        go : (f : Option ℕ) → found_in t.ids n from id ≡ f → length (insert_in es id s) ≡ cond (ltb (spot_at f n) n) n (spot_at f n + 1)
        go (Some k) e =
            let (h, l, p) = found_at k e in
            rw (lt-ltb k n h, insert_at_lem d id s es k u l p) (length-set es k new ∙ entries_length t count)
        go None e = rw (le-ltb n n (omega arith), insert_none es id s (found_none e)) (simp length-append (omega (arith, entries_length t count)))

    pub entries_put : spot_of t count from id < room_of t → entries_of (put_in t (spot_of t count from id) id s) (length (insert_in (entries_of t count) id s)) ≡ insert_in (entries_of t count) id s
    unfolding spot_of
    entries_put = go (found_in t.ids n from id) refl
      where
        go : (f : Option ℕ) → found_in t.ids n from id ≡ f → spot_at f n < room_of t → entries_of (put_in t (spot_at f n) id s) (length (insert_in es id s)) ≡ insert_in es id s
        go (Some k) e r =
            let (h, l, p) = found_at k e in
            let m = length-set es k new ∙ entries_length t count in
            rw (insert_at_lem d id s es k u l p) (put_entries t k id s d (set es k new) r (omega arith) (λ i b o. sym (get_or-set_other es k i new d o ∙ entry_get i (omega arith))) (sym (get_or-set_same es k new d l)))
        go None e r =
            let m : length (es ++ new ∷ []) ≡ n + 1 = simp length-append (omega (arith, entries_length t count)) in
            rw (insert_none es id s (found_none e)) (put_entries t n id s d (es ++ new ∷ []) r (omega arith) (λ i b o. sym (get_or-append es (new ∷ []) d i (omega (arith, entries_length t count)) ∙ entry_get i (omega arith))) (sym (get_or_at es new [] d n (entries_length t count))))
