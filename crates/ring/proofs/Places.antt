-- Places of a list of distinct fields: what stands before, at and after a place, and the last. Assumes nothing.
use Prim.Native.Nat.{ℕ, zero, suc, ◌<◌}
use mathlib.Core.Path.{◌≡◌, refl, sym, ap, ◌∙◌}
use mathlib.Core.Bool.{Bool, true, false, cond, ◌||◌, ◌&&◌, false≢true}
use mathlib.Core.List.{List, [], ◌∷◌, ◌++◌}
use native.Mathlib.Omega.{arith}
use lib.Dec.{eqb}
use lib.ListN.{length, get_or, take}
use lib.Seq.{take-suc, take-length}
use borrow.Author.Tests.{eqb-true, eqb-false, eq-eqb, ne_eqb}
use Rattle.search.specs.declared.Candidate.{Candidate}
use Rattle.focus_rules.specs.Page.{last_of, NoneOf}
use Rattle.focus_cache.specs.Cache.{has_id}
use Rattle.used.specs.Used.{elem}
use Rattle.used.proofs.Entries.{unrepeated}
use Rattle.ring.specs.Count.{forward, last, back, place_of}
use Rattle.ring.specs.Ring.{Distinct, all_used}

-- ---- both halves of a test
pub both : (a b : Bool) → (a && b) ≡ true → (a ≡ true) × (b ≡ true)
both true b h = (refl, h)
both false b h = absurd (false≢true h)

neither : (a b : Bool) → (a || b) ≡ false → (a ≡ false) × (b ≡ false)
neither true b h = absurd (false≢true (sym h))
neither false b h = (refl, h)

-- by the two ways of a test
pub by_test : (P : ℕ → Type 0) (b : Bool) (x y : ℕ) → (b ≡ true → P x) → (b ≡ false → P y) → P (cond b x y)
by_test P true x y h k = h refl
by_test P false x y h k = k refl

-- ---- what is at no place
pub not_there : (xs : List ℕ) (id p : ℕ) → NoneOf xs id → p < length xs → get_or xs p 0 ≡ id → ⊥
unfolding NoneOf
not_there [] id p o l = absurd (omega arith)
not_there (x ∷ xs) id zero (o, os) l = o
not_there (x ∷ xs) id (suc p) (o, os) l = not_there xs id p os (omega arith)

nowhere : (xs : List ℕ) (id p : ℕ) → ((i : ℕ) → i < p → i < length xs → get_or xs i 0 ≡ id → ⊥) → NoneOf (take p xs) id
unfolding NoneOf
nowhere [] id zero h = tt
nowhere [] id (suc p) h = tt
nowhere (x ∷ xs) id zero h = tt
nowhere (x ∷ xs) id (suc p) h = (h 0 (omega arith) (omega arith), nowhere xs id p (λ i l k. h (suc i) (omega arith) (omega arith)))

-- ---- the place of an id
pub found : (xs : List ℕ) (id : ℕ) → elem xs id ≡ true → (place_of xs id < length xs) × (get_or xs (place_of xs id) 0 ≡ id)
unfolding elem place_of
found [] id h = absurd (false≢true h)
found (x ∷ xs) id h = go (eqb x id) refl h (found xs id)
  where
    go : (b : Bool) → eqb x id ≡ b → (b || elem xs id) ≡ true → (elem xs id ≡ true → (place_of xs id < length xs) × (get_or xs (place_of xs id) 0 ≡ id))
        → (cond b 0 (suc (place_of xs id)) < length (x ∷ xs)) × (get_or (x ∷ xs) (cond b 0 (suc (place_of xs id))) 0 ≡ id)
    go true e h r = (omega arith, eqb-true x id e)
    go false e h r = let (l, i) = r h in (omega arith, i)

pub used_at : (used : List Candidate) (xs : List ℕ) (p : ℕ) → all_used used xs ≡ true → p < length xs → has_id used (get_or xs p 0) ≡ true
unfolding all_used
used_at used [] p h l = absurd (omega arith)
used_at used (x ∷ xs) zero h l = (both (has_id used x) (all_used used xs) h).0
used_at used (x ∷ xs) (suc p) h l = used_at used xs p (both (has_id used x) (all_used used xs) h).1 (omega arith)

-- ---- being one of them, as a test
pub elem_at : (xs : List ℕ) (p : ℕ) → p < length xs → elem xs (get_or xs p 0) ≡ true
unfolding elem
elem_at [] p l = absurd (omega arith)
elem_at (x ∷ xs) zero l = rw (eq-eqb x x refl) refl
elem_at (x ∷ xs) (suc p) l = or_true (eqb x (get_or xs p 0)) (elem xs (get_or xs p 0)) (elem_at xs p (omega arith))
  where
    or_true : (a b : Bool) → b ≡ true → (a || b) ≡ true
    or_true true b h = refl
    or_true false b h = h

pub none_of : (xs : List ℕ) (id : ℕ) → elem xs id ≡ false → NoneOf xs id
unfolding elem NoneOf
none_of [] id h = tt
none_of (x ∷ xs) id h =
    let (e, es) = neither (eqb x id) (elem xs id) h in
    (eqb-false x id e, none_of xs id es)

pub not_elem : (xs : List ℕ) (id : ℕ) → NoneOf xs id → elem xs id ≡ false
unfolding elem NoneOf
not_elem [] id h = refl
not_elem (x ∷ xs) id (e, es) = rw (ne_eqb x id e) (not_elem xs id es)

-- ---- the last
last_more : (d : ℕ) (xs : List ℕ) (x : ℕ) → last_of d (xs ++ (x ∷ [])) ≡ x
unfolding last_of
last_more d [] x = refl
last_more d (y ∷ ys) x = last_more y ys x

last_taken : (d : ℕ) (xs : List ℕ) (p : ℕ) → p < length xs → last_of d (take (suc p) xs) ≡ get_or xs p 0
last_taken d xs p l = ap (last_of d) (take-suc xs p 0 l) ∙ last_more d (take p xs) (get_or xs p 0)

pub last_field : (d : ℕ) (xs : List ℕ) → 0 < length xs → last_of d xs ≡ get_or xs (last (length xs)) 0
last_field d [] l = absurd (omega arith)
last_field d (x ∷ xs) l = ap (last_of d) (sym (take-length (x ∷ xs))) ∙ last_taken d (x ∷ xs) (length xs) (omega arith)

-- ---- round the ring
pub forward_inside : (n p : ℕ) → p < n → forward n p < n
forward_inside n p l = by_test (λ (q : ℕ). q < n) (eqb (suc p) n) _ _ (λ e. omega arith) (λ e. let h = eqb-false (suc p) n e in omega arith)

pub back_inside : (n p : ℕ) → p < n → back n p < n
back_inside zero p l = absurd (omega arith)
back_inside (suc n) zero l = omega arith
back_inside (suc n) (suc p) l = omega arith

-- ---- before a place
pub last_before : (d : ℕ) (xs : List ℕ) (p : ℕ) → p < length xs → d ≡ get_or xs (last (length xs)) 0 → last_of d (take p xs) ≡ get_or xs (back (length xs) p) 0
unfolding last_of
last_before d xs zero l e = e
last_before d xs (suc p) l e = last_taken d xs p (omega arith)

module _ (fields : List ℕ) (distinct : Distinct fields) where
  pub none_before : (p : ℕ) → p < length fields → NoneOf (take p fields) (get_or fields p 0)
  none_before p l = nowhere fields (get_or fields p 0) p (λ i h k e. let s : i ≡ p = unrepeated fields distinct i p k l e in omega arith)

  pub not_next : (p : ℕ) → suc p < length fields → get_or fields (suc p) 0 ≡ get_or fields p 0 → ⊥
  not_next p l e = let s : suc p ≡ p = unrepeated fields distinct (suc p) p l (omega arith) e in omega arith
