-- Laws of a list that is written on the first places of another, one element a turn. Assumes nothing.
use mathlib.Core.Path.{◌≡◌, refl, sym, ap, ◌∙◌}
use mathlib.Core.List.{List, [], ◌∷◌, ◌++◌, append-nil}
use Prim.Native.Nat.{ℕ, zero, suc, ◌+◌, ◌≤◌}
use native.Mathlib.Nat.{add-zero}
use native.Mathlib.Omega.{arith}
use lib.ListN.{length, get_or, set, take, drop, length-append, length-take, length-drop}
use lib.Seq.{take-nil, take_all, take-append_seam, drop-nil, drop-drop, drop-append-add, get_or-drop, append_snoc}
use borrow.Author.Tests.{le-leb}
use Rattle.tables.specs.Tables.{put_at, written_on}

-- of the whole list all but the rest is written on `out`, which has become `now`; n are written
pub record Written {A : Type 0} (out whole rest now : List A) (n : ℕ) : Type 0 where
  pub list : List A
  pub split : whole ≡ list ++ rest
  pub here : now ≡ written_on out list
  pub count : n ≡ length list

module _ {A : Type 0} where
  pub written_length : (out list : List A) → length (written_on out list) ≡ length out
  unfolding written_on
  written_length out list = simp (length-append, length-take, length-drop) (omega arith)

  pub one_more_lem : (out list : List A) (x : A) → set (written_on out list) (length list) x ≡ written_on out (list ++ x ∷ [])
  unfolding written_on
  one_more_lem [] [] x = refl
  one_more_lem [] (y ∷ list) x = refl
  one_more_lem (o ∷ out) [] x = rw (take-nil (length out))
  one_more_lem (o ∷ out) (y ∷ list) x = ap (λ (r : List A). y ∷ r) (one_more_lem out list x)

  -- ---- what is written fits: it stands whole, and a row more stands after it
  pub written_fits : (out list : List A) → length list ≤ length out → written_on out list ≡ list ++ drop (length list) out
  unfolding written_on
  written_fits out list h = rw (take_all (length out) list h)

  pub row_more : (out list row : List A) → length list + length row ≤ length out → put_at (written_on out list) (length list) row ≡ written_on out (list ++ row)
  unfolding put_at
  row_more out list row h =
      let rest = drop (length list) out in
      let k : length (list ++ row) ≤ length out = rw length-append h in
      let l : length list + length row ≤ length (list ++ rest) = simp (length-append, length-drop) (omega arith) in
      rw (written_fits out list (omega arith), written_fits out (list ++ row) k, le-leb (length list + length row) (length (list ++ rest)) l, take-append_seam list rest, drop-append-add list rest (length row), drop-drop (length row) (length list) out, length-append list row)

  -- the front of a list on the list itself
  pub written_same : (out : List A) (n : ℕ) → written_on out (take n out) ≡ out
  unfolding written_on
  written_same [] n = rw (take-nil n)
  written_same (o ∷ out) zero = refl
  written_same (o ∷ out) (suc n) = ap (λ (r : List A). o ∷ r) (written_same out n)

  -- ---- the places after it keep what they had
  pub written_rest : (out list : List A) (i : ℕ) → length list ≤ i → drop i (written_on out list) ≡ drop i out
  unfolding written_on
  written_rest [] list i h = rw (drop-nil (length list))
  written_rest (o ∷ out) [] i h = refl
  written_rest (o ∷ out) (y ∷ list) zero h = absurd (omega arith)
  written_rest (o ∷ out) (y ∷ list) (suc i) h = written_rest out list i (omega arith)

  pub written_get : (out list : List A) (i : ℕ) (d : A) → length list ≤ i → get_or (written_on out list) i d ≡ get_or out i d
  written_get out list i d h = rw add-zero at (sym (get_or-drop i (written_on out list) 0 d) ∙ ap (λ (r : List A). get_or r 0 d) (written_rest out list i h) ∙ get_or-drop i out 0 d)

  module _ (out whole : List A) where
    pub none_written : (now : List A) → now ≡ out → Written out whole whole now 0
    unfolding written_on
    none_written now e = record { list = []; split = refl; here = rw (take-nil (length out)) e; count = refl }

    module _ (rest now : List A) (n : ℕ) (h : Written out whole rest now n) where
      pub write : (x : A) (left : List A) → rest ≡ x ∷ left → Written out whole left (set now n x) (n + 1)
      write x left e = record { list = h.list ++ x ∷ []; split = rw (append_snoc h.list x left, ← e) h.split; here = rw (h.here, h.count) (one_more_lem out h.list x); count = rw length-append (omega (arith, h.count)) }

      pub all_written : rest ≡ [] → (n ≡ length whole) × (now ≡ written_on out whole)
      all_written e =
          let p : whole ≡ h.list = h.split ∙ rw e (append-nil h.list) in
          rw p (h.count, h.here)
