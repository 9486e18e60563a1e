-- Laws of the last row of which something holds, as a search from the top finds it. Assumes nothing.
use Rattle.std.specs.Prelude.{◌≡◌, ℕ, zero, suc, ◌+◌, ◌-◌, ◌/◌, ◌<◌, ◌≤◌, min, Bool, true, false, None, Some, List, [], ◌∷◌, length, get_or, take}
use mathlib.Core.Path.{refl, sym, ap, ◌∙◌}
use native.Mathlib.Nat.{not-suc-le-zero, le_of_suc-le-suc}
use native.Mathlib.Numerals.{add-one}
use native.Mathlib.Omega.{arith}
use lib.Seq.{take_all}
use Rattle.layer_rows.specs.declared.Row.{Row}
use Rattle.layer_rows.specs.Rows.{held_rows}
use Rattle.layer_rows.proofs.Rows.{held_length}
use Rattle.layer_queries.specs.Queries.{last_of}

-- ---- the last among the first k rows
module _ (p : Row → Bool) where
  here : (rows : List Row) (k : ℕ) (d : Row) → k < length rows → p (get_or rows k d) ≡ true → last_of p (take (suc k) rows) ≡ Some (get_or rows k d).layer
  unfolding last_of
  here [] k d h e = absurd (not-suc-le-zero h)
  here (r ∷ rows) zero d h e = rw e
  here (r ∷ rows) (suc k) d h e = rw (here rows k d (le_of_suc-le-suc h) e)

  more : (rows : List Row) (k : ℕ) (d : Row) → k < length rows → p (get_or rows k d) ≡ false → last_of p (take (suc k) rows) ≡ last_of p (take k rows)
  unfolding last_of
  more [] k d h e = absurd (not-suc-le-zero h)
  more (r ∷ rows) zero d h e = rw e
  more (r ∷ rows) (suc k) d h e = rw (more rows k d (le_of_suc-le-suc h) e)

  module _ (rows : List Row) where
    pub last_none : last_of p (take 0 rows) ≡ None
    unfolding last_of
    last_none = refl

    pub last_here : (k : ℕ) (d : Row) → k < length rows → p (get_or rows k d) ≡ true → last_of p (take (k + 1) rows) ≡ Some (get_or rows k d).layer
    last_here k d h e = rw add-one (here rows k d h e)

    pub last_more : (k : ℕ) (d : Row) → k < length rows → p (get_or rows k d) ≡ false → last_of p (take (k + 1) rows) ≡ last_of p (take k rows)
    last_more k d h e = rw add-one (more rows k d h e)

    pub last_all : (n : ℕ) → length rows ≤ n → last_of p (take n rows) ≡ last_of p rows
    last_all n h = ap (last_of p) (take_all n rows h)

-- ---- the search has left k rows: above them there is none
pub record Left (p : Row → Bool) (rows : List Row) (k : ℕ) : Type 0 where
  pub below : k ≤ length rows
  pub same : last_of p rows ≡ last_of p (take k rows)

module _ (p : Row → Bool) (count : ℕ) (w : List ℕ) where
  pub all_left : (n : ℕ) → n ≡ min count (length w / 8) → Left p (held_rows count w) n
  all_left n e =
      let l = held_length count w in
      record { below = omega (arith, l); same = sym (last_all p (held_rows count w) n (omega (arith, l))) }

  module _ (k : ℕ) (l : Left p (held_rows count w) k) where
    pub none_left : k ≤ 0 → None ≡ last_of p (held_rows count w)
    none_left h =
        let z : k ≡ 0 = omega arith in
        sym (l.same ∙ rw z (last_none p (held_rows count w)))

    module _ (h : 0 < k) (d r : Row) (e : r ≡ get_or (held_rows count w) (k - 1) d) (b : Bool) (t : b ≡ p r) where
      below : k - 1 < length (held_rows count w)
      below = omega (arith, l.below)

      here_left : last_of p (held_rows count w) ≡ last_of p (take (k - 1 + 1) (held_rows count w))
      here_left =
          let one : k ≡ k - 1 + 1 = omega arith in
          l.same ∙ ap (λ (n : ℕ). last_of p (take n (held_rows count w))) one

      pub last_found : b ≡ true → Some r.layer ≡ last_of p (held_rows count w)
      last_found z = sym (here_left ∙ last_here p (held_rows count w) (k - 1) d below (ap p (sym e) ∙ sym t ∙ z) ∙ ap (λ (x : Row). Some x.layer) (sym e))

      pub less_left : b ≡ false → Left p (held_rows count w) (k - 1)
      less_left z = record { below = omega (arith, below); same = here_left ∙ last_more p (held_rows count w) (k - 1) d below (ap p (sym e) ∙ sym t ∙ z) }
