-- What it means that an id stands twice, and what the cells tell of it. Assumes nothing.
use mathlib.Core.Path.{◌≡◌, refl, sym, ap, ◌∙◌, subst}
use Prim.Native.Nat.{ℕ, zero, suc, ◌+◌, ◌*◌, ◌/◌, ◌%◌, max, ◌<◌, ◌≤◌, suc-le-suc}
use native.Mathlib.Decide.{ℕ_discrete}
use native.Mathlib.Nat.{not-suc-le-zero, le_of_suc-le-suc}
use native.Mathlib.Omega.{arith}
use mathlib.Core.Bool.{Bool, true, false, or-true}
use mathlib.Core.List.{List, [], ◌∷◌}
use lib.Arith.{bin_ind, digits_mod}
use lib.Bits.{bit_or, or_step, or_comm, or_self, or_shr}
use lib.Dec.{eqb}
use lib.ListN.{length, get_or, take, set, length-set, length-take}
use lib.Seq.{get_or-take, get_or-set_same, get_or-set_other}
use borrow.Author.Tests.{eq-eqb, ne_eqb, eqb-true, eqb-false}
use Rattle.std.specs.List.{IsAnyAnswer}
use Rattle.used.specs.Used.{elem, repeated}

-- ---- whether a list has an id, by its places
elem_at : (xs : List ℕ) (x i : ℕ) → i < length xs → get_or xs i 0 ≡ x → elem xs x ≡ true
unfolding elem
elem_at [] x i h e = absurd (not-suc-le-zero h)
elem_at (y ∷ ys) x zero h e = rw (eq-eqb y x e)
elem_at (y ∷ ys) x (suc i) h e = rw (elem_at ys x i (le_of_suc-le-suc h) e, or-true)

elem_none : (xs : List ℕ) (x : ℕ) → ((i : ℕ) → i < length xs → get_or xs i 0 ≡ x → ⊥) → elem xs x ≡ false
unfolding elem
elem_none [] x h = refl
elem_none (y ∷ ys) x h = rw (ne_eqb y x (h 0 (omega arith))) (elem_none ys x (λ i l. h (suc i) (suc-le-suc l)))

-- ---- whether an id stands twice, by the two places
-- the id at n stands nowhere before
abbrev New : List ℕ → ℕ → Type 0
New xs n = (i : ℕ) → i < n → get_or xs i 0 ≡ get_or xs n 0 → ⊥

abbrev AllNew : List ℕ → ℕ → Type 0
AllNew xs n = (i : ℕ) → i < n → New xs i

pub twice : (xs : List ℕ) (i j : ℕ) → i < j → j < length xs → get_or xs i 0 ≡ get_or xs j 0 → repeated xs ≡ true
unfolding repeated
twice [] i j l h e = absurd (not-suc-le-zero h)
twice (x ∷ xs) i zero l h e = absurd (not-suc-le-zero l)
twice (x ∷ xs) zero (suc j) l h e = rw (elem_at xs x j (le_of_suc-le-suc h) (sym e))
twice (x ∷ xs) (suc i) (suc j) l h e = rw (twice xs i j (le_of_suc-le-suc l) (le_of_suc-le-suc h) e, or-true)

once : (xs : List ℕ) → AllNew xs (length xs) → repeated xs ≡ false
unfolding repeated
once [] new = refl
once (x ∷ xs) new =
    rw (elem_none xs x (λ i l e. new (suc i) (suc-le-suc l) 0 (omega arith) (sym e)))
    (once xs (λ i l j k. new (suc i) (suc-le-suc l) (suc j) (suc-le-suc k)))

-- ---- bits that are set stay set
or_odd : (a b : ℕ) → bit_or a b % 2 ≡ max (a % 2) (b % 2)
or_odd a b = ap (λ (x : ℕ). x % 2) (or_step a b) ∙ digits_mod (bit_or (a / 2) (b / 2)) (omega arith)

or_assoc : (a b c : ℕ) → bit_or (bit_or a b) c ≡ bit_or a (bit_or b c)
or_assoc = bin_ind (λ (n : ℕ). (b c : ℕ) → bit_or (bit_or n b) c ≡ bit_or n (bit_or b c)) (λ b c. refl) (λ n ih b c. or_step (bit_or n b) c ∙ go n b c (ih (b / 2) (c / 2)) ∙ sym (or_step n (bit_or b c)))
  where
    go : (a b c : ℕ) → bit_or (bit_or (a / 2) (b / 2)) (c / 2) ≡ bit_or (a / 2) (bit_or (b / 2) (c / 2)) → bit_or (bit_or a b / 2) (c / 2) * 2 + max (bit_or a b % 2) (c % 2) ≡ bit_or (a / 2) (bit_or b c / 2) * 2 + max (a % 2) (bit_or b c % 2)
    go a b c h = rw (or_shr a b 1, or_shr b c 1, or_odd a b, or_odd b c, h) (omega arith)

or_own : (a b : ℕ) → bit_or (bit_or a b) b ≡ bit_or a b
or_own a b = or_assoc a b b ∙ ap (bit_or a) (or_self b)

or_kept : (a b c : ℕ) → bit_or a c ≡ a → bit_or (bit_or a b) c ≡ bit_or a b
or_kept a b c h = or_assoc a b c ∙ ap (bit_or a) (or_comm b c) ∙ sym (or_assoc a c b) ∙ ap (λ (x : ℕ). bit_or x b) h

-- ---- the cells of the ids before i
abbrev cell_in : List ℕ → ℕ → ℕ
cell_in cells id = get_or cells (id % 1013) 0

abbrev joined : List ℕ → ℕ → ℕ
joined cells id = bit_or (cell_in cells id) ((id / 1013 % 65536 * 9 + 49) % 65536)

pub record Shown (ids cells : List ℕ) (i : ℕ) : Type 0 where
  pub full : length cells ≡ 1013
  pub shown : (j : ℕ) → j < i → joined cells (get_or ids j 0) ≡ cell_in cells (get_or ids j 0)
  pub all_new : AllNew ids i

module _ (ids : List ℕ) (i : ℕ) where
  -- what `contains` says of the ids before i
  module _ (t : Bool) (e : IsAnyAnswer (λ y b. eqb y (get_or ids i 0) ≡ b) (take i ids) t) where
    pub unfound_new : i < length ids → t ≡ false → New ids i
    unfound_new h f j l q =
        let none = rw f at e in
        eqb-false _ _ (none j 0 (omega arith) (omega (arith, length-take i ids))) (get_or-take i ids j 0 l ∙ q)

    pub found_twice : i < length ids → t ≡ true → true ≡ repeated ids
    found_twice h f =
        let (k, b, same) = rw f at e in
        let l : k < i = omega (arith, b, length-take i ids) in
        sym (twice ids k i l h (sym (get_or-take i ids k 0 l) ∙ eqb-true _ _ (same 0)))

  module _ (cells : List ℕ) (m : Shown ids cells i) where
    abbrev here : ℕ
    here = get_or ids i 0

    pub unset_new : (joined cells here ≡ cell_in cells here → ⊥) → New ids i
    unset_new h j l q = h (subst (λ (x : ℕ). joined cells x ≡ cell_in cells x) q (m.shown j l))

    pub shown_more : New ids i → Shown ids (set cells (here % 1013) (joined cells here)) (i + 1)
    shown_more new = record { full = simp length-set m.full; shown = λ j l. go j l (ℕ_discrete j i) (ℕ_discrete (get_or ids j 0 % 1013) (here % 1013)); all_new = λ j l. old j l (ℕ_discrete j i) }
      where
        after : List ℕ
        after = set cells (here % 1013) (joined cells here)

        same : cell_in after here ≡ joined cells here
        same = get_or-set_same cells (here % 1013) (joined cells here) 0 (omega (arith, m.full))

        go : (j : ℕ) → j < i + 1 → Dec (j ≡ i) → Dec (get_or ids j 0 % 1013 ≡ here % 1013) → joined after (get_or ids j 0) ≡ cell_in after (get_or ids j 0)
        go j l (yes q) d = rw (q, same) (or_own (cell_in cells here) ((here / 1013 % 65536 * 9 + 49) % 65536))
        go j l (no k) (yes c) = rw (c, same) (or_kept (cell_in cells here) ((here / 1013 % 65536 * 9 + 49) % 65536) ((get_or ids j 0 / 1013 % 65536 * 9 + 49) % 65536) (rw (← c) (m.shown j (omega arith))))
        go j l (no k) (no n) = rw (get_or-set_other cells (here % 1013) (get_or ids j 0 % 1013) (joined cells here) 0 n) (m.shown j (omega arith))

        old : (j : ℕ) → j < i + 1 → Dec (j ≡ i) → New ids j
        old j l (yes q) = rw q new
        old j l (no k) = m.all_new j (omega arith)

  pub shown_once : (cells : List ℕ) → Shown ids cells i → length ids ≤ i → false ≡ repeated ids
  shown_once cells m h = sym (once ids (λ j l. m.all_new j (omega arith)))
