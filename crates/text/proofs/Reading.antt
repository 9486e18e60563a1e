-- Laws of what is read at a place: digits, words, lines. Each loop's turn is one of them. Assumes nothing.
use mathlib.Core.Path.{◌≡◌, refl, sym, ap, ◌∙◌}
use Prim.Native.Nat.{ℕ, zero, suc, ◌+◌, ◌-◌, ◌*◌, ◌<◌, ◌≤◌, min}
use native.Mathlib.Numerals.{add-one}
use native.Mathlib.Omega.{arith}
use mathlib.Core.Bool.{Bool, true, false, not, cond}
use mathlib.Core.List.{List, [], ◌∷◌}
use lib.Dec.{leb, eqb}
use lib.ListN.{length, get_or, take, drop, drop_of_length-le}
use lib.Seq.{drop-cons, get_or-drop}
use borrow.Author.Tests.{le-leb, lt-leb, eq-eqb, ne_eqb, eqb-true, eqb-false}
use Rattle.text.specs.Read.{is_digit, digits_of, worth, well_written, value_at, number_at, opens, word_at, length_before}
use lib.Pointwise.{pointwise}
use Rattle.std.specs.Prelude.{Option, None, Some}
use Rattle.std.proofs.lemmas.Grind.{common_steps}

-- ---- digits
-- what the digits at the front of l make, after digits that are worth v; they start at i
unfoldable pub read_on : ℕ → ℕ → List ℕ → Option (ℕ × ℕ)
read_on v i l = cond (leb (worth v (digits_of l)) 18446744073709551615) (Some (worth v (digits_of l), i + length (digits_of l))) None

pub read_on_lem : (s : List ℕ) (at : ℕ) → value_at at (digits_of (drop at s)) ≡ read_on 0 at (drop at s)
unfolding value_at read_on
read_on_lem s at = refl

-- more digits are worth no less
pub worth_grows : (v : ℕ) (ds : List ℕ) → v ≤ worth v ds
unfolding worth
worth_grows v [] = omega arith
worth_grows v (b ∷ ds) = let h = worth_grows (v * 10 + (b - 48)) ds in omega arith

none_left : (v i : ℕ) (l : List ℕ) → v ≤ 18446744073709551615 → digits_of l ≡ [] → read_on v i l ≡ Some (v, i)
unfolding read_on worth
none_left v i l f e = let z : i + 0 ≡ i = omega arith in rw (e, le-leb v 18446744073709551615 f, z)

module _ (s : List ℕ) (v i : ℕ) where
  abbrev here : ℕ
  here = get_or s i 0

  pub digits_end : length s ≤ i → v ≤ 18446744073709551615 → read_on v i (drop i s) ≡ Some (v, i)
  unfolding digits_of
  digits_end h f = none_left v i (drop i s) f (rw (drop_of_length-le s h))

  pub digits_stop : i < length s → is_digit here ≡ false → v ≤ 18446744073709551615 → read_on v i (drop i s) ≡ Some (v, i)
  unfolding digits_of
  digits_stop h t f = none_left v i (drop i s) f (rw (drop-cons s i 0 h, t))

  pub digits_past : i < length s → is_digit here ≡ true → 18446744073709551615 < v * 10 + (here - 48) → read_on v i (drop i s) ≡ None
  unfolding read_on digits_of worth
  digits_past h t past =
      let g = worth_grows (v * 10 + (here - 48)) (digits_of (drop (suc i) s)) in
      rw (drop-cons s i 0 h, t, lt-leb (worth (v * 10 + (here - 48)) (digits_of (drop (suc i) s))) 18446744073709551615 (omega arith))

  pub digits_more : i < length s → is_digit here ≡ true → read_on v i (drop i s) ≡ read_on (v * 10 + (here - 48)) (i + 1) (drop (i + 1) s)
  unfolding read_on digits_of worth
  digits_more h t =
      let n = length (digits_of (drop (suc i) s)) in
      let e : i + suc n ≡ suc i + n = omega arith in
      rw (add-one, drop-cons s i 0 h, t, e)

-- ---- a number: how the digits are written, by how many there are
none_written : (ds : List ℕ) → length ds ≡ 0 → well_written ds ≡ false
unfolding well_written
none_written [] h = refl
none_written (b ∷ ds) h = absurd (omega arith)

pub one_written : (ds : List ℕ) → length ds ≡ 1 → well_written ds ≡ true
unfolding well_written
one_written [] h = absurd (omega arith)
one_written (b ∷ []) h = refl
one_written (b ∷ c ∷ ds) h = absurd (omega arith)

pub more_written : (ds : List ℕ) → 1 < length ds → well_written ds ≡ not (eqb (get_or ds 0 0) 48)
unfolding well_written
more_written [] h = absurd (omega arith)
more_written (b ∷ []) h = absurd (omega arith)
more_written (b ∷ c ∷ ds) h = refl

-- the first of the digits at the front is the first byte
first_digit : (l : List ℕ) → 0 < length (digits_of l) → get_or (digits_of l) 0 0 ≡ get_or l 0 0
unfolding digits_of
first_digit [] h = refl
first_digit (b ∷ l) h = go (is_digit b) h
  where
    go : (t : Bool) → 0 < length (cond t (b ∷ digits_of l) []) → get_or (cond t (b ∷ digits_of l) []) 0 0 ≡ b
    go true h = refl
    go false h = absurd (omega arith)

-- the place after digits that have a value
value_next : (at : ℕ) (ds : List ℕ) (v next : ℕ) → value_at at ds ≡ Some (v, next) → next ≡ at + length ds
unfolding value_at
value_next at ds v next e = go (leb (worth 0 ds) 18446744073709551615) e
  where
    go : (t : Bool) → cond {A = Option (ℕ × ℕ)} t (Some (worth 0 ds, at + length ds)) None ≡ Some (v, next) → next ≡ at + length ds
    go true e = let p : ◌≡◌ {A = ℕ × ℕ} (worth 0 ds, at + length ds) (v, next) = cc in sym (ap (λ (q : ℕ × ℕ). q.1) p)
    go false e = cc

-- r is what `digits` answered
module _ (s : List ℕ) (at : ℕ) (r : Option (ℕ × ℕ)) (e : r ≡ value_at at (digits_of (drop at s))) where
  abbrev ds : List ℕ
  ds = digits_of (drop at s)

  pub number_bad : r ≡ None → None ≡ number_at s at
  unfolding number_at
  number_bad b = go (well_written ds)
    where
      go : (t : Bool) → None ≡ cond t (value_at at ds) None
      go true = sym b ∙ e
      go false = refl

  module _ (v next : ℕ) (g : r ≡ Some (v, next)) where
    reach : next ≡ at + length ds
    reach = value_next at ds v next (sym e ∙ g)

    taken : well_written ds ≡ true → Some (v, next) ≡ number_at s at
    unfolding number_at
    taken t = rw t (sym g ∙ e)

    refused : well_written ds ≡ false → None ≡ number_at s at
    unfolding number_at
    refused t = rw t

    pub number_none : next ≤ at → None ≡ number_at s at
    number_none h = let n = reach in refused (none_written ds (omega arith))

    pub number_one : at < next → next - at ≤ 1 → Some (v, next) ≡ number_at s at
    number_one h k = let n = reach in taken (one_written ds (omega arith))

    starts : 1 < next - at → well_written ds ≡ not (eqb (get_or s at 0) 48)
    starts k =
        let n = reach in
        let z : at + 0 ≡ at = omega arith in
        let f = first_digit (drop at s) (omega arith) in
        more_written ds (omega arith) ∙ ap (λ (b : ℕ). not (eqb b 48)) (f ∙ get_or-drop at s 0 0 ∙ ap (λ (i : ℕ). get_or s i 0) z)

    pub number_zero : 1 < next - at → (b : ℕ) → b ≡ get_or s at 0 → eqb b 48 ≡ true → None ≡ number_at s at
    number_zero k b o q = refused (starts k ∙ ap not (rw o at q))

    pub number_more : 1 < next - at → (b : ℕ) → b ≡ get_or s at 0 → eqb b 48 ≡ false → Some (v, next) ≡ number_at s at
    number_more k b o q = taken (starts k ∙ ap not (rw o at q))

-- ---- a space and a number: p is the place after the space
-- ---- a word
eqb_sym : (b c : ℕ) → eqb b c ≡ eqb c b
eqb_sym b c = go (eqb c b) refl
  where
    go : (t : Bool) → eqb c b ≡ t → eqb b c ≡ t
    go true e = let h = eqb-true c b e in eq-eqb b c (sym h)
    go false e = let h = eqb-false c b e in ne_eqb b c (λ p. h (sym p))

opens_is : (w s : List ℕ) → pointwise eqb w (take (length w) s) ≡ opens w s
unfolding opens
opens_is [] s = refl
opens_is (b ∷ w) [] = refl
opens_is (b ∷ w) (c ∷ s) = rw (eqb_sym b c, opens_is w s)

-- what stands from a place on
pub rest_is : (s : List ℕ) (at : ℕ) → take (length s - min at (length s)) (drop (min at (length s)) s) ≡ drop at s
rest_is s at = grind (arith, common_steps)

module _ (s : List ℕ) (at : ℕ) (w : List ℕ) where
  abbrev stands : Bool
  stands = pointwise eqb w (take (length w) (take (length s - min at (length s)) (drop (min at (length s)) s)))

  stands_is : stands ≡ opens w (drop at s)
  stands_is = rw (rest_is s at) (opens_is w (drop at s))

  pub word_there : stands ≡ true → Some (at + length w) ≡ word_at s at w
  unfolding word_at
  word_there e = rw (sym stands_is ∙ e)

  pub word_other : stands ≡ false → None ≡ word_at s at w
  unfolding word_at
  word_other e = rw (sym stands_is ∙ e)

-- ---- the first place of a byte, by what stands at it and before it
pub before_here : (s : List ℕ) (b k : ℕ) → k < length s → get_or s k 0 ≡ b → ((j : ℕ) → j < k → get_or s j 0 ≡ b → ⊥) → k ≡ length_before b s
unfolding length_before
before_here [] b k h e n = absurd (omega arith)
before_here (c ∷ s) b zero h e n = rw (eq-eqb c b e)
before_here (c ∷ s) b (suc k) h e n = rw (ne_eqb c b (n 0 (omega arith))) (ap suc (before_here s b k (omega arith) e (λ j l. n (suc j) (omega arith))))

pub before_none : (s : List ℕ) (b : ℕ) → ((j : ℕ) → j < length s → get_or s j 0 ≡ b → ⊥) → length s ≡ length_before b s
unfolding length_before
before_none [] b n = refl
before_none (c ∷ s) b n = rw (ne_eqb c b (n 0 (omega arith))) (ap suc (before_none s b (λ j l. n (suc j) (omega arith))))
