-- A number that is read and a word that stands there end within the line. Assumes nothing.
use Rattle.std.proofs.Common.{◌≡◌, ℕ, ◌+◌, ◌≤◌, Bool, true, false, cond, eqb, leb, ◌&&◌, List, [], ◌∷◌, length, drop, Some, ap, arith, length-drop}
use Rattle.text.specs.Read.{is_digit, digits_of, worth, well_written, value_at, number_at, opens, word_at}
use Rattle.forms.proofs.Steps.{cond_some, some_is}

pub digits_within : (s : List ℕ) → length (digits_of s) ≤ length s
unfolding digits_of
digits_within [] = omega arith
digits_within (b ∷ s) = go (is_digit b) (digits_within s)
  where
    go : (t : Bool) → length (digits_of s) ≤ length s → length (cond t (b ∷ digits_of s) []) ≤ length (b ∷ s)
    go true h = omega arith
    go false h = omega arith

pub opens_within : (w s : List ℕ) → opens w s ≡ true → length w ≤ length s
unfolding opens
opens_within [] s e = omega arith
opens_within (b ∷ w) [] e = absurd cc
opens_within (b ∷ w) (c ∷ s) e = go (eqb c b) e (opens_within w s)
  where
    go : (t : Bool) → (t && opens w s) ≡ true → (opens w s ≡ true → length w ≤ length s) → length (b ∷ w) ≤ length (c ∷ s)
    go true h k = omega (arith, k h)
    go false h k = absurd cc

pub number_within : (s : List ℕ) (at n next : ℕ) → at ≤ length s → number_at s at ≡ Some (n, next) → next ≤ length s
unfolding number_at value_at
number_within s at n next h e =
    let ds = digits_of (drop at s) in
    let a = cond_some (well_written ds) (value_at at ds) (n, next) e in
    let b = cond_some (leb (worth 0 ds) 18446744073709551615) (Some (worth 0 ds, at + length ds)) (n, next) a.1 in
    let k : at + length ds ≡ next = ap (λ (x : ℕ × ℕ). x.1) (some_is (worth 0 ds, at + length ds) (n, next) b.1) in
    omega (arith, digits_within (drop at s), length-drop at s)

pub word_within : (s : List ℕ) (at : ℕ) (w : List ℕ) (next : ℕ) → at ≤ length s → word_at s at w ≡ Some next → next ≤ length s
unfolding word_at
word_within s at w next h e =
    let a = cond_some (opens w (drop at s)) (Some (at + length w)) next e in
    let k : at + length w ≡ next = cc in
    omega (arith, opens_within w (drop at s) a.0, length-drop at s)

-- from the front
pub number_fits : (s : List ℕ) (n next : ℕ) → number_at s 0 ≡ Some (n, next) → next ≤ length s
number_fits s n next e = number_within s 0 n next (omega arith) e

pub word_fits : (s w : List ℕ) (next : ℕ) → word_at s 0 w ≡ Some next → next ≤ length s
word_fits s w next e = word_within s 0 w next (omega arith) e
