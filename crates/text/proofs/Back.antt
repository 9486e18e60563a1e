-- The decimal text of a number reads back as the number. Assumes nothing.
use mathlib.Core.Path.{◌≡◌, refl, sym, ap, ◌∙◌}
use Prim.Native.Nat.{ℕ, zero, suc, ◌+◌, ◌-◌, ◌*◌, ◌/◌, ◌%◌, ◌^◌, ◌<◌, ◌≤◌}
use native.Mathlib.Nat.{pow-suc}
use native.Mathlib.Omega.{arith}
use mathlib.Core.Bool.{Bool, true, false, not, cond}
use mathlib.Core.List.{List, [], ◌∷◌, ◌++◌, append_assoc, append-nil}
use lib.Dec.{ltb}
use lib.ListN.{length, get_or, drop, length-append, get_or-append}
use lib.Seq.{drop-append_seam}
use borrow.Author.Tests.{le-leb, lt-ltb, le-ltb, ltb-true, ltb-false, ne_eqb}
use Rattle.text.specs.Put.{decimal_in, decimal_of}
use Rattle.text.specs.Read.{digits_of, worth, well_written, value_at, number_at}
use Rattle.std.specs.Prelude.{Some}
use Rattle.text.proofs.Reading.{one_written, more_written}

-- ---- a text is made of digits, whatever stands after it
digit_front : (m : ℕ) → m < 10 → (rest : List ℕ) → digits_of ((48 + m) ∷ rest) ≡ (48 + m) ∷ digits_of rest
unfolding digits_of
digit_front m h rest = rw (le-leb 48 (48 + m) (omega arith), le-leb (48 + m) 57 (omega arith))

text_digits : (k n : ℕ) (rest : List ℕ) → digits_of (decimal_in k n ++ rest) ≡ decimal_in k n ++ digits_of rest
unfolding decimal_in
text_digits zero n rest = refl
text_digits (suc k) n rest = go (ltb n 10) refl (text_digits k (n / 10) ((48 + n % 10) ∷ rest))
  where
    go : (t : Bool) → ltb n 10 ≡ t → digits_of (decimal_in k (n / 10) ++ (48 + n % 10) ∷ rest) ≡ decimal_in k (n / 10) ++ digits_of ((48 + n % 10) ∷ rest)
        → digits_of (cond t ((48 + n) ∷ []) (decimal_in k (n / 10) ++ ((48 + n % 10) ∷ [])) ++ rest) ≡ cond t ((48 + n) ∷ []) (decimal_in k (n / 10) ++ ((48 + n % 10) ∷ [])) ++ digits_of rest
    go true e r = digit_front n (ltb-true n 10 e) rest
    go false e r =
        ap digits_of (append_assoc (decimal_in k (n / 10)) ((48 + n % 10) ∷ []) rest)
        ∙ r
        ∙ ap (λ (l : List ℕ). decimal_in k (n / 10) ++ l) (digit_front (n % 10) (omega arith) rest)
        ∙ sym (append_assoc (decimal_in k (n / 10)) ((48 + n % 10) ∷ []) (digits_of rest))

-- ---- what a text is worth
worth_more : (v : ℕ) (ds : List ℕ) (d : ℕ) → worth v (ds ++ (d ∷ [])) ≡ worth v ds * 10 + (d - 48)
unfolding worth
worth_more v [] d = refl
worth_more v (b ∷ ds) d = worth_more (v * 10 + (b - 48)) ds d

tenth : (k n : ℕ) → n < 10 ^ suc k → n / 10 < 10 ^ k
tenth k n h = let p = pow-suc 10 k in omega arith

text_worth : (k n : ℕ) → n < 10 ^ k → worth 0 (decimal_in k n) ≡ n
unfolding decimal_in worth
text_worth zero n h = omega arith
text_worth (suc k) n h = go (ltb n 10) refl (text_worth k (n / 10) (tenth k n h))
  where
    go : (t : Bool) → ltb n 10 ≡ t → worth 0 (decimal_in k (n / 10)) ≡ n / 10 → worth 0 (cond t ((48 + n) ∷ []) (decimal_in k (n / 10) ++ ((48 + n % 10) ∷ []))) ≡ n
    go true e r = omega arith
    go false e r = let w = worth_more 0 (decimal_in k (n / 10)) (48 + n % 10) in omega arith

-- ---- a text has no 0 in front of others
some_text : (k n : ℕ) → 0 < length (decimal_in (suc k) n)
unfolding decimal_in
some_text k n = go (ltb n 10)
  where
    go : (t : Bool) → 0 < length (cond t ((48 + n) ∷ []) (decimal_in k (n / 10) ++ ((48 + n % 10) ∷ [])))
    go true = omega arith
    go false = simp length-append (omega arith)

text_front : (k n : ℕ) → 0 < n → n < 10 ^ suc k → get_or (decimal_in (suc k) n) 0 0 ≡ 48 → ⊥
unfolding decimal_in
text_front zero n p h e = let d : 48 + n ≡ 48 = rw (lt-ltb n 10 h) at e in omega arith
text_front (suc k) n p h e = go (ltb n 10) refl (λ q. text_front k (n / 10) q (tenth (suc k) n h)) e
  where
    go : (t : Bool) → ltb n 10 ≡ t → (0 < n / 10 → get_or (decimal_in (suc k) (n / 10)) 0 0 ≡ 48 → ⊥) → get_or (cond t ((48 + n) ∷ []) (decimal_in (suc k) (n / 10) ++ ((48 + n % 10) ∷ []))) 0 0 ≡ 48 → ⊥
    go true u r d = omega arith
    go false u r d =
        let g = ltb-false n 10 u in
        r (omega arith) (sym (get_or-append (decimal_in (suc k) (n / 10)) ((48 + n % 10) ∷ []) 0 0 (some_text k (n / 10))) ∙ d)

one_text : (k n : ℕ) → n < 10 → well_written (decimal_in (suc k) n) ≡ true
unfolding decimal_in
one_text k n h = one_written (decimal_in (suc k) n) (rw (lt-ltb n 10 h))

long_text : (k n : ℕ) → 10 ≤ n → 1 < length (decimal_in (suc (suc k)) n)
unfolding decimal_in
long_text k n h =
    let s = some_text k (n / 10) in
    rw (le-ltb n 10 h, length-append (decimal_in (suc k) (n / 10)) ((48 + n % 10) ∷ [])) (omega arith)

text_written : (k n : ℕ) → n < 10 ^ suc k → well_written (decimal_in (suc k) n) ≡ true
text_written zero n h = one_text zero n h
text_written (suc k) n h = go (ltb n 10) refl
  where
    go : (t : Bool) → ltb n 10 ≡ t → well_written (decimal_in (suc (suc k)) n) ≡ true
    go true u = one_text (suc k) n (ltb-true n 10 u)
    go false u =
        let g = ltb-false n 10 u in
        more_written (decimal_in (suc (suc k)) n) (long_text k n g) ∙ ap not (ne_eqb (get_or (decimal_in (suc (suc k)) n) 0 0) 48 (text_front (suc k) n (omega arith) h))

pub back : (n : ℕ) → n ≤ 18446744073709551615 → (before after : List ℕ) → digits_of after ≡ [] → number_at (before ++ (decimal_of n ++ after)) (length before) ≡ Some (n, length before + length (decimal_of n))
unfolding number_at value_at
back n h before after e =
    let f = decimal_of n in
    let d : digits_of (drop (length before) (before ++ (f ++ after))) ≡ f = ap digits_of (drop-append_seam before (f ++ after)) ∙ text_digits 20 n after ∙ ap (λ (l : List ℕ). f ++ l) e ∙ append-nil f in
    let k : n < 10 ^ 20 = omega arith in
    rw (d, text_written 19 n k, text_worth 20 n k, le-leb n 18446744073709551615 h)
