-- A number that is read is written as it stood: well-written digits are the decimal text of what they are worth. Assumes nothing.
use Rattle.std.proofs.Common.{◌≡◌, ℕ, zero, suc, ◌+◌, ◌-◌, ◌*◌, ◌/◌, ◌%◌, ◌^◌, ◌<◌, ◌≤◌, Bool, true, false, cond, not, eqb, ltb, leb, ◌&&◌, List, [], ◌∷◌, ◌++◌, length, drop, Some, refl, sym, ap, subst, ◌∙◌, append_assoc, append-nil, arith, pow-suc, lt-ltb, le-ltb, leb-true}
use Rattle.std.proofs.lemmas.Bool.{eqb-false}
use Rattle.std.proofs.Math.Seq.{drop-append_seam}
use Rattle.text.specs.Put.{decimal_in, decimal_of}
use Rattle.text.specs.Read.{is_digit, digits_of, worth, well_written, value_at, number_at}
use Rattle.text.proofs.Back.{back}
use Rattle.forms.specs.Read.{number_in}
use Rattle.forms.proofs.Steps.{cond_some, bind_some, some_is}

-- ---- room for more digits changes no text
room : (k m n : ℕ) → k ≤ m → n < 10 ^ suc k → decimal_in (suc m) n ≡ decimal_in (suc k) n
unfolding decimal_in
room zero m n h lt = rw (lt-ltb n 10 lt) refl
room (suc k) zero n h lt = absurd (omega arith)
room (suc k) (suc m) n h lt = ap (λ (t : List ℕ). cond (ltb n 10) ((48 + n) ∷ []) (t ++ ((48 + n % 10) ∷ []))) (room k m (n / 10) (omega arith) (let p = pow-suc 10 (suc k) in omega arith))

-- ---- a list of digits: each is one
is_digit_true : (b : ℕ) → is_digit b ≡ true → (48 ≤ b) × (b ≤ 57)
is_digit_true b e = go (leb 48 b) refl e
  where
    go : (t : Bool) → leb 48 b ≡ t → (t && leb b 57) ≡ true → (48 ≤ b) × (b ≤ 57)
    go true l r = (leb-true 48 b l, leb-true b 57 r)
    go false l r = absurd cc

first_digit : (b : ℕ) (ds : List ℕ) → digits_of (b ∷ ds) ≡ b ∷ ds → (48 ≤ b) × (b ≤ 57) × (digits_of ds ≡ ds)
unfolding digits_of
first_digit b ds e = go (is_digit b) refl e
  where
    go : (t : Bool) → is_digit b ≡ t → cond t (b ∷ digits_of ds) [] ≡ b ∷ ds → (48 ≤ b) × (b ≤ 57) × (digits_of ds ≡ ds)
    go true l r = let d = is_digit_true b l in (d.0, d.1, cc)
    go false l r = absurd cc

-- ---- digits after the text of a number that is not 0
put_digit : (k v b : ℕ) → 0 < v → 48 ≤ b → b ≤ 57 → decimal_in (suc k) (v * 10 + (b - 48)) ≡ decimal_in k v ++ (b ∷ [])
unfolding decimal_in
put_digit k v b p l h =
    let tens : (v * 10 + (b - 48)) / 10 ≡ v = omega arith in
    let last : 48 + (v * 10 + (b - 48)) % 10 ≡ b = omega arith in
    rw (le-ltb (v * 10 + (b - 48)) 10 (omega arith), tens, last) refl

put_digits : (k m v : ℕ) (ds : List ℕ) → 0 < v → digits_of ds ≡ ds → m ≡ k + length ds → decimal_in m (worth v ds) ≡ decimal_in k v ++ ds
unfolding worth
put_digits k m v [] p d e = let q : m ≡ k = omega arith in rw q (sym (append-nil (decimal_in k v)))
put_digits k m v (b ∷ ds) p d e =
    let f = first_digit b ds d in
    put_digits (suc k) m (v * 10 + (b - 48)) ds (omega arith) f.2 (omega arith)
    ∙ ap (λ (t : List ℕ). t ++ ds) (put_digit k v b p f.0 f.1)
    ∙ append_assoc (decimal_in k v) (b ∷ []) ds

-- ---- well-written digits are the text of what they are worth
one_digit : (k b : ℕ) → 48 ≤ b → b ≤ 57 → decimal_in (suc k) (0 * 10 + (b - 48)) ≡ b ∷ []
unfolding decimal_in
one_digit k b l h =
    let u : 48 + (0 * 10 + (b - 48)) ≡ b = omega arith in
    rw (lt-ltb (0 * 10 + (b - 48)) 10 (omega arith), u) refl

not_first : (b : ℕ) → not (eqb b 48) ≡ true → b ≡ 48 → ⊥
not_first b e = go (eqb b 48) refl e
  where
    go : (t : Bool) → eqb b 48 ≡ t → not t ≡ true → b ≡ 48 → ⊥
    go true l r = absurd cc
    go false l r = eqb-false b 48 l

text_is : (ds : List ℕ) → digits_of ds ≡ ds → well_written ds ≡ true → decimal_in (suc (19 + length ds)) (worth 0 ds) ≡ ds
unfolding worth well_written
text_is [] d w = absurd cc
text_is (b ∷ []) d w = let f = first_digit b [] d in one_digit 20 b f.0 f.1
text_is (b ∷ c ∷ ds) d w =
    let f = first_digit b (c ∷ ds) d in
    put_digits 21 (suc (19 + length (b ∷ c ∷ ds))) (0 * 10 + (b - 48)) (c ∷ ds) (omega (arith, not_first b w)) f.2 (omega arith)
    ∙ ap (λ (t : List ℕ). t ++ (c ∷ ds)) (one_digit 20 b f.0 f.1)

-- ---- the digits at the front
digits_again : (s : List ℕ) → digits_of (digits_of s) ≡ digits_of s
unfolding digits_of
digits_again [] = refl
digits_again (b ∷ s) = go (is_digit b) refl (digits_again s)
  where
    go : (t : Bool) → is_digit b ≡ t → digits_of (digits_of s) ≡ digits_of s → digits_of (cond t (b ∷ digits_of s) []) ≡ cond t (b ∷ digits_of s) []
    go true e h = rw (e, h) refl
    go false e h = refl

digits_front : (s : List ℕ) → s ≡ digits_of s ++ drop (length (digits_of s)) s
unfolding digits_of
digits_front [] = refl
digits_front (b ∷ s) = go (is_digit b) (digits_front s)
  where
    go : (t : Bool) → s ≡ digits_of s ++ drop (length (digits_of s)) s → b ∷ s ≡ cond t (b ∷ digits_of s) [] ++ drop (length (cond t (b ∷ digits_of s) [])) (b ∷ s)
    go true h = ap (λ (r : List ℕ). b ∷ r) h
    go false h = refl

-- ---- the two laws of a number
number_is : (s : List ℕ) (x : ℕ × ℕ) → number_at s 0 ≡ Some x → (s ≡ decimal_of x.0 ++ drop x.1 s) × (x.0 ≤ 18446744073709551615)
unfolding number_at value_at
number_is s x e =
    let ds = digits_of s in
    let b = cond_some (well_written ds) (value_at 0 ds) x e in
    let c = cond_some (leb (worth 0 ds) 18446744073709551615) (Some (worth 0 ds, 0 + length ds)) x b.1 in
    let h : worth 0 ds ≤ 18446744073709551615 = leb-true _ _ c.0 in
    let text : decimal_of (worth 0 ds) ≡ ds = sym (room 19 (19 + length ds) (worth 0 ds) (omega arith) (omega arith)) ∙ text_is ds (digits_again s) b.0 in
    let place : 0 + length ds ≡ length ds = omega arith in
    subst (λ (y : ℕ × ℕ). (s ≡ decimal_of y.0 ++ drop y.1 s) × (y.0 ≤ 18446744073709551615)) (some_is _ x c.1) (rw (text, place) (digits_front s), h)

pub number_takes : (s : List ℕ) (n : ℕ) (rest : List ℕ) → number_in s ≡ Some (n, rest) → (s ≡ decimal_of n ++ rest) × (n ≤ 18446744073709551615)
unfolding number_in
number_takes s n rest e =
    let a = bind_some (number_at s 0) (λ (x : ℕ × ℕ). Some (x.0, drop x.1 s)) (n, rest) e in
    subst (λ (y : ℕ × List ℕ). (s ≡ decimal_of y.0 ++ y.1) × (y.0 ≤ 18446744073709551615)) (some_is (a.0.0, drop a.0.1 s) (n, rest) a.2) (number_is s a.0 a.1)

pub number_again : (n : ℕ) (rest : List ℕ) → n ≤ 18446744073709551615 → digits_of rest ≡ [] → number_in (decimal_of n ++ rest) ≡ Some (n, rest)
unfolding number_in
number_again n rest h e =
    let place : 0 + length (decimal_of n) ≡ length (decimal_of n) = omega arith in
    rw (back n h [] rest e, place, drop-append_seam (decimal_of n) rest) refl
