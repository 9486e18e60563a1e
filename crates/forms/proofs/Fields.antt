-- The parts of a form: each reader and its writer. Assumes nothing.
use Rattle.std.proofs.Common.{◌≡◌, ℕ, zero, suc, ◌<◌, Bool, true, false, cond, eqb, ltb, List, [], ◌∷◌, ◌++◌, Option, Some, None, codes, refl, sym, ◌∙◌, arith, lit≤, ltb-false, ne_eqb}
use Rattle.std.proofs.lemmas.Bool.{eqb-true, eqb-false}
use Rattle.text.specs.Put.{decimal_of}
use Rattle.text.specs.Read.{digits_of, well_written, number_at, opens, word_at}
use Rattle.layers.specs.declared.LayerId.{LayerId}
use Rattle.forms.specs.declared.Coordinate.{Coordinate}
use Rattle.forms.specs.declared.Spot.{Spot}
use Rattle.forms.specs.declared.Entry.{Entry}
use Rattle.forms.specs.declared.Entry.TheVariants.{Key, Ask}
use Rattle.forms.specs.declared.Place.{Place}
use Rattle.forms.specs.Form as form
use Rattle.forms.specs.Form.{IsNumber, IsCoordinate, IsLayer, IsSpot, IsEntry, IsPlace}
use Rattle.forms.specs.Read.{◌>>=◌, after, number_in, argument_in, flag_in, below_in, above_in, signed_in, coordinate_in, spot_in, layer_in, key_in, ask_in, key_or_ask, entry_in, place_in, or_else}
use Rattle.forms.proofs.Digits.{number_takes, number_again}
use Rattle.forms.proofs.Codec.{Codec, Takes, AnyRest, after_again, taken, choice, word, last, tested, closed, then, of_made}

-- no digit stands there, with which a number would go on
abbrev pub Clear : List ℕ → Type 0
Clear rest = digits_of rest ≡ []

pub space_ends : (s : List ℕ) → Clear (codes " " ++ s)
unfolding digits_of
space_ends s = refl

pub bracket_ends : (s : List ℕ) → Clear (codes ")" ++ s)
unfolding digits_of
bracket_ends s = refl

-- ---- numbers, flags and layers
number : Codec Clear (λ n. n) number_in decimal_of IsNumber
number = record {
  takes = λ s n rest e. let t = number_takes s n rest e in (n, refl, t.0, t.1);
  again = number_again;
}

pub argument : Codec Clear (λ n. n) argument_in form.number IsNumber
unfolding argument_in
argument = word (codes " ") number

flag_of : (n : ℕ) → n < 2 → form.flag (eqb n 1) ≡ n
flag_of zero h = refl
flag_of (suc zero) h = refl
flag_of (suc (suc n)) h = absurd (omega arith)

of_flag : (b : Bool) → (IsNumber (form.flag b) × (ltb 1 (form.flag b) ≡ false)) × (eqb (form.flag b) 1 ≡ b)
of_flag true = ((lit≤ tt, refl), refl)
of_flag false = ((lit≤ tt, refl), refl)

flag : Codec Clear (λ b. b) flag_in (λ b. form.number (form.flag b)) (λ b. Unit {0})
unfolding flag_in
flag = of_made (tested argument (λ n. ltb 1 n) (λ n. eqb n 1)) form.flag (λ n f. let h = ltb-false 1 n f.1 in (tt, flag_of n (omega arith))) (λ b u. of_flag b)

pub layer : Codec Clear (λ l. l) layer_in form.layer IsLayer
unfolding layer_in
layer = of_made (then argument (λ o. last argument (layer_of o)) (λ n rest h. space_ends _)) (λ l. (l.order, l.id)) (λ p f. (f, refl)) (λ l f. (f, refl))
  where
    layer_of : ℕ → ℕ → LayerId
    layer_of order id = record { order = order; id = id }

-- ---- coordinates
abbrev coordinate_of : Bool → ℕ → Coordinate
coordinate_of below steps = record { below = below; steps = steps }

below : Codec Clear (coordinate_of true) below_in decimal_of (λ n. IsNumber n × (eqb n 0 ≡ false))
unfolding below_in
below = tested number (λ n. eqb n 0) (coordinate_of true)

above : Codec Clear (coordinate_of false) above_in decimal_of IsNumber
unfolding above_in
above = last number (coordinate_of false)

-- where a number stands, no minus does
no_number : (s : List ℕ) (b : ℕ) → b ≡ 45 → number_in (b ∷ s) ≡ None
unfolding number_in number_at digits_of well_written
no_number s b q = rw q refl

no_minus : (s : List ℕ) (x : ℕ × List ℕ) → number_in s ≡ Some x → after s (codes "-") ≡ None
unfolding after word_at opens
no_minus [] x e = refl
no_minus (b ∷ s) x e = go (eqb b 45) refl
  where
    go : (t : Bool) → eqb b 45 ≡ t → after (b ∷ s) (codes "-") ≡ None
    go true q = let n = no_number s b (eqb-true b 45 q) in absurd cc
    go false q = rw q refl

signed_is : (s : List ℕ) (o : Option (List ℕ)) → signed_in s o ≡ or_else o below_in (above_in s)
signed_is s (Some r) = refl
signed_is s None = refl

signed_takes : Takes (λ s. or_else (after s (codes "-")) below_in (above_in s)) (λ c. cond c.below (codes "-") [] ++ decimal_of c.steps) IsCoordinate
signed_takes =
    choice (codes "-") below (λ n f. (refl, record { number = f.0; not_zero = λ b z. eqb-false n 0 f.1 z }))
    (taken above (λ n f. (refl, record { number = f; not_zero = λ b z. absurd cc })))

signed_again : (b : Bool) (n : ℕ) (rest : List ℕ) → IsCoordinate (coordinate_of b n) → Clear rest
    → signed_in ((cond b (codes "-") [] ++ decimal_of n) ++ rest) (after ((cond b (codes "-") [] ++ decimal_of n) ++ rest) (codes "-")) ≡ Some (coordinate_of b n, rest)
signed_again true n rest f h = rw (after_again (codes "-") (decimal_of n ++ rest)) (below.again n rest (f.number, ne_eqb n 0 (f.not_zero refl)) h)
signed_again false n rest f h = rw (no_minus (decimal_of n ++ rest) (n, rest) (number_again n rest f.number h)) (above.again n rest f.number h)

signed : Codec Clear (λ c. c) (λ s. signed_in s (after s (codes "-"))) (λ c. cond c.below (codes "-") [] ++ decimal_of c.steps) IsCoordinate
signed = record {
  takes = λ s c rest e. let t = signed_takes.law s c rest (sym (signed_is s (after s (codes "-"))) ∙ e) in (c, refl, t.0, t.1);
  again = λ c rest f h. signed_again c.below c.steps rest f h;
}

pub coordinate : Codec Clear (λ c. c) coordinate_in form.coordinate IsCoordinate
unfolding coordinate_in
coordinate = word (codes " ") signed

pub spot : Codec Clear (λ s. s) spot_in form.spot IsSpot
unfolding spot_in
spot = of_made (then coordinate (λ x. last coordinate (spot_of x)) (λ y rest h. space_ends _)) (λ s. (s.x, s.y)) (λ p f. (f, refl)) (λ s f. (f, refl))
  where
    spot_of : Coordinate → Coordinate → Spot
    spot_of x y = record { x = x; y = y }

-- ---- an entry of `begin`
key : Codec AnyRest (λ (p : ℕ × (Bool × ℕ)). Key p.0 p.1.0 p.1.1) key_in (λ p. form.number p.0 ++ (form.number (form.flag p.1.0) ++ (form.number p.1.1 ++ codes ")"))) (λ p. IsNumber p.0 × (Unit {0} × IsNumber p.1.1))
unfolding key_in
key = then argument (λ k. then flag (λ d. closed argument (codes ")") (λ m. Key k d m) bracket_ends) (λ m rest u. space_ends _)) (λ p rest u. space_ends _)

ask : Codec AnyRest Ask ask_in (λ i. form.number i ++ codes ")") IsNumber
unfolding ask_in
ask = closed argument (codes ")") (λ i. Ask i) bracket_ends

key_or_ask_is : (s : List ℕ) (o : Option (List ℕ)) → key_or_ask s o ≡ or_else o key_in (after s (codes " (ask") >>= ask_in)
key_or_ask_is s (Some r) = refl
key_or_ask_is s None = refl

entry_takes : Takes (λ s. or_else (after s (codes " (key")) key_in (after s (codes " (ask") >>= ask_in)) form.entry IsEntry
entry_takes = choice (codes " (key") key (λ p f. (refl, (f.0, f.1.1))) (taken (word (codes " (ask") ask) (λ i f. (refl, f)))

entry_again : (e : Entry) (rest : List ℕ) → IsEntry e → entry_in (form.entry e ++ rest) ≡ Some (e, rest)
unfolding entry_in after word_at opens
entry_again (Key k d m) rest f = key.again (k, (d, m)) rest (f.0, (tt, f.1)) tt
entry_again (Ask i) rest f = ask.again i rest f tt

pub entry : Codec AnyRest (λ e. e) entry_in form.entry IsEntry
unfolding entry_in
entry = record {
  takes = λ s e rest q. let t = entry_takes.law s e rest (sym (key_or_ask_is s (after s (codes " (key"))) ∙ q) in (e, refl, t.0, t.1);
  again = λ e rest f u. entry_again e rest f;
}

-- ---- an entry of `end`
pub place : Codec AnyRest (λ p. p) place_in form.place IsPlace
unfolding place_in
place = of_made (word (codes " (") (then number (λ i. then spot (λ low. closed spot (codes ")") (place_of i low) bracket_ends) (λ high rest u. space_ends _)) (λ p rest u. space_ends _)))
    (λ p. (p.id, (p.min, p.max))) (λ p f. ((f.0, f.1.0, f.1.1), refl)) (λ p f. ((f.0, (f.1, f.2)), refl))
  where
    place_of : ℕ → Spot → Spot → Place
    place_of id low high = record { id = id; min = low; max = high }
