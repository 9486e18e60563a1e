-- Entries that stand one behind the other, each after a space: a turn of the loop over them, whatever an entry is. Assumes nothing.
use Rattle.std.proofs.Common.{◌≡◌, ℕ, suc, ◌+◌, ◌-◌, ◌<◌, ◌≤◌, Bool, true, false, ◌&&◌, cond, eqb, List, [], ◌∷◌, ◌++◌, length, get_or, Option, Some, None, refl, sym, ap, ◌∙◌, arith, length-append, append_assoc, append-nil}
use borrow.Author.Tests.{eq-eqb, ne_eqb}
use Rattle.std.specs.Prelude.{codes}
use Rattle.text.specs.Read.{opens}
use Rattle.forms.specs.Read.{◌>>=◌, many_in}
use Rattle.requests.specs.Asked.{listed, entries_in}
use Rattle.requests.specs.Readers.{Puts}

abbrev space : List ℕ
space = codes " "

space_first : (s : List ℕ) → opens space s ≡ eqb (get_or s 0 0) 32
unfolding opens
space_first [] = refl
space_first (b ∷ s) = go (eqb b 32)
  where
    go : (t : Bool) → (t && true) ≡ t
    go true = refl
    go false = refl

pub no_space : (s : List ℕ) (b : ℕ) → b ≡ get_or s 0 0 → (b ≡ 32 → ⊥) → opens space s ≡ false
no_space s b e h = space_first s ∙ ne_eqb (get_or s 0 0) 32 (λ k. h (e ∙ k))

pub a_space : (s : List ℕ) (b : ℕ) → b ≡ get_or s 0 0 → b ≡ 32 → opens space s ≡ true
a_space s b e h = space_first s ∙ eq-eqb (get_or s 0 0) 32 (sym e ∙ h)

module _ {A : Type 0} where
  -- what is read with other entries before it
  abbrev pub with_front : List A → Option (List A × List ℕ) → Option (List A × List ℕ)
  with_front front (Some r) = Some (front ++ r.0, r.1)
  with_front front None = None

  front_nil : (r : Option (List A × List ℕ)) → with_front [] r ≡ r
  front_nil (Some r) = refl
  front_nil None = refl

  front_more : (front : List A) (x : A) (r : Option (List A × List ℕ)) → with_front front (r >>= λ others. Some (x ∷ others.0, others.1)) ≡ with_front (front ++ x ∷ []) r
  front_more front x (Some r) = ap (λ (l : List A). Some (l, r.1)) (sym (append_assoc front (x ∷ []) r.0))
  front_more front x None = refl

module _ {A : Type 0} (one : List ℕ → Option (A × List ℕ)) where
  -- after i entries: those, of which Holds says what the arrays hold, and what is still to be read
  pub record Going (Holds : List A → Type 0) (s : List ℕ) (i : ℕ) (rest : List ℕ) : Type 0 where
    pub front : List A
    pub count : length front ≡ i
    pub holds : Holds front
    pub is : with_front front (many_in one (length s - i) rest) ≡ many_in one (length s) s
    pub list : front ++ entries_in one (length s - i) rest ≡ entries_in one (length s) s

  pub starts : (Holds : List A → Type 0) (s : List ℕ) → Holds [] → Going Holds s 0 s
  starts Holds s h =
      let z : length s - 0 ≡ length s = omega arith in
      record { front = []; count = refl; holds = h; is = rw z (front_nil (many_in one (length s) s)); list = rw z refl }

  module _ (Holds : List A → Type 0) (s : List ℕ) (i : ℕ) (rest : List ℕ) (g : Going Holds s i rest) where
    -- what is read where a turn begins
    turn : (n : ℕ) → length s - i ≡ suc n → (t : Bool) → opens space rest ≡ t → with_front g.front (cond t (one rest >>= λ first. many_in one n first.1 >>= λ others. Some (first.0 ∷ others.0, others.1)) (Some ([], rest))) ≡ many_in one (length s) s
    unfolding many_in
    turn n e t o = rw (← o) (ap (λ (k : ℕ). with_front g.front (many_in one k rest)) (sym e) ∙ g.is)

    list_turn : (n : ℕ) → length s - i ≡ suc n → (t : Bool) → opens space rest ≡ t → g.front ++ cond t (listed (one rest) (entries_in one n)) [] ≡ entries_in one (length s) s
    unfolding entries_in
    list_turn n e t o = rw (← o) (ap (λ (k : ℕ). g.front ++ entries_in one k rest) (sym e) ∙ g.list)

    left : i < length s → length s - i ≡ suc (length s - (i + 1))
    left h = omega arith

    stopped : many_in one (length s) s ≡ Some (g.front ++ [], rest) → many_in one (length s) s ≡ Some (g.front, rest)
    stopped e = e ∙ ap (λ (l : List A). Some (l, rest)) (append-nil g.front)

    put : (Put : List A → Type 0) → (Holds g.front → Put g.front) → many_in one (length s) s ≡ Some (g.front ++ [], rest) → Puts Put (Some rest) (many_in one (length s) s)
    put Put f e = rw (stopped e) (refl, f g.holds)

    pub stops : i < length s → opens space rest ≡ false → (Put : List A → Type 0) → ((front : List A) → Holds front → Put front) → Puts Put (Some rest) (many_in one (length s) s)
    stops h o Put f = put Put (f g.front) (sym (turn (length s - (i + 1)) (left h) false o))

    pub ends : length s ≤ i → (Put : List A → Type 0) → ((front : List A) → Holds front → Put front) → Puts Put (Some rest) (many_in one (length s) s)
    unfolding many_in
    ends h Put f =
        let z : length s - i ≡ 0 = omega arith in
        put Put (f g.front) (sym (ap (λ (k : ℕ). with_front g.front (many_in one k rest)) (sym z) ∙ g.is))

    -- and the list that is then put
    pub stops_list : i < length s → opens space rest ≡ false → g.front ≡ entries_in one (length s) s
    stops_list h o = sym (append-nil g.front) ∙ list_turn (length s - (i + 1)) (left h) false o

    pub ends_list : length s ≤ i → g.front ≡ entries_in one (length s) s
    unfolding entries_in
    ends_list h =
        let z : length s - i ≡ 0 = omega arith in
        sym (append-nil g.front) ∙ ap (λ (k : ℕ). g.front ++ entries_in one k rest) (sym z) ∙ g.list

    pub fails_list : i < length s → opens space rest ≡ true → one rest ≡ None → g.front ≡ entries_in one (length s) s
    fails_list h o n = sym (append-nil g.front) ∙ (rw n at list_turn (length s - (i + 1)) (left h) true o)

    pub fails : i < length s → opens space rest ≡ true → one rest ≡ None → (Put : List A → Type 0) → Puts Put None (many_in one (length s) s)
    fails h o n Put =
        let e : None ≡ many_in one (length s) s = rw n at turn (length s - (i + 1)) (left h) true o in
        rw (← e) refl

    pub goes_on : i < length s → opens space rest ≡ true → (x : A) (next : List ℕ) → one rest ≡ Some (x, next) → (More : List A → Type 0) → ((front : List A) → length front ≡ i → Holds front → More (front ++ x ∷ [])) → Going More s (i + 1) next
    goes_on h o x next n More f =
        let n' = length s - (i + 1) in
        let e : with_front g.front (many_in one n' next >>= λ others. Some (x ∷ others.0, others.1)) ≡ many_in one (length s) s = rw n at turn n' (left h) true o in
        record {
          front = g.front ++ x ∷ [];
          count = rw length-append (omega (arith, g.count));
          holds = f g.front g.count g.holds;
          is = sym (front_more g.front x (many_in one n' next)) ∙ e;
          list = append_assoc g.front (x ∷ []) (entries_in one n' next) ∙ (rw n at list_turn n' (left h) true o);
        }
