-- A reader and its writer: what is read was written so, and what is written is read. They are put together as the readers are. Assumes nothing.
use Rattle.std.proofs.Common.{◌≡◌, ℕ, zero, suc, ◌+◌, ◌≤◌, Bool, true, false, cond, eqb, ◌&&◌, List, [], ◌∷◌, ◌++◌, length, drop, Option, Some, None, codes, refl, sym, ap, subst, ◌∙◌, append_assoc, append-nil, arith, length-append}
use Rattle.std.proofs.lemmas.Bool.{eqb-true, eq-eqb}
use Rattle.std.proofs.lemmas.List.Concat.{flat_map-cons}
use Rattle.std.proofs.Math.Seq.{drop-append_seam}
use Rattle.std.specs.List.{flat_map, AllByRecursion}
use Rattle.text.specs.Read.{opens, word_at}
use Rattle.forms.specs.Read.{◌>>=◌, after, many_in, or_else}
use Rattle.forms.proofs.Steps.{cond_some, cond_none, bind_some, some_is}
use Rattle.forms.proofs.Bounds.{opens_within}

-- P is what the reader takes in, of which it makes an A. Next is what has to stand behind it for it to be read, and Fits what can be written
pub record Codec {P A : Type 0} (Next : List ℕ → Type 0) (make : P → A) (read : List ℕ → Option (A × List ℕ)) (write : P → List ℕ) (Fits : P → Type 0) : Type 0 where
  pub takes : (s : List ℕ) (x : A) (rest : List ℕ) → read s ≡ Some (x, rest) → (p : P) × (make p ≡ x) × (s ≡ write p ++ rest) × Fits p
  pub again : (p : P) (rest : List ℕ) → Fits p → Next rest → read (write p ++ rest) ≡ Some (make p, rest)

-- the first law alone, in words for all that is made
pub record Takes {A : Type 0} (read : List ℕ → Option (A × List ℕ)) (write : A → List ℕ) (Fits : A → Type 0) : Type 0 where
  pub law : (s : List ℕ) (x : A) (rest : List ℕ) → read s ≡ Some (x, rest) → (s ≡ write x ++ rest) × Fits x

pub taken : {P A : Type 0} {Next : List ℕ → Type 0} {make : P → A} {read : List ℕ → Option (A × List ℕ)} {write : P → List ℕ} {Fits : P → Type 0} {written : A → List ℕ} {Fit : A → Type 0}
    → Codec Next make read write Fits → ((p : P) → Fits p → (written (make p) ≡ write p) × Fit (make p)) → Takes read written Fit
taken {A = A} {written = written} {Fit = Fit} c same = record {
  law = λ s x rest e.
      let d = c.takes s x rest e in
      let m = same d.0 d.3 in
      subst (λ (y : A). (s ≡ written y ++ rest) × Fit y) d.1 (d.2 ∙ ap (λ (t : List ℕ). t ++ rest) (sym m.0), m.1);
}

-- what stands behind does not matter
abbrev pub AnyRest : List ℕ → Type 0
AnyRest rest = Unit {0}

-- ---- a word
opens_front : (w s : List ℕ) → opens w s ≡ true → s ≡ w ++ drop (length w) s
unfolding opens
opens_front [] s e = refl
opens_front (b ∷ w) [] e = absurd cc
opens_front (b ∷ w) (c ∷ s) e = go (eqb c b) refl e (opens_front w s)
  where
    go : (t : Bool) → eqb c b ≡ t → (t && opens w s) ≡ true → (opens w s ≡ true → s ≡ w ++ drop (length w) s) → c ∷ s ≡ b ∷ (w ++ drop (length w) s)
    go true q h k = let p = eqb-true c b q in cc (k h)
    go false q h k = absurd cc

opens_again : (w s : List ℕ) → opens w (w ++ s) ≡ true
unfolding opens
opens_again [] s = refl
opens_again (b ∷ w) s = rw (eq-eqb b b refl) (opens_again w s)

pub after_takes : (s w r : List ℕ) → after s w ≡ Some r → s ≡ w ++ r
unfolding after word_at
after_takes s w r e =
    let a = bind_some (cond (opens w s) (Some (0 + length w)) None) (λ (at : ℕ). Some (drop at s)) r e in
    let b = cond_some (opens w s) (Some (0 + length w)) a.0 a.1 in
    let k : a.0 ≡ length w = omega (arith, some_is _ _ b.1) in
    opens_front w s b.0 ∙ ap (λ (t : List ℕ). w ++ t) (rw (← k) (some_is _ _ a.2))

pub after_again : (w r : List ℕ) → after (w ++ r) w ≡ Some r
unfolding after word_at
after_again w r =
    let k : 0 + length w ≡ length w = omega arith in
    rw (opens_again w r, k, drop-append_seam w r) refl

pub word : {P A : Type 0} {Next : List ℕ → Type 0} {make : P → A} {read : List ℕ → Option (A × List ℕ)} {write : P → List ℕ} {Fits : P → Type 0}
    → (w : List ℕ) → Codec Next make read write Fits → Codec Next make (λ s. after s w >>= read) (λ p. w ++ write p) Fits
word {read = read} {write = write} w c = record {
  takes = λ s x rest e.
      let a = bind_some (after s w) read (x, rest) e in
      let b = c.takes a.0 x rest a.2 in
      (b.0, b.1, after_takes s w a.0 a.1 ∙ ap (λ (t : List ℕ). w ++ t) b.2 ∙ sym (append_assoc w (write b.0) rest), b.3);
  again = λ p rest f n. rw (append_assoc w (write p) rest, after_again w (write p ++ rest)) (c.again p rest f n);
}

-- a word and what stands after it, or else another reader
pub choice : {P A : Type 0} {Next : List ℕ → Type 0} {make : P → A} {read other : List ℕ → Option (A × List ℕ)} {write : P → List ℕ} {Fits : P → Type 0} {written : A → List ℕ} {Fit : A → Type 0}
    → (w : List ℕ) → Codec Next make read write Fits → ((p : P) → Fits p → (written (make p) ≡ w ++ write p) × Fit (make p)) → Takes other written Fit
    → Takes (λ s. or_else (after s w) read (other s)) written Fit
choice {A = A} {read = read} {other = other} {written = written} {Fit = Fit} w c same others = record { law = λ s x rest. go s x rest (after s w) refl }
  where
    go : (s : List ℕ) (x : A) (rest : List ℕ) (o : Option (List ℕ)) → after s w ≡ o → or_else o read (other s) ≡ Some (x, rest) → (s ≡ written x ++ rest) × Fit x
    go s x rest (Some r) q e = (taken {written = written} {Fit = Fit} (word w c) same).law s x rest (ap (λ (k : Option (List ℕ)). k >>= read) q ∙ e)
    go s x rest None q e = others.law s x rest e

-- ---- a part, and what is made of it
module _ {A B : Type 0} {Next : List ℕ → Type 0} {read : List ℕ → Option (A × List ℕ)} {write : A → List ℕ} {Fits : A → Type 0} (c : Codec Next (λ a. a) read write Fits) where
  what : (make : A → B) (s : List ℕ) (a : A × List ℕ) (y : B × List ℕ) → read s ≡ Some a → Some (make a.0, a.1) ≡ Some y → (p : A) × (make p ≡ y.0) × (s ≡ write p ++ y.1) × Fits p × (p ≡ a.0)
  what make s a y e h =
      let m = some_is (make a.0, a.1) y h in
      let d = c.takes s a.0 a.1 e in
      (d.0, ap make d.1 ∙ ap (λ (z : B × List ℕ). z.0) m, d.2 ∙ ap (λ (z : B × List ℕ). write d.0 ++ z.1) m, d.3, d.1)

  -- at the end
  pub last : (make : A → B) → Codec Next make (λ s. read s >>= λ x. Some (make x.0, x.1)) write Fits
  last make = record {
    takes = λ s x rest e.
        let a = bind_some (read s) (λ (y : A × List ℕ). Some (make y.0, y.1)) (x, rest) e in
        let d = what make s a.0 (x, rest) a.1 a.2 in
        (d.0, d.1, d.2, d.3);
    again = λ a rest f n. rw (c.again a rest f n) refl;
  }

  -- at the end, where a test does not refuse it
  pub tested : (refuse : A → Bool) (make : A → B) → Codec Next make (λ s. read s >>= λ x. cond {A = Option (B × List ℕ)} (refuse x.0) None (Some (make x.0, x.1))) write (λ a. Fits a × (refuse a ≡ false))
  tested refuse make = record {
    takes = λ s x rest e.
        let a = bind_some (read s) (λ (y : A × List ℕ). cond {A = Option (B × List ℕ)} (refuse y.0) None (Some (make y.0, y.1))) (x, rest) e in
        let g = cond_none (refuse a.0.0) (Some (make a.0.0, a.0.1)) (x, rest) a.2 in
        let d = what make s a.0 (x, rest) a.1 g.1 in
        (d.0, d.1, d.2, (d.3, ap refuse d.4 ∙ g.0));
    again = λ a rest f n. rw (c.again a rest f.0 n, f.1) refl;
  }

  -- before a word that ends all
  pub closed : (w : List ℕ) (make : A → B) → ((rest : List ℕ) → Next (w ++ rest)) → Codec AnyRest make (λ s. read s >>= λ x. after x.1 w >>= λ r. Some (make x.0, r)) (λ a. write a ++ w) Fits
  closed w make n = record {
    takes = λ s x rest e.
        let a = bind_some (read s) (λ (y : A × List ℕ). after y.1 w >>= λ r. Some (make y.0, r)) (x, rest) e in
        let b = bind_some (after a.0.1 w) (λ (r : List ℕ). Some (make a.0.0, r)) (x, rest) a.2 in
        let m = some_is (make a.0.0, b.0) (x, rest) b.2 in
        let d = c.takes s a.0.0 a.0.1 a.1 in (
          d.0,
          ap make d.1 ∙ ap (λ (y : B × List ℕ). y.0) m,
          d.2 ∙ ap (λ (t : List ℕ). write d.0 ++ t) (after_takes a.0.1 w b.0 b.1) ∙ sym (append_assoc (write d.0) w b.0) ∙ ap (λ (y : B × List ℕ). (write d.0 ++ w) ++ y.1) m,
          d.3,
        );
    again = λ a rest f u. rw (append_assoc (write a) w rest, c.again a (w ++ rest) f (n rest), after_again w rest) refl;
  }

-- a part, and then others, of which and of the part something is made
pub then : {A Q B : Type 0} {N M : List ℕ → Type 0} {read : List ℕ → Option (A × List ℕ)} {write : A → List ℕ} {Fits : A → Type 0}
    {make : A → Q → B} {others : A → List ℕ → Option (B × List ℕ)} {written : Q → List ℕ} {Fit : Q → Type 0}
    → Codec N (λ a. a) read write Fits → ((a : A) → Codec M (make a) (others a) written Fit) → ((q : Q) (rest : List ℕ) → M rest → N (written q ++ rest))
    → Codec M (λ (p : A × Q). make p.0 p.1) (λ s. read s >>= λ x. others x.0 x.1) (λ p. write p.0 ++ written p.1) (λ p. Fits p.0 × Fit p.1)
then {A = A} {Q = Q} {read = read} {write = write} {make = make} {others = others} {written = written} c d n = record {
  takes = λ s x rest e.
      let a = bind_some (read s) (λ (y : A × List ℕ). others y.0 y.1) (x, rest) e in
      let f = c.takes s a.0.0 a.0.1 a.1 in
      let g = (d a.0.0).takes a.0.1 x rest a.2 in
      ((f.0, g.0), ap (λ (y : A). make y g.0) f.1 ∙ g.1, f.2 ∙ ap (λ (t : List ℕ). write f.0 ++ t) g.2 ∙ sym (append_assoc (write f.0) (written g.0) rest), (f.3, g.3));
  again = λ p rest f m.
      rw (append_assoc (write p.0) (written p.1) rest, c.again p.0 (written p.1 ++ rest) f.0 (n p.1 rest m)) ((d p.0).again p.1 rest f.1 m);
}

-- the same, said of what is made
pub of_made : {P A : Type 0} {N : List ℕ → Type 0} {make : P → A} {read : List ℕ → Option (A × List ℕ)} {write : P → List ℕ} {Fits : P → Type 0} {Fit : A → Type 0}
    → Codec N make read write Fits → (parts : A → P) → ((p : P) → Fits p → Fit (make p) × (parts (make p) ≡ p)) → ((x : A) → Fit x → Fits (parts x) × (make (parts x) ≡ x))
    → Codec N (λ x. x) read (λ x. write (parts x)) Fit
of_made {P = P} {A = A} {make = make} {read = read} {write = write} {Fit = Fit} c parts there back = record {
  takes = λ s x rest e.
      let d = c.takes s x rest e in
      let t = there d.0 d.3 in
      (x, refl, d.2 ∙ ap (λ (p : P). write p ++ rest) (sym t.1 ∙ ap parts d.1), subst Fit d.1 t.0);
  again = λ x rest f n.
      let b = back x f in
      c.again (parts x) rest b.0 n ∙ ap (λ (y : A). Some (y, rest)) b.1;
}

-- ---- as many as stand there, each of which begins with a space
module _ {A : Type 0} {one : List ℕ → Option (A × List ℕ)} {write : A → List ℕ} {Fits : A → Type 0} (c : Codec AnyRest (λ a. a) one write Fits) (starts : (a : A) (rest : List ℕ) → opens (codes " ") (write a ++ rest) ≡ true) where
  abbrev Were : List ℕ → List A × List ℕ → Type 0
  Were s x = (s ≡ flat_map write x.0 ++ x.1) × AllByRecursion Fits x.0

  many_takes : (n : ℕ) (s : List ℕ) (x : List A × List ℕ) → many_in one n s ≡ Some x → Were s x
  unfolding many_in
  many_takes zero s x e = subst (Were s) (some_is ([], s) x e) (refl, tt)
  many_takes (suc n) s x e = go (opens (codes " ") s) e (many_takes n)
    where
      go : (t : Bool) → cond {A = Option (List A × List ℕ)} t (one s >>= λ first. many_in one n first.1 >>= λ others. Some (first.0 ∷ others.0, others.1)) (Some ([], s)) ≡ Some x
          → ((r : List ℕ) (y : List A × List ℕ) → many_in one n r ≡ Some y → Were r y) → Were s x
      go true h k =
          let a = bind_some (one s) (λ (y : A × List ℕ). many_in one n y.1 >>= λ others. Some (y.0 ∷ others.0, others.1)) x h in
          let b = bind_some (many_in one n a.0.1) (λ (y : List A × List ℕ). Some (a.0.0 ∷ y.0, y.1)) x a.2 in
          let d = (taken {written = write} {Fit = Fits} c (λ p f. (refl, f))).law s a.0.0 a.0.1 a.1 in
          let r = k a.0.1 b.0 b.1 in
          subst (Were s) (some_is (a.0.0 ∷ b.0.0, b.0.1) x b.2)
          (d.0 ∙ ap (λ (t : List ℕ). write a.0.0 ++ t) r.0 ∙ sym (append_assoc (write a.0.0) (flat_map write b.0.0) b.0.1) ∙ ap (λ (t : List ℕ). t ++ b.0.1) (sym (flat_map-cons write a.0.0 b.0.0)), (d.1, r.1))
      go false h k = subst (Were s) (some_is ([], s) x h) (refl, tt)

  many_again : (n : ℕ) (xs : List A) (rest : List ℕ) → length xs ≤ n → AllByRecursion Fits xs → opens (codes " ") rest ≡ false → many_in one n (flat_map write xs ++ rest) ≡ Some (xs, rest)
  unfolding many_in
  many_again zero [] rest l f e = refl
  many_again (suc n) [] rest l f e = rw e refl
  many_again zero (x ∷ xs) rest l f e = absurd (omega arith)
  many_again (suc n) (x ∷ xs) rest l f e =
      let regrouped : flat_map write (x ∷ xs) ++ rest ≡ write x ++ (flat_map write xs ++ rest) = ap (λ (t : List ℕ). t ++ rest) (flat_map-cons write x xs) ∙ append_assoc (write x) (flat_map write xs) rest in
      ap (many_in one (suc n)) regrouped ∙ rw (starts x (flat_map write xs ++ rest), c.again x (flat_map write xs ++ rest) f.0 tt, many_again n xs rest (omega arith) f.1 e) refl

  -- each is a byte or more
  many_long : (xs : List A) → length xs ≤ length (flat_map write xs)
  many_long [] = omega arith
  many_long (x ∷ xs) =
      let one_byte : 1 ≤ length (write x) = opens_within (codes " ") (write x) (rw append-nil at (starts x [])) in
      rw (flat_map-cons write x xs) (omega (arith, length-append (write x) (flat_map write xs), many_long xs))

  pub many : Codec (λ rest. opens (codes " ") rest ≡ false) (λ xs. xs) (λ s. many_in one (length s) s) (flat_map write) (AllByRecursion Fits)
  many = record {
    takes = λ s x rest e. let t = many_takes (length s) s (x, rest) e in (x, refl, t.0, t.1);
    again = λ xs rest f e. many_again (length (flat_map write xs ++ rest)) xs rest (omega (arith, many_long xs, length-append (flat_map write xs) rest)) f e;
  }
