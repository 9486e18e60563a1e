-- What a pass keeps which gives way only to a better one: none is better than it, and it is the first of those. Assumes nothing.
use mathlib.Core.Path.{◌≡◌, refl, sym, ◌∙◌}
use Prim.Native.Nat.{ℕ}
use mathlib.Core.Bool.{Bool, true, false, ◌||◌, cond, true≢false, false≢true}
use mathlib.Core.List.{List, [], ◌∷◌, Memᴰ}
use Rattle.search.specs.declared.Scored.{Scored}
use Rattle.search.specs.Search.{is_better, is_beaten, first_unbeaten}
use Rattle.search.proofs.Better.{Good, Orders, better_orders}

abbrev pub AllGood : List Scored → Type 0
AllGood [] = Unit {0}
AllGood (s ∷ rest) = Good s × AllGood rest

-- ---- p || q
or_false : (p q : Bool) → p ≡ false → q ≡ false → (p || q) ≡ false
or_false false q h k = k
or_false true q h k = h

left_false : (p q : Bool) → (p || q) ≡ false → p ≡ false
left_false false q h = refl
left_false true q h = h

right_false : (p q : Bool) → (p || q) ≡ false → q ≡ false
right_false false q h = h
right_false true q h = absurd (true≢false h)

pub pick_good : (t : Bool) (s b : Scored) → Good s → Good b → Good (cond t s b)
pick_good true s b S B = S
pick_good false s b S B = B

module _ (better : Scored → Scored → Bool) where
  unfoldable pub least_of : Scored → List Scored → Scored
  least_of b [] = b
  least_of b (s ∷ rest) = least_of (cond (better s b) s b) rest

  pub least_good : (b : Scored) (l : List Scored) → Good b → AllGood l → Good (least_of b l)
  unfolding least_of
  least_good b [] B L = B
  least_good b (s ∷ rest) B L = least_good (cond (better s b) s b) rest (pick_good (better s b) s b L.0 B) L.1

  -- it is one of them
  pub least_in : (b : Scored) (l : List Scored) → Memᴰ (least_of b l) (b ∷ l)
  unfolding least_of
  least_in b [] = Memᴰ.head refl
  least_in b (s ∷ rest) = go (better s b) (least_of (cond (better s b) s b) rest) (least_in (cond (better s b) s b) rest)
    where
      go : (t : Bool) (m : Scored) → Memᴰ m (cond t s b ∷ rest) → Memᴰ m (b ∷ (s ∷ rest))
      go true m i = Memᴰ.tail i
      go false m (Memᴰ.head e) = Memᴰ.head e
      go false m (Memᴰ.tail i) = Memᴰ.tail (Memᴰ.tail i)

  module _ (o : Orders better) where
    irreflexive : (a : Scored) → Good a → better a a ≡ false
    irreflexive a A = go (better a a) (o.one_way a a A A)
      where
        go : (t : Bool) → (t ≡ true → t ≡ false) → t ≡ false
        go true h = h refl
        go false h = refl

    -- none is better
    pub least_unbeaten : (b : Scored) (l : List Scored) → Good b → AllGood l → is_beaten better (b ∷ l) (least_of b l) ≡ false
    unfolding least_of is_beaten
    least_unbeaten b [] B L = or_false (better b b) false (irreflexive b B) refl
    least_unbeaten b (s ∷ rest) B L =
        let k = cond (better s b) s b in
        let K = pick_good (better s b) s b L.0 B in
        go (better s b) (least_of k rest) refl (least_good k rest K L.1) (least_unbeaten k rest K L.1)
      where
        go : (t : Bool) (m : Scored) → better s b ≡ t → Good m → (better (cond t s b) m || is_beaten better rest m) ≡ false → (better b m || (better s m || is_beaten better rest m)) ≡ false
        go true m e M h =
            let k = left_false (better s m) (is_beaten better rest m) h in
            or_false (better b m) (better s m || is_beaten better rest m) (o.not_through b s m B L.0 M (o.one_way s b L.0 B e) k) h
        go false m e M h =
            let k = left_false (better b m) (is_beaten better rest m) h in
            or_false (better b m) (better s m || is_beaten better rest m) k
            (or_false (better s m) (is_beaten better rest m) (o.not_through s b m L.0 B M e k) (right_false (better b m) (is_beaten better rest m) h))

    -- what an unbeaten one is not better than is unbeaten
    pub unbeaten_too : (all : List Scored) (s b : Scored) → AllGood all → Good s → Good b → better s b ≡ false → is_beaten better all s ≡ false → is_beaten better all b ≡ false
    unfolding is_beaten
    unbeaten_too [] s b A S B e h = refl
    unbeaten_too (x ∷ rest) s b A S B e h =
        or_false (better x b) (is_beaten better rest b) (o.not_through x s b A.0 S B (left_false (better x s) (is_beaten better rest s) h) e)
        (unbeaten_too rest s b A.1 S B e (right_false (better x s) (is_beaten better rest s) h))

-- ---- the first unbeaten of b, s and the rest is that of the better of b and s, and the rest
chosen : (t u v : Bool) (r i j n : ℕ) → (t ≡ true → u ≡ true) → (t ≡ false → v ≡ false → u ≡ false) → cond t (cond v r j) (cond u r i) ≡ n → cond u (cond v r j) i ≡ n
chosen true true v r i j n f g h = h
chosen true false v r i j n f g h = absurd (false≢true (f refl))
chosen false false v r i j n f g h = h
chosen false true true r i j n f g h = h
chosen false true false r i j n f g h = absurd (true≢false (g refl refl))

module _ (all : List Scored) (A : AllGood all) where
  picked : (t : Bool) (s b : Scored) (rest : List Scored) → first_unbeaten all (cond t s b ∷ rest) ≡ cond t (first_unbeaten all (s ∷ rest)) (first_unbeaten all (b ∷ rest))
  picked true s b rest = refl
  picked false s b rest = refl

  -- all holds b and l, so that none of these is better than what is unbeaten
  abbrev Holds : Scored → List Scored → Type 0
  Holds b l = (x : Scored) → is_beaten is_better all x ≡ false → is_beaten is_better (b ∷ l) x ≡ false

  held : (t : Bool) (b s : Scored) (rest : List Scored) → Holds b (s ∷ rest) → Holds (cond t s b) rest
  unfolding is_beaten
  held true b s rest H x h = right_false (is_better b x) (is_better s x || is_beaten is_better rest x) (H x h)
  held false b s rest H x h =
      or_false (is_better b x) (is_beaten is_better rest x) (left_false (is_better b x) (is_better s x || is_beaten is_better rest x) (H x h))
      (right_false (is_better s x) (is_beaten is_better rest x) (right_false (is_better b x) (is_better s x || is_beaten is_better rest x) (H x h)))

  first_is_least : (b : Scored) (l : List Scored) → Good b → AllGood l → Holds b l → is_beaten is_better all (least_of is_better b l) ≡ false → first_unbeaten all (b ∷ l) ≡ (least_of is_better b l).candidate.id
  unfolding least_of first_unbeaten is_beaten
  first_is_least b [] B L H h = rw h
  first_is_least b (s ∷ rest) B L H h =
      let k = cond (is_better s b) s b in
      chosen (is_better s b) (is_beaten is_better all b) (is_beaten is_better all s) (first_unbeaten all rest) b.candidate.id s.candidate.id (least_of is_better k rest).candidate.id
      (beaten (is_beaten is_better all b) refl) (unbeaten_too is_better better_orders all s b A L.0 B)
      (sym (picked (is_better s b) s b rest) ∙ first_is_least k rest (pick_good (is_better s b) s b L.0 B) L.1 (held (is_better s b) b s rest H) h)
    where
      beaten : (u : Bool) → is_beaten is_better all b ≡ u → is_better s b ≡ true → u ≡ true
      beaten true f e = refl
      beaten false f e =
          absurd (true≢false (sym e ∙ left_false (is_better s b) (is_beaten is_better rest b) (right_false (is_better b b) (is_better s b || is_beaten is_better rest b) (H b f))))

pub least_found : (b : Scored) (l : List Scored) → Good b → AllGood l → (least_of is_better b l).candidate.id ≡ first_unbeaten (b ∷ l) (b ∷ l)
least_found b l B L = sym (first_is_least (b ∷ l) (B, L) b l B L (λ x h. h) (least_unbeaten is_better better_orders b l B L))
