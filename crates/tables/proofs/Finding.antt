-- Laws of the place where a number stands. Assumes nothing.
use mathlib.Core.Path.{◌≡◌, refl, sym, ◌∙◌}
use mathlib.Core.Bool.{Bool, true, false, cond, ◌&&◌, and-false, true≢false}
use mathlib.Core.List.{List, [], ◌∷◌}
use Rattle.std.specs.Prelude.{Option, None, Some}
use Rattle.std.specs.Option.{option_or}
use Prim.Native.Nat.{ℕ, zero, suc, ◌+◌, ◌-◌, min, ◌<◌, ◌≤◌}
use native.Mathlib.Decide.{dec_lt, ℕ_discrete}
use native.Mathlib.Nat.{not-suc-le-zero, le_of_suc-le-suc, zero-min, add-zero}
use native.Mathlib.Omega.{arith}
use lib.Dec.{ltb, eqb}
use lib.ListN.{length, get_or, take, drop, drop_of_length-le, length-drop}
use lib.Seq.{get_or-take, length-take-le, get_or-drop}
use borrow.Author.Tests.{ltb-true, eqb-true, eq-eqb, ne_eqb, lt-ltb, le-ltb}
use Rattle.tables.specs.Tables.{first_from, last_below, nearest, after}

-- ---- the first place, by what stands at it and before it
pub first_here : (i : ℕ) (xs : List ℕ) (x k : ℕ) → k < length xs → get_or xs k 0 ≡ x → ((j : ℕ) → j < k → get_or xs j 0 ≡ x → ⊥) → Some (i + k) ≡ first_from i xs x
unfolding first_from
first_here i [] x k h e n = absurd (not-suc-le-zero h)
first_here i (y ∷ ys) x zero h e n = rw (eq-eqb y x e, add-zero)
first_here i (y ∷ ys) x (suc k) h e n =
    let s : i + suc k ≡ suc i + k = omega arith in
    rw (ne_eqb y x (n 0 (omega arith)), s) (first_here (suc i) ys x k (le_of_suc-le-suc h) e (λ j l. n (suc j) (omega arith)))

pub first_nowhere : (i : ℕ) (xs : List ℕ) (x : ℕ) → ((j : ℕ) → j < length xs → get_or xs j 0 ≡ x → ⊥) → None ≡ first_from i xs x
unfolding first_from
first_nowhere i [] x n = refl
first_nowhere i (y ∷ ys) x n = rw (ne_eqb y x (n 0 (omega arith))) (first_nowhere (suc i) ys x (λ j l. n (suc j) (omega arith)))

-- past the end
pub first_past : (i : ℕ) (xs : List ℕ) (x : ℕ) → length xs < i → None ≡ first_from i (drop i xs) x
unfolding first_from
first_past i xs x h = rw (drop_of_length-le xs {i = i} (omega arith))

-- ---- what is found stands there
from_at : (i : ℕ) (xs : List ℕ) (x k : ℕ) → first_from i xs x ≡ Some k → (n : ℕ) × (k ≡ i + n) × (n < length xs) × (get_or xs n 0 ≡ x)
unfolding first_from
from_at i [] x k e = let z : ◌≡◌ {A = ℕ} 0 1 = cc in absurd (omega arith)
from_at i (y ∷ ys) x k e = go (eqb y x) refl e (from_at (suc i) ys x k)
  where
    go : (t : Bool) → eqb y x ≡ t → cond t (Some i) (first_from (suc i) ys x) ≡ Some k
        → (first_from (suc i) ys x ≡ Some k → (n : ℕ) × (k ≡ suc i + n) × (n < length ys) × (get_or ys n 0 ≡ x))
        → (n : ℕ) × (k ≡ i + n) × (n < length (y ∷ ys)) × (get_or (y ∷ ys) n 0 ≡ x)
    go true t e rest = let p : i ≡ k = cc in (0, omega arith, omega arith, eqb-true y x t)
    go false t e rest = let (n, p, h, q) = rest e in (suc n, omega arith, omega arith, q)

-- ---- where nothing is found, it stands nowhere
from_none : (j : ℕ) (xs : List ℕ) (x i : ℕ) → first_from j xs x ≡ None → i < length xs → (get_or xs i 0 ≡ x → ⊥)
unfolding first_from
from_none j [] x i e h q = not-suc-le-zero h
from_none j (y ∷ ys) x zero e h q = let z : ◌≡◌ {A = ℕ} 0 1 = cc (eq-eqb y x q) in omega arith
from_none j (y ∷ ys) x (suc i) e h q = from_none (suc j) ys x i (go (eqb y x) e) (le_of_suc-le-suc h) q
  where
    go : (t : Bool) → cond t (Some j) (first_from (suc j) ys x) ≡ None → first_from (suc j) ys x ≡ None
    go true e = cc
    go false e = e

-- ---- the last place below n, by what stands at it and after it
module _ (xs : List ℕ) (x : ℕ) where
  inside_here : (n k : ℕ) → n ≤ length xs → k < n → get_or xs k 0 ≡ x → ((j : ℕ) → k < j → j < n → get_or xs j 0 ≡ x → ⊥) → Some k ≡ last_below xs n x
  unfolding last_below
  inside_here zero k h l e m = absurd (not-suc-le-zero l)
  inside_here (suc n) k h l e m = go (ℕ_discrete k n) (inside_here n k (omega arith))
    where
      go : Dec (k ≡ n) → (k < n → get_or xs k 0 ≡ x → ((j : ℕ) → k < j → j < n → get_or xs j 0 ≡ x → ⊥) → Some k ≡ last_below xs n x) → Some k ≡ last_below xs (suc n) x
      go (yes p) rest = rw (← p, lt-ltb k (length xs) (omega arith), eq-eqb (get_or xs k 0) x e)
      go (no p) rest = rw (ne_eqb (get_or xs n 0) x (m n (omega arith) (omega arith)), and-false) (rest (omega arith) e (λ j a b. m j a (omega arith)))

  inside_nowhere : (n : ℕ) → ((j : ℕ) → j < n → get_or xs j 0 ≡ x → ⊥) → None ≡ last_below xs n x
  unfolding last_below
  inside_nowhere zero m = refl
  inside_nowhere (suc n) m = rw (ne_eqb (get_or xs n 0) x (m n (omega arith)), and-false) (inside_nowhere n (λ j l. m j (omega arith)))

  -- nothing stands past the end
  below_end : (n : ℕ) → last_below xs n x ≡ last_below xs (min n (length xs)) x
  unfolding last_below
  below_end zero = rw zero-min
  below_end (suc n) = go (dec_lt n (length xs)) (below_end n)
    where
      go : Dec (n < length xs) → last_below xs n x ≡ last_below xs (min n (length xs)) x → last_below xs (suc n) x ≡ last_below xs (min (suc n) (length xs)) x
      go (yes h) rest = let e : min (suc n) (length xs) ≡ suc n = omega arith in rw e
      go (no h) rest =
          let e : min (suc n) (length xs) ≡ min n (length xs) = omega arith in
          rw (e, le-ltb n (length xs) (omega arith)) rest

  -- of the first n, as far as there are so many
  module _ (n m : ℕ) (p : m ≡ min n (length xs)) where
    front_get : (j : ℕ) → j < m → get_or (take m xs) j 0 ≡ get_or xs j 0
    front_get j l = get_or-take m xs j 0 l

    front_length : length (take m xs) ≡ m
    front_length = length-take-le m xs (omega arith)

    pub last_here : (k : ℕ) → k < length (take m xs) → get_or (take m xs) k 0 ≡ x → ((j : ℕ) → k + 1 ≤ j → j < length (take m xs) → get_or (take m xs) j 0 ≡ x → ⊥) → Some k ≡ last_below xs n x
    last_here k h e after =
        let l : k < m = rw front_length at h in
        inside_here m k (omega arith) l (sym (front_get k l) ∙ e) (λ j a b q. after j (omega arith) (rw front_length b) (front_get j b ∙ q)) ∙ (λ i. last_below xs (p i) x) ∙ sym (below_end n)

    pub last_nowhere : ((j : ℕ) → j < length (take m xs) → get_or (take m xs) j 0 ≡ x → ⊥) → None ≡ last_below xs n x
    last_nowhere none =
        inside_nowhere m (λ j b q. none j (rw front_length b) (front_get j b ∙ q)) ∙ (λ i. last_below xs (p i) x) ∙ sym (below_end n)

-- ---- what is found below n stands there, and else it stands nowhere below n
module _ (xs : List ℕ) (x : ℕ) where
  pub last_at : (n k : ℕ) → last_below xs n x ≡ Some k → (k < n) × (k < length xs) × (get_or xs k 0 ≡ x)
  unfolding last_below
  last_at zero k e = let z : ◌≡◌ {A = ℕ} 0 1 = cc in absurd (omega arith)
  last_at (suc n) k e = go (ltb n (length xs)) (eqb (get_or xs n 0) x) refl refl e (last_at n k)
    where
      go : (s t : Bool) → ltb n (length xs) ≡ s → eqb (get_or xs n 0) x ≡ t → cond (s && t) (Some n) (last_below xs n x) ≡ Some k
          → (last_below xs n x ≡ Some k → (k < n) × (k < length xs) × (get_or xs k 0 ≡ x)) → (k < suc n) × (k < length xs) × (get_or xs k 0 ≡ x)
      go true true p q e rest = let r : n ≡ k = cc in rw (← r) (omega arith, ltb-true n (length xs) p, eqb-true (get_or xs n 0) x q)
      go true false p q e rest = let (l, h, q) = rest e in (omega arith, h, q)
      go false t p q e rest = let (l, h, q) = rest e in (omega arith, h, q)

  pub last_none : (n i : ℕ) → last_below xs n x ≡ None → i < n → i < length xs → (get_or xs i 0 ≡ x → ⊥)
  unfolding last_below
  last_none zero i e l h q = not-suc-le-zero l
  last_none (suc n) i e l h q = go (ltb n (length xs)) (eqb (get_or xs n 0) x) refl refl e (ℕ_discrete i n) (last_none n i)
    where
      go : (s t : Bool) → ltb n (length xs) ≡ s → eqb (get_or xs n 0) x ≡ t → cond (s && t) (Some n) (last_below xs n x) ≡ None → Dec (i ≡ n)
          → (last_below xs n x ≡ None → i < n → i < length xs → (get_or xs i 0 ≡ x → ⊥)) → ⊥
      go true true p r e d rest = let z : ◌≡◌ {A = ℕ} 0 1 = cc in omega arith
      go true false p r e (yes d) rest = let z : ◌≡◌ {A = Bool} true false = sym (eq-eqb (get_or xs n 0) x (rw d at q)) ∙ r in true≢false z
      go true false p r e (no d) rest = rest e (omega arith) h q
      go false t p r e (yes d) rest = let z : ◌≡◌ {A = Bool} true false = sym (lt-ltb n (length xs) (rw d at h)) ∙ p in true≢false z
      go false t p r e (no d) rest = rest e (omega arith) h q

-- ---- what either finds stands there, and else it stands nowhere
module _ (xs : List ℕ) (n x : ℕ) where
  found_from : (k : ℕ) → first_from n (drop n xs) x ≡ Some k → (k < length xs) × (get_or xs k 0 ≡ x)
  found_from k e =
      let (m, q, h, r) = from_at n (drop n xs) x k e in
      rw q (omega (arith, length-drop n xs), rw get_or-drop at r)

  -- it is neither below n nor from n on
  nowhere : (i : ℕ) → last_below xs n x ≡ None → first_from n (drop n xs) x ≡ None → i < length xs → (get_or xs i 0 ≡ x → ⊥)
  nowhere i p e h q = go (dec_lt i n)
    where
      go : Dec (i < n) → ⊥
      go (yes d) = last_none xs x n i p d h q
      go (no d) =
          let a : n + (i - n) ≡ i = omega arith in
          from_none n (drop n xs) x (i - n) e (omega (arith, length-drop n xs)) (get_or-drop n xs (i - n) 0 ∙ rw a q)

  pub nearest_at : (k : ℕ) → nearest xs n x ≡ Some k → (k < length xs) × (get_or xs k 0 ≡ x)
  unfolding nearest
  nearest_at k e = go (last_below xs n x) refl e
    where
      go : (f : Option ℕ) → last_below xs n x ≡ f → option_or f (first_from n (drop n xs) x) ≡ Some k → (k < length xs) × (get_or xs k 0 ≡ x)
      go (Some j) p e = let (_, h, q) = last_at xs x n k (p ∙ e) in (h, q)
      go None p e = found_from k e

  pub nearest_none : (i : ℕ) → nearest xs n x ≡ None → i < length xs → (get_or xs i 0 ≡ x → ⊥)
  unfolding nearest
  nearest_none i e h q = go (last_below xs n x) refl e
    where
      go : (f : Option ℕ) → last_below xs n x ≡ f → option_or f (first_from n (drop n xs) x) ≡ None → ⊥
      go (Some j) p e = let z : ◌≡◌ {A = ℕ} 0 1 = cc in omega arith
      go None p e = nowhere i p e h q

  pub after_at : (k : ℕ) → after xs n x ≡ Some k → (k < length xs) × (get_or xs k 0 ≡ x)
  unfolding after
  after_at k e = go (first_from n (drop n xs) x) refl e
    where
      go : (f : Option ℕ) → first_from n (drop n xs) x ≡ f → option_or f (last_below xs n x) ≡ Some k → (k < length xs) × (get_or xs k 0 ≡ x)
      go (Some j) p e = found_from k (p ∙ e)
      go None p e = let (_, h, q) = last_at xs x n k e in (h, q)

  pub after_none : (i : ℕ) → after xs n x ≡ None → i < length xs → (get_or xs i 0 ≡ x → ⊥)
  unfolding after
  after_none i e h q = go (first_from n (drop n xs) x) refl e
    where
      go : (f : Option ℕ) → first_from n (drop n xs) x ≡ f → option_or f (last_below xs n x) ≡ None → ⊥
      go (Some j) p e = let z : ◌≡◌ {A = ℕ} 0 1 = cc in omega arith
      go None p e = nowhere i e p h q
