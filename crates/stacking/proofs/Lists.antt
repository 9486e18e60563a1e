-- Laws of `keep`, `some` and `each`, and what holds of each element of a list. Assumes nothing.
use mathlib.Core.Path.{◌≡◌, refl, sym, ap, ◌∙◌}
use mathlib.Core.Bool.{Bool, true, false, cond, ◌&&◌, ◌||◌, and_comm, true≢false}
use mathlib.Core.List.{List, [], ◌∷◌, ◌++◌, append_assoc}
use Prim.Native.Nat.{ℕ, zero, suc, ◌+◌, ◌*◌, ◌<◌}
use native.Mathlib.Omega.{arith}
use lib.Dec.{ltb}
use lib.ListN.{length, get_or, length-append}
use borrow.Author.Tests.{lt-ltb}
use Rattle.stacking.specs.Lists.{keep, some, each}

module _ {A : Type 0} where
  -- ---- `keep`
  pub keep_append : (p : A → Bool) (xs ys : List A) → keep p (xs ++ ys) ≡ keep p xs ++ keep p ys
  unfolding keep
  keep_append p [] ys = refl
  keep_append p (x ∷ xs) ys = rw (keep_append p xs ys) (go (p x))
    where
      go : (t : Bool) → cond t (x ∷ (keep p xs ++ keep p ys)) (keep p xs ++ keep p ys) ≡ cond t (x ∷ keep p xs) (keep p xs) ++ keep p ys
      go true = refl
      go false = refl

  pub keep_keep : (p q : A → Bool) (xs : List A) → keep p (keep q xs) ≡ keep (λ x. q x && p x) xs
  unfolding keep
  keep_keep p q [] = refl
  keep_keep p q (x ∷ xs) = rw (← keep_keep p q xs) (go (q x))
    where
      go : (t : Bool) → keep p (cond t (x ∷ keep q xs) (keep q xs)) ≡ cond (t && p x) (x ∷ keep p (keep q xs)) (keep p (keep q xs))
      go true = refl
      go false = refl

  pub keep_same : (p q : A → Bool) (xs : List A) → ((x : A) → p x ≡ q x) → keep p xs ≡ keep q xs
  keep_same p q xs h = ap (λ (r : A → Bool). keep r xs) (λ i x. h x i)

  pub keep_turned : (p q : A → Bool) (xs : List A) → keep p (keep q xs) ≡ keep q (keep p xs)
  keep_turned p q xs = keep_keep p q xs ∙ keep_same _ _ xs (λ x. and_comm (q x) (p x)) ∙ sym (keep_keep q p xs)

  pub keep_none : (xs : List A) → keep (λ x. false) xs ≡ []
  unfolding keep
  keep_none [] = refl
  keep_none (x ∷ xs) = keep_none xs

  -- by places
  pub keep_at : (p q : A → Bool) (d : A) (xs : List A) → ((i : ℕ) → i < length xs → p (get_or xs i d) ≡ q (get_or xs i d)) → keep p xs ≡ keep q xs
  unfolding keep
  keep_at p q d [] h = refl
  keep_at p q d (x ∷ xs) h = rw (h 0 (omega arith), keep_at p q d xs (λ i l. h (suc i) (omega arith)))

  pub keep_never : (p : A → Bool) (d : A) (xs : List A) → ((i : ℕ) → i < length xs → p (get_or xs i d) ≡ false) → keep p xs ≡ []
  keep_never p d xs h = keep_at p (λ x. false) d xs h ∙ keep_none xs

  pub keep_only : (p : A → Bool) (d : A) (xs : List A) (m : ℕ) → m < length xs → p (get_or xs m d) ≡ true → ((i : ℕ) → i < length xs → (i ≡ m → ⊥) → p (get_or xs i d) ≡ false)
      → keep p xs ≡ get_or xs m d ∷ []
  unfolding keep
  keep_only p d [] m l e h = absurd (omega arith)
  keep_only p d (x ∷ xs) zero l e h = rw (e, keep_never p d xs (λ i b. h (suc i) (omega arith) (λ (q : suc i ≡ 0). omega arith)))
  keep_only p d (x ∷ xs) (suc m) l e h =
      rw (h 0 (omega arith) (λ (q : 0 ≡ suc m). omega arith)) (keep_only p d xs m (omega arith) e (λ i b ne. h (suc i) (omega arith) (λ (q : suc i ≡ suc m). ne (omega arith))))

  -- ---- `some`: there is one to keep
  pub some_count : (p : A → Bool) (xs : List A) → some p xs ≡ ltb 0 (length (keep p xs))
  unfolding some keep
  some_count p [] = refl
  some_count p (x ∷ xs) = go (p x) (some_count p xs)
    where
      go : (t : Bool) → some p xs ≡ ltb 0 (length (keep p xs)) → (t || some p xs) ≡ ltb 0 (length (cond t (x ∷ keep p xs) (keep p xs)))
      go true h = sym (lt-ltb 0 (suc (length (keep p xs))) (omega arith))
      go false h = h

  pub some_never : (p : A → Bool) (xs : List A) → ((x : A) → p x ≡ false) → some p xs ≡ false
  some_never p xs h = some_count p xs ∙ ap (λ (ys : List A). ltb 0 (length ys)) (keep_same p (λ x. false) xs h ∙ keep_none xs)

  pub none_kept : (p : A → Bool) (xs : List A) → some p xs ≡ false → keep p xs ≡ []
  unfolding some keep
  none_kept p [] h = refl
  none_kept p (x ∷ xs) h = go (p x) h (none_kept p xs)
    where
      go : (t : Bool) → (t || some p xs) ≡ false → (some p xs ≡ false → keep p xs ≡ []) → cond t (x ∷ keep p xs) (keep p xs) ≡ []
      go true h rest = absurd (true≢false h)
      go false h rest = rest h

-- ---- `each`
module _ {A B : Type 0} where
  pub each_same : (f g : A → List B) (xs : List A) → ((x : A) → f x ≡ g x) → each f xs ≡ each g xs
  each_same f g xs h = ap (λ (r : A → List B). each r xs) (λ i x. h x i)

  pub each_append : (f : A → List B) (xs ys : List A) → each f (xs ++ ys) ≡ each f xs ++ each f ys
  unfolding each
  each_append f [] ys = refl
  each_append f (x ∷ xs) ys = rw (each_append f xs ys) (sym (append_assoc (f x) (each f xs) (each f ys)))

  pub keep_each : (p : B → Bool) (f : A → List B) (xs : List A) → keep p (each f xs) ≡ each (λ x. keep p (f x)) xs
  unfolding each keep
  keep_each p f [] = refl
  keep_each p f (x ∷ xs) = rw (← keep_each p f xs) (keep_append p (f x) (each f xs))

  -- how many there are
  pub each_both : (f g : A → List B) (xs : List A) → length (each (λ x. f x ++ g x) xs) ≡ length (each f xs) + length (each g xs)
  unfolding each
  each_both f g [] = refl
  each_both f g (x ∷ xs) = simp length-append (omega (arith, each_both f g xs))

  pub each_where : (p : A → Bool) (ys : List B) (xs : List A) → length (each (λ x. cond (p x) ys []) xs) ≡ length (keep p xs) * length ys
  unfolding each keep
  each_where p ys [] = omega arith
  each_where p ys (x ∷ xs) = go (p x) (each_where p ys xs)
    where
      rest : List B
      rest = each (λ x. cond (p x) ys []) xs

      go : (t : Bool) → length rest ≡ length (keep p xs) * length ys → length (cond t ys [] ++ rest) ≡ length (cond t (x ∷ keep p xs) (keep p xs)) * length ys
      go true h = simp length-append (omega arith)
      go false h = h

module _ {A : Type 0} where
  pub each_one : (p : A → Bool) (xs : List A) → each (λ x. keep p (x ∷ [])) xs ≡ keep p xs
  unfolding each keep
  each_one p [] = refl
  each_one p (x ∷ xs) = rw (each_one p xs) (sym (keep_append p (x ∷ []) xs))

  -- ---- what holds of each element
  unfoldable pub All : (A → Type 0) → List A → Type 0
  All P [] = Unit {0}
  All P (x ∷ xs) = P x × All P xs

  pub all_append : (P : A → Type 0) (xs ys : List A) → All P xs → All P ys → All P (xs ++ ys)
  unfolding All
  all_append P [] ys h g = g
  all_append P (x ∷ xs) ys h g = (h.0, all_append P xs ys h.1 g)

  pub all_imply : (P Q : A → Type 0) (xs : List A) → ((x : A) → P x → Q x) → All P xs → All Q xs
  unfolding All
  all_imply P Q [] f h = tt
  all_imply P Q (x ∷ xs) f h = (f x h.0, all_imply P Q xs f h.1)

  pub all_keep : (P : A → Type 0) (p : A → Bool) (xs : List A) → All P xs → All P (keep p xs)
  unfolding All keep
  all_keep P p [] h = tt
  all_keep P p (x ∷ xs) h = go (p x) (all_keep P p xs h.1)
    where
      go : (t : Bool) → All P (keep p xs) → All P (cond t (x ∷ keep p xs) (keep p xs))
      go true g = (h.0, g)
      go false g = g

  pub all_kept : (P : A → Type 0) (p : A → Bool) (xs : List A) → ((x : A) → p x ≡ true → P x) → All P (keep p xs)
  unfolding All keep
  all_kept P p [] f = tt
  all_kept P p (x ∷ xs) f = go (p x) refl (all_kept P p xs f)
    where
      go : (t : Bool) → p x ≡ t → All P (keep p xs) → All P (cond t (x ∷ keep p xs) (keep p xs))
      go true e g = (f x e, g)
      go false e g = g

  pub all_each : (P : A → Type 0) (f : A → List A) (xs : List A) → ((x : A) → P x → All P (f x)) → All P xs → All P (each f xs)
  unfolding All each
  all_each P f [] g h = tt
  all_each P f (x ∷ xs) g h = all_append P (f x) (each f xs) (g x h.0) (all_each P f xs g h.1)
