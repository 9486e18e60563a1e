-- The stable sort by family keys is each top layer, then its children. Assumes nothing.
use mathlib.Core.Path.{◌≡◌, refl, sym, ap, ◌∙◌}
use mathlib.Core.Bool.{Bool, true, false, true≢false}
use mathlib.Core.List.{List, [], ◌∷◌, ◌++◌, append_assoc, append-nil}
use Prim.Native.Nat.{ℕ, zero, suc, ◌+◌, ◌*◌, ◌<◌, ◌≤◌}
use native.Mathlib.Omega.{arith}
use lib.Dec.{eqb}
use lib.ListN.{length, get_or, take}
use lib.Seq.{take-suc, take-length}
use borrow.Author.Tests.{eq-eqb, ne_eqb}
use Rattle.stacking.specs.Lists.{keep, each, stable}
use Rattle.stacking.proofs.Lists.{keep_append, keep_at, keep_never, keep_only, each_append}

-- the key of a top layer says its place, and that of a child the place of its parent
pub record FamilyKeys {A : Type 0} (key : A → ℕ) (top : A → Bool) (isChild : A → A → Bool) (d : A) (xs : List A) : Type 0 where
  pub of_top : (i : ℕ) → i < length xs → top (get_or xs i d) ≡ true → key (get_or xs i d) ≡ 2 * i
  pub of_other : (i : ℕ) → i < length xs → top (get_or xs i d) ≡ false → (j : ℕ) × (j < length xs) × (top (get_or xs j d) ≡ true) × (key (get_or xs i d) ≡ 2 * j + 1)
  pub of_child : (i j : ℕ) → i < length xs → j < length xs → top (get_or xs j d) ≡ true → isChild (get_or xs j d) (get_or xs i d) ≡ eqb (key (get_or xs i d)) (2 * j + 1)

module _ {A : Type 0} (key : A → ℕ) (top : A → Bool) (isChild : A → A → Bool) (d : A) (xs : List A) (keys : FamilyKeys key top isChild d xs) where
  abbrev family : A → List A
  family p = p ∷ keep (isChild p) xs

  abbrev at : ℕ → A
  at i = get_or xs i d

  -- ---- the keys: 2 m is that of the top layer at m alone, and 2 m + 1 that of its children
  key_even : (i m : ℕ) → i < length xs → (i ≡ m → top (at m) ≡ true → ⊥) → key (at i) ≡ 2 * m → ⊥
  key_even i m l ne e = go (top (at i)) refl
    where
      go : (t : Bool) → top (at i) ≡ t → ⊥
      go true p = let q : i ≡ m = omega (arith, keys.of_top i l p) in ne q (rw q at p)
      go false p = let (j, _, _, q) = keys.of_other i l p in omega arith

  key_odd : (i m : ℕ) → i < length xs → top (at m) ≡ false → key (at i) ≡ 2 * m + 1 → ⊥
  key_odd i m l n e = go (top (at i)) refl
    where
      go : (t : Bool) → top (at i) ≡ t → ⊥
      go true p = omega (arith, keys.of_top i l p)
      go false p =
          let (j, _, t, q) = keys.of_other i l p in
          let r : j ≡ m = omega arith in
          true≢false (sym (rw r at t) ∙ n)

  -- ---- the layers of the keys 2 m and 2 m + 1
  pair : (m : ℕ) → m < length xs → keep (λ x. eqb (key x) (2 * m)) xs ++ keep (λ x. eqb (key x) (2 * m + 1)) xs ≡ each family (keep top (at m ∷ []))
  unfolding each keep
  pair m l = go (top (at m)) refl
    where
      go : (t : Bool) → top (at m) ≡ t → keep (λ x. eqb (key x) (2 * m)) xs ++ keep (λ x. eqb (key x) (2 * m + 1)) xs ≡ each family (keep top (at m ∷ []))
      go true p = rw (
        p,
        keep_only (λ x. eqb (key x) (2 * m)) d xs m l (eq-eqb (key (at m)) (2 * m) (keys.of_top m l p)) (λ i b ne. ne_eqb (key (at i)) (2 * m) (key_even i m b (λ q _. ne q))),
        ← keep_at (isChild (at m)) (λ x. eqb (key x) (2 * m + 1)) d xs (λ i b. keys.of_child i m b l p),
        append-nil,
      )
      go false p = rw (
        p,
        keep_never (λ x. eqb (key x) (2 * m)) d xs (λ i b. ne_eqb (key (at i)) (2 * m) (key_even i m b (λ _ t. true≢false (sym t ∙ p)))),
        keep_never (λ x. eqb (key x) (2 * m + 1)) d xs (λ i b. ne_eqb (key (at i)) (2 * m + 1) (key_odd i m b p)),
      )

  first : (m : ℕ) → m ≤ length xs → stable key (2 * m) xs ≡ each family (keep top (take m xs))
  unfolding stable each keep
  first zero l = refl
  first (suc m) l =
      let e : 2 * suc m ≡ suc (suc (2 * m)) = omega arith in
      let o : suc (2 * m) ≡ 2 * m + 1 = omega arith in
      rw (e, o) (
      append_assoc (stable key (2 * m) xs) _ _
      ∙ (λ i. first m (omega arith) i ++ pair m l i)
      ∙ sym (each_append family (keep top (take m xs)) (keep top (at m ∷ [])))
      ∙ ap (each family) (sym (keep_append top (take m xs) (at m ∷ [])) ∙ ap (keep top) (sym (take-suc xs m d l)))
      )

  pub family_sort : stable key (2 * length xs) xs ≡ each (λ p. p ∷ keep (isChild p) xs) (keep top xs)
  family_sort = first (length xs) (omega arith) ∙ ap (λ (ys : List A). each family (keep top ys)) (take-length xs)
