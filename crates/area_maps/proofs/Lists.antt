-- Laws of lists that the queries need: of the elements and of what a function gives of each; of the topmost layer; and of a layer's place. Assumes nothing.
use mathlib.Core.Path.{◌≡◌, refl, ap, ◌∙◌}
use mathlib.Core.Bool.{Bool, true, false, cond, ◌&&◌, ◌||◌}
use mathlib.Core.List.{List, [], ◌∷◌, ◌++◌, map}
use Prim.Native.Nat.{ℕ, zero, suc}
use native.Mathlib.Omega.{arith}
use lib.Dec.{ltb, leb-suc-suc}
use lib.ListN.{length, take}
use borrow.Author.Tests.{lt-ltb}
use Rattle.layers.specs.declared.LayerId.{LayerId}
use Rattle.layers.specs.Layers.{is_layer}
use Rattle.stacking.specs.Lists.{keep, some, each}
use Rattle.stacking.specs.Stacking.{holds}
use Rattle.stacking.proofs.Lists.{All}
use Rattle.layer_rows.specs.declared.Row.{Row}
use Rattle.layer_rows.specs.Rows.{spot_in}
use Rattle.std.specs.Prelude.{None, Some}
use Rattle.std.specs.Option.{option_or}
use Rattle.layer_queries.specs.Queries.{last_of, rank_in}
use Rattle.area_maps.specs.Egui.{place_in, topmost}
use Rattle.area_maps.specs.Meaning.{layers_in}

-- ---- a test of the elements, and one of what f gives of them
module _ {A B : Type 0} (f : A → B) where
  pub keep_map : (p : A → Bool) (q : B → Bool) (xs : List A) → All (λ x. p x ≡ q (f x)) xs → map f (keep p xs) ≡ keep q (map f xs)
  unfolding keep All
  keep_map p q [] h = refl
  keep_map p q (x ∷ xs) h = rw (h.0, ← keep_map p q xs h.1) (go (q (f x)))
    where
      go : (t : Bool) → map f (cond t (x ∷ keep p xs) (keep p xs)) ≡ cond t (f x ∷ map f (keep p xs)) (map f (keep p xs))
      go true = refl
      go false = refl

  pub some_map : (p : A → Bool) (q : B → Bool) (xs : List A) → All (λ x. p x ≡ q (f x)) xs → some p xs ≡ some q (map f xs)
  unfolding some All
  some_map p q [] h = refl
  some_map p q (x ∷ xs) h = rw (h.0, some_map p q xs h.1)

  pub each_map : {C : Type 0} (g : A → List C) (k : B → List C) (xs : List A) → All (λ x. g x ≡ k (f x)) xs → each g xs ≡ each k (map f xs)
  unfolding each All
  each_map g k [] h = refl
  each_map g k (x ∷ xs) h = rw (h.0, each_map g k xs h.1)

  pub take_map : (n : ℕ) (xs : List A) → map f (take n xs) ≡ take n (map f xs)
  take_map zero xs = refl
  take_map (suc n) [] = refl
  take_map (suc n) (x ∷ xs) = ap (λ (ys : List B). f x ∷ ys) (take_map n xs)

-- ---- `keep`, `some` and `each`
module _ {A : Type 0} where
  pub keep_every : (xs : List A) → keep (λ x. true) xs ≡ xs
  unfolding keep
  keep_every [] = refl
  keep_every (x ∷ xs) = ap (λ (ys : List A). x ∷ ys) (keep_every xs)

  pub some_both : (p : A → Bool) (b : Bool) (xs : List A) → some (λ x. p x && b) xs ≡ (some p xs && b)
  unfolding some
  some_both p b [] = refl
  some_both p b (x ∷ xs) = rw (some_both p b xs) (go (p x) (some p xs) b)
    where
      go : (s t b : Bool) → (s && b || (t && b)) ≡ ((s || t) && b)
      go true t true = refl
      go true true false = refl
      go true false false = refl
      go false t b = refl

  pub each_keep : {B : Type 0} (f : A → List B) (p : A → Bool) (xs : List A) → each f (keep p xs) ≡ each (λ x. cond (p x) (f x) []) xs
  unfolding each keep
  each_keep f p [] = refl
  each_keep f p (x ∷ xs) = rw (← each_keep f p xs) (go (p x))
    where
      go : (t : Bool) → each f (cond t (x ∷ keep p xs) (keep p xs)) ≡ cond t (f x) [] ++ each f (keep p xs)
      go true = refl
      go false = refl

-- ---- the topmost layer: what is found from the top, and where only one layer can be found
pub last_topmost : (p : Row → Bool) (q : LayerId → Bool) (rows : List Row) → All (λ (r : Row). p r ≡ q r.layer) rows → last_of p rows ≡ topmost q (layers_in rows)
unfolding last_of topmost All
last_topmost p q [] h = refl
last_topmost p q (r ∷ rows) h = rw (h.0, last_topmost p q rows h.1)

pub topmost_only : (p : LayerId → Bool) (only : LayerId) → ((l : LayerId) → p l ≡ true → l ≡ only) → (order : List LayerId) → topmost p order ≡ cond (some p order) (Some only) None
unfolding topmost some
topmost_only p only h [] = refl
topmost_only p only h (l ∷ order) = rw (topmost_only p only h order) (go (p l) (some p order) (h l))
  where
    go : (s t : Bool) → (s ≡ true → l ≡ only) → option_or (cond t (Some only) None) (cond s (Some l) None) ≡ cond (s || t) (Some only) None
    go true true e = refl
    go true false e = ap Some (e refl)
    go false true e = refl
    go false false e = refl

-- ---- the place of a layer: it has one where it is held
spot_held : (rows : List Row) (l : LayerId) → ltb (spot_in rows l) (length rows) ≡ holds (layers_in rows) l
unfolding spot_in holds some
spot_held [] l = refl
spot_held (r ∷ rows) l = go (is_layer r.layer l) (spot_held rows l)
  where
    go : (t : Bool) → ltb (spot_in rows l) (length rows) ≡ holds (layers_in rows) l → ltb (cond t 0 (suc (spot_in rows l))) (suc (length rows)) ≡ (t || holds (layers_in rows) l)
    go true rest = lt-ltb 0 (suc (length rows)) (omega arith)
    go false rest = leb-suc-suc (suc (spot_in rows l)) (length rows) ∙ rest

held_place : (rows : List Row) (l : LayerId) → cond (holds (layers_in rows) l) (suc (spot_in rows l)) 0 ≡ place_in (layers_in rows) l
unfolding spot_in place_in holds some
held_place [] l = refl
held_place (r ∷ rows) l = go (is_layer r.layer l) (holds (layers_in rows) l) (held_place rows l)
  where
    go : (t s : Bool) → cond s (suc (spot_in rows l)) 0 ≡ place_in (layers_in rows) l → cond (t || s) (suc (cond t 0 (suc (spot_in rows l)))) 0 ≡ cond t 1 (cond s (suc (place_in (layers_in rows) l)) 0)
    go true s rest = refl
    go false true rest = ap suc rest
    go false false rest = refl

pub rank_place : (rows : List Row) (l : LayerId) → rank_in rows l ≡ place_in (layers_in rows) l
unfolding rank_in
rank_place rows l = rw (spot_held rows l) (held_place rows l)
