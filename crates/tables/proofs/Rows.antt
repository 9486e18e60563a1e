-- Laws of the rows of a table, and of its single elements, which are rows of one: what a row put at a place, a part that was changed and a tail that was closed do to them. Assumes nothing.
use mathlib.Core.Path.{◌≡◌, refl, sym, ap, ◌∙◌}
use mathlib.Core.Bool.{Bool, true, false, cond}
use mathlib.Core.List.{List, ◌++◌, append_assoc}
use Prim.Native.Nat.{ℕ, ◌+◌, ◌-◌, ◌*◌, ◌<◌, ◌≤◌}
use native.Mathlib.Nat.{add_assoc, add-sub_of_le, mul-add, mul-le-mul_left, one-mul}
use native.Mathlib.Decide.{dec_lt}
use native.Mathlib.Omega.{arith}
use lib.Dec.{leb}
use lib.ListN.{length, get_or, take, drop, length-append, length-take, length-drop, take-append-drop}
use lib.Seq.{length-take-le, take-append-le, drop-append-le, take-append-add, drop-append-add, take_at, drop_at, drop-drop, get_or-take, get_or-drop}
use borrow.Author.Tests.{leb-true, le-leb}
use Rattle.tables.specs.Tables.{put_at, closed, on_part, row_at}

-- a row ends where the next one begins
row_end : (s j k : ℕ) → j < k → s * j + s ≤ s * k
row_end s j k h = omega (arith, mul-le-mul_left s h)

module _ {A : Type 0} where
  -- ---- a part of the front of a list
  front : (us vs : List A) (p n : ℕ) → p + n ≤ length us → take n (drop p (us ++ vs)) ≡ take n (drop p us)
  front us vs p n h =
      let k : n ≤ length (drop p us) = simp length-drop (omega arith) in
      rw (drop-append-le p us vs (omega arith), take-append-le n (drop p us) vs k)

  take_part : (xs : List A) (m p n : ℕ) → m ≤ length xs → p + n ≤ m → take n (drop p (take m xs)) ≡ take n (drop p xs)
  take_part xs m p n h k =
      let l : p + n ≤ length (take m xs) = simp length-take-le k in
      rw take-append-drop at (sym (front (take m xs) (drop m xs) p n l))

  -- ---- a list with ys from a on, and again itself from b on
  module _ (xs : List A) (a : ℕ) (ys : List A) (b : ℕ) where
    abbrev over : List A
    over = take a xs ++ ys ++ drop b xs

    over_length : a + length ys ≡ b → b ≤ length xs → length over ≡ length xs
    over_length e h = simp (length-append, length-drop, length-take) (omega arith)

    module _ (h : a ≤ length xs) where
      over_before : (p n : ℕ) → p + n ≤ a → take n (drop p over) ≡ take n (drop p xs)
      over_before p n k =
          let l : p + n ≤ length (take a xs) = simp length-take-le k in
          rw append_assoc (front (take a xs) (ys ++ drop b xs) p n l ∙ take_part xs a p n h k)

      over_from : drop a over ≡ ys ++ drop b xs
      over_from = rw append_assoc (drop_at (take a xs) (ys ++ drop b xs) a (length-take-le a xs h))

      over_inside : (p n : ℕ) → p + n ≤ length ys → take n (drop (a + p) over) ≡ take n (drop p ys)
      over_inside p n k = rw (← drop-drop p a over, over_from) (front ys (drop b xs) p n k)

      over_after : a + length ys ≡ b → (p : ℕ) → b ≤ p → drop p over ≡ drop p xs
      over_after e p k =
          let l : length (take a xs ++ ys) ≡ b = simp (length-append, length-take-le) e in
          rw (← add-sub_of_le k, ← drop-drop (p - b) b over, ← drop-drop (p - b) b xs, drop_at (take a xs ++ ys) (drop b xs) b l)

  -- ys stands over a part of w, and w is a part of the list
  over_between : (p w z ys : List A) (o b : ℕ) → o ≤ length w → b ≤ length w → over (p ++ (w ++ z)) (length p + o) ys (length p + b) ≡ p ++ (over w o ys b ++ z)
  over_between p w z ys o b h k = rw (take-append-add p (w ++ z) o, drop-append-add p (w ++ z) b, take-append-le o w z, drop-append-le b w z) (simp append_assoc)

  over_part : (xs ys : List A) (a s o b : ℕ) → o + length ys ≡ b → b ≤ s → a + s ≤ length xs → take s (drop a (over xs (a + o) ys (a + b))) ≡ over (take s (drop a xs)) o ys b
  over_part xs ys a s o b e h l =
      let n = length-take-le a xs (omega arith) in
      let w = take s (drop a xs) in
      let z = drop s (drop a xs) in
      let m : length w ≡ s = simp (length-take, length-drop) (omega arith) in
      let q = rw (take-append-drop s (drop a xs), take-append-drop a xs, n) at (over_between (take a xs) w z ys o b (omega arith) (omega arith)) in
      rw (q, drop_at (take a xs) (over w o ys b ++ z) a n) (take_at (over w o ys b) z s (over_length w o ys b e (omega arith) ∙ m))

  -- ---- lengths
  put_fits : (xs : List A) (at : ℕ) (row : List A) → at + length row ≤ length xs → put_at xs at row ≡ over xs at row (at + length row)
  unfolding put_at
  put_fits xs at row h = rw (le-leb (at + length row) (length xs) h)

  pub put_length : (xs : List A) (at : ℕ) (row : List A) → length (put_at xs at row) ≡ length xs
  unfolding put_at
  put_length xs at row = go (leb (at + length row) (length xs)) refl
    where
      go : (t : Bool) → leb (at + length row) (length xs) ≡ t → length (cond t (over xs at row (at + length row)) xs) ≡ length xs
      go true e = over_length xs at row (at + length row) refl (leb-true (at + length row) (length xs) e)
      go false e = refl

  pub closed_length : (by : ℕ) (xs : List A) → length (closed by xs) ≡ length xs
  unfolding closed
  closed_length by xs = simp (length-append, length-drop) (omega arith)

  -- what f makes of a part is as long as the part
  changed_length : (f : List A → List A) (a b : ℕ) (xs : List A) → ((ys : List A) → length (f ys) ≡ length ys) → a ≤ b → b ≤ length xs → a + length (f (take (b - a) (drop a xs))) ≡ b
  changed_length f a b xs l h k = rw l (simp (length-take, length-drop) (omega arith))

  pub part_length : (f : List A → List A) (a b : ℕ) (xs : List A) → ((ys : List A) → length (f ys) ≡ length ys) → a ≤ b → b ≤ length xs → length (on_part f a b xs) ≡ length xs
  unfolding on_part
  part_length f a b xs l h k = over_length xs a (f (take (b - a) (drop a xs))) b (changed_length f a b xs l h k) k

  pub row_length : (s k : ℕ) (xs : List A) → s * k + s ≤ length xs → length (row_at s k xs) ≡ s
  unfolding row_at
  row_length s k xs h = simp (length-take, length-drop) (omega arith)

  pub row_get : (s k o : ℕ) (xs : List A) (d : A) → o < s → get_or (row_at s k xs) o d ≡ get_or xs (s * k + o) d
  unfolding row_at
  row_get s k o xs d h = rw (get_or-take, get_or-drop)

  -- ---- a row that is put inside row k changes that row only
  pub put_row_same : (s k o : ℕ) (xs row : List A) → o + length row ≤ s → s * k + s ≤ length xs → row_at s k (put_at xs (s * k + o) row) ≡ put_at (row_at s k xs) o row
  unfolding row_at
  put_row_same s k o xs row h l =
      let m = row_length s k xs l in
      rw (put_fits xs (s * k + o) row (omega arith), put_fits (row_at s k xs) o row (omega arith), add_assoc (s * k) o (length row)) (over_part xs row (s * k) s o (o + length row) refl h l)

  pub put_row_other : (s j k o : ℕ) (xs row : List A) → (j ≡ k → ⊥) → o + length row ≤ s → s * k + s ≤ length xs → row_at s j (put_at xs (s * k + o) row) ≡ row_at s j xs
  unfolding row_at
  put_row_other s j k o xs row n h l =
      rw (put_fits xs (s * k + o) row (omega arith)) (go (dec_lt j k))
    where
      go : Dec (j < k) → take s (drop (s * j) (over xs (s * k + o) row (s * k + o + length row))) ≡ take s (drop (s * j) xs)
      go (yes p) = let r = row_end s j k p in over_before xs (s * k + o) row (s * k + o + length row) (omega arith) (s * j) s (omega arith)
      go (no p) =
          let r = row_end s k j (omega arith) in
          ap (take s) (over_after xs (s * k + o) row (s * k + o + length row) (omega arith) refl (s * j) (omega arith))

  -- ---- the rows of a list whose rows k up to n were changed
  pub part_row_before : (f : List A → List A) (s j k n : ℕ) (xs : List A) → j < k → k ≤ n → s * n ≤ length xs → row_at s j (on_part f (s * k) (s * n) xs) ≡ row_at s j xs
  unfolding row_at on_part
  part_row_before f s j k n xs h l r =
      let m = mul-le-mul_left s l in
      over_before xs (s * k) (f (take (s * n - s * k) (drop (s * k) xs))) (s * n) (omega arith) (s * j) s (row_end s j k h)

  pub part_row_inside : (f : List A → List A) (s i k n : ℕ) (xs : List A) → ((ys : List A) → length (f ys) ≡ length ys) → k + i < n → s * n ≤ length xs → row_at s (k + i) (on_part f (s * k) (s * n) xs) ≡ row_at s i (f (take (s * n - s * k) (drop (s * k) xs)))
  unfolding row_at on_part
  part_row_inside f s i k n xs l h r =
      let m = row_end s (k + i) n h in
      let e = changed_length f (s * k) (s * n) xs l (omega arith) r in
      rw (mul-add s k i) (over_inside xs (s * k) (f (take (s * n - s * k) (drop (s * k) xs))) (s * n) (omega arith) (s * i) s (omega arith))

  pub part_row : (s i k n : ℕ) (xs : List A) → k + i < n → s * n ≤ length xs → row_at s i (take (s * n - s * k) (drop (s * k) xs)) ≡ row_at s (k + i) xs
  unfolding row_at
  part_row s i k n xs h r =
      let m = row_end s (k + i) n h in
      let l : s * n - s * k ≤ length (drop (s * k) xs) = simp length-drop (omega arith) in
      rw (take_part (drop (s * k) xs) (s * n - s * k) (s * i) s l (omega arith), drop-drop, mul-add)

  pub closed_row : (s i : ℕ) (tail : List A) → s * (i + 2) ≤ length tail → row_at s i (closed s tail) ≡ row_at s (i + 1) tail
  unfolding row_at closed
  closed_row s i tail h =
      let k : s * i + s ≤ length (drop s tail) = simp length-drop (omega arith) in
      let e : s + s * i ≡ s * (i + 1) = omega arith in
      front (drop s tail) (drop (length tail - s) tail) (s * i) s k ∙ rw (drop-drop, e)

  -- ---- single elements: a row of one
  by_one : (xs ys : List A) (i j : ℕ) (d : A) → row_at 1 i xs ≡ row_at 1 j ys → get_or xs i d ≡ get_or ys j d
  by_one xs ys i j d e =
      let place : (k : ℕ) → 1 * k + 0 ≡ k = λ k. omega arith in
      rw (place i, place j) at (sym (row_get 1 i 0 xs d (omega arith)) ∙ ap (λ (r : List A). get_or r 0 d) e ∙ row_get 1 j 0 ys d (omega arith))

  pub closed_get : (i : ℕ) (tail : List A) (d : A) → i + 1 < length tail → get_or (closed 1 tail) i d ≡ get_or tail (i + 1) d
  closed_get i tail d h = by_one (closed 1 tail) tail i (i + 1) d (closed_row 1 i tail (omega arith))

  pub part_get_before : (f : List A → List A) (j k n : ℕ) (xs : List A) (d : A) → j < k → k ≤ n → n ≤ length xs → get_or (on_part f k n xs) j d ≡ get_or xs j d
  part_get_before f j k n xs d h l r = by_one (on_part f k n xs) xs j j d (rw (one-mul k, one-mul n) at (part_row_before f 1 j k n xs h l (omega arith)))

  pub part_get_inside : (f : List A → List A) (i k n : ℕ) (xs : List A) (d : A) → ((ys : List A) → length (f ys) ≡ length ys) → k + i < n → n ≤ length xs → get_or (on_part f k n xs) (k + i) d ≡ get_or (f (take (n - k) (drop k xs))) i d
  part_get_inside f i k n xs d l h r = by_one (on_part f k n xs) (f (take (n - k) (drop k xs))) (k + i) i d (rw (one-mul k, one-mul n) at (part_row_inside f 1 i k n xs l h (omega arith)))

  pub part_get : (i k n : ℕ) (xs : List A) (d : A) → k + i < n → n ≤ length xs → get_or (take (n - k) (drop k xs)) i d ≡ get_or xs (k + i) d
  part_get i k n xs d h r = let l : i < n - k = omega arith in rw (get_or-take, get_or-drop)
