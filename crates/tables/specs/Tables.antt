-- Tables in slices, for the maps and lists that document 01 turns into fixed tables ("Maps and sets"). Definitions only.
use Rattle.std.specs.Prelude.{Option, None, Some, ℕ, zero, suc, ◌+◌, ◌-◌, ◌*◌, cond, ◌&&◌, List, [], ◌∷◌, ◌++◌, eqb, ltb, leb, length, get_or, take, drop}
use Rattle.std.specs.Option.{option_or}

-- ---- the first place of a number, counted from i on
unfoldable pub first_from : ℕ → List ℕ → ℕ → Option ℕ
first_from i [] x = None
first_from i (y ∷ ys) x = cond (eqb y x) (Some i) (first_from (suc i) ys x)

-- ---- the last place of a number below n
unfoldable pub last_below : List ℕ → ℕ → ℕ → Option ℕ
last_below xs zero x = None
last_below xs (suc n) x = cond (ltb n (length xs) && eqb (get_or xs n 0) x) (Some n) (last_below xs n x)

-- ---- the last place of a number below n, or else the first from n on
unfoldable pub nearest : List ℕ → ℕ → ℕ → Option ℕ
nearest xs n x = option_or (last_below xs n x) (first_from n (drop n xs) x)

-- ---- the first place of a number from n on, or else the last below n
unfoldable pub after : List ℕ → ℕ → ℕ → Option ℕ
after xs n x = option_or (first_from n (drop n xs) x) (last_below xs n x)

module _ {A : Type 0} where
  -- ---- a row put at a place, where all of it fits
  unfoldable pub put_at : List A → ℕ → List A → List A
  put_at xs at row = cond (leb (at + length row) (length xs)) (take at xs ++ row ++ drop (at + length row) xs) xs

  -- ---- the first `by` taken out of a tail; its last `by` places keep what they had
  unfoldable pub closed : ℕ → List A → List A
  closed by tail = drop by tail ++ drop (length tail - by) tail

  -- ---- a part of a list, from a up to b, that a function has changed
  unfoldable pub on_part : (List A → List A) → ℕ → ℕ → List A → List A
  on_part f a b xs = take a xs ++ f (take (b - a) (drop a xs)) ++ drop b xs

  -- ---- row k of rows that are s long each
  unfoldable pub row_at : ℕ → ℕ → List A → List A
  row_at s k xs = take s (drop (s * k) xs)

  -- ---- a list on the first places of another, as far as they go; the places after it keep what they had
  unfoldable pub written_on : List A → List A → List A
  written_on out list = take (length out) list ++ drop (length list) out
