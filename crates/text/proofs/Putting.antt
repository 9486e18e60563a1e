-- Laws of what is put into a buffer, and of decimal digits that are written from the end. Assumes nothing.
use mathlib.Core.Path.{◌≡◌, refl, sym}
use Prim.Native.Nat.{ℕ, zero, suc, ◌+◌, ◌-◌, ◌/◌, ◌%◌, ◌<◌, ◌≤◌, min}
use native.Mathlib.Nat.{not-suc-le-zero, le_of_suc-le-suc}
use native.Mathlib.Omega.{arith}
use mathlib.Core.List.{List, [], ◌∷◌, ◌++◌, append_assoc}
use lib.ListN.{length, set, take, drop, length-drop}
use lib.Seq.{take_all, drop-drop}
use borrow.Rule.Slice.PartMut.{put_mid}
use borrow.Author.Tests.{lt-ltb, le-ltb, le-leb, lt-leb}
use Rattle.text.specs.Put.{put_on, decimal_in}

-- ---- bytes
-- next is the place after them, at most the largest usize, and k how many bytes of the buffer are lent for them
module _ (out : List ℕ) (at : ℕ) (s : List ℕ) (next : ℕ) (e : next ≡ min (at + length s) 18446744073709551615) where
  pub put_none : length out < next → out ≡ put_on out at s
  unfolding put_on
  put_none h = rw (lt-leb (at + length s) (length out) (omega arith))

  pub put_all : length out < 18446744073709551615 → next ≤ length out → (k : ℕ) → k ≡ next - at → put_mid at k out s ≡ put_on out at s
  unfolding put_on
  put_all f h k d = let q : at + k ≡ at + length s = omega arith in rw (le-leb (at + length s) (length out) (omega arith), drop-drop, q) (sym (append_assoc (take at out) s (drop (at + length s) out)))

-- ---- digits: a turn of the loop writes one to k, the place before i
pub drop_set : (l : List ℕ) (i a : ℕ) → i < length l → drop i (set l i a) ≡ a ∷ drop (suc i) l
drop_set [] i a h = absurd (not-suc-le-zero h)
drop_set (x ∷ l) zero a h = refl
drop_set (x ∷ l) (suc i) a h = drop_set l i a (le_of_suc-le-suc h)

module _ (text : List ℕ) (i k m g : ℕ) (e : i ≡ suc k) (h : k < length text) (d : g ≡ 48 + m % 10) where
  pub last_turn : m < 10 → decimal_in i m ++ drop i text ≡ drop k (set text k g)
  unfolding decimal_in
  last_turn l = let s : m % 10 ≡ m = omega arith in rw (e, drop_set text k g h, d, s, lt-ltb m 10 l)

  pub next_turn : 10 ≤ m → decimal_in i m ++ drop i text ≡ decimal_in k (m / 10) ++ drop k (set text k g)
  unfolding decimal_in
  next_turn l = rw (e, drop_set text k g h, d, le-ltb m 10 l, append_assoc (decimal_in k (m / 10)) ((48 + m % 10) ∷ []) (drop (suc k) text))

-- the part from a place to the end is all that follows it
pub tail_is : (xs : List ℕ) {n : ℕ} → length xs ≡ n → (a : ℕ) → take (n - a) (drop a xs) ≡ drop a xs
tail_is xs {n} h a = take_all (n - a) (drop a xs) (simp length-drop (omega arith))
