-- Bytes and decimal numbers put into a buffer, from ../shared/REPLAY.md, "Words" (a number is decimal, without leading zeros). Definitions only.
use Rattle.std.specs.Prelude.{ℕ, zero, suc, ◌+◌, ◌/◌, ◌%◌, min, cond, List, [], ◌∷◌, ◌++◌, ltb, leb, length, take, drop}

-- the place after bytes that are put at a place; it stops at the largest usize
abbrev pub place_after : ℕ → List ℕ → ℕ
place_after at s = min (at + length s) 18446744073709551615

-- the buffer with the bytes at the place, where all of them fit, and else as it was
unfoldable pub put_on : List ℕ → ℕ → List ℕ → List ℕ
put_on out at s = cond (leb (at + length s) (length out)) (take at out ++ s ++ drop (at + length s) out) out

-- the decimal text of n, of at most k digits: one digit, or the text of n's tens and its last digit
unfoldable pub decimal_in : ℕ → ℕ → List ℕ
decimal_in zero n = []
decimal_in (suc k) n = cond (ltb n 10) ((48 + n) ∷ []) (decimal_in k (n / 10) ++ ((48 + n % 10) ∷ []))

-- a u64 has at most twenty
abbrev pub decimal_of : ℕ → List ℕ
decimal_of n = decimal_in 20 n
