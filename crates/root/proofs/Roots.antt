-- Whole parts of square roots: there is one, and a binary digit more of it takes two more of the number. Assumes nothing.
use mathlib.Core.Path.{◌≡◌}
use Prim.Native.Nat.{ℕ, ◌+◌, ◌*◌, ◌/◌, ◌^◌, ◌≤◌, ◌<◌}
use native.Mathlib.Nat.{le_antisymm, le_of_suc-le-suc, lt_of_not-le, lt_of_le_of_lt, not-le_of_lt, mul-le-mul}
use native.Mathlib.Omega.{arith}
use Rattle.root.specs.Root.{IsRoot}

-- r is below b where the square of r is below that of b
pub below_root : (r n b : ℕ) → r * r ≤ n → n < b * b → r < b
below_root r n b h k = lt_of_not-le (λ (g : b ≤ r). not-le_of_lt (lt_of_le_of_lt h k) (mul-le-mul g g))

at_most : (n r s : ℕ) → IsRoot n r → IsRoot n s → r ≤ s
at_most n r s a b = pred r s (below_root r n (s + 1) a.0 b.1)
  where
    pred : (r s : ℕ) → r < s + 1 → r ≤ s
    pred r s h = omega arith

pub one_root : (n r s : ℕ) → IsRoot n r → IsRoot n s → r ≡ s
one_root n r s a b = le_antisymm (at_most n r s a b) (at_most n s r b a)

-- what `root` promises of its answer
pub is_the_root : (n r : ℕ) → IsRoot n r → IsRoot n r × ((s : ℕ) → IsRoot n s → s ≡ r)
is_the_root n r a = (a, λ s b. one_root n s r b a)

pub root_of_zero : (n : ℕ) → n ≡ 0 → IsRoot n 0
root_of_zero n e = omega arith

-- ---- one more digit
pub digit_one : (m s : ℕ) → IsRoot (m / 4) s → (2 * s + 1) * (2 * s + 1) ≤ m → IsRoot m (2 * s + 1)
digit_one m s a h = (h, less m s a.1)
  where
    less : (m s : ℕ) → m / 4 < (s + 1) * (s + 1) → m < (2 * s + 1 + 1) * (2 * s + 1 + 1)
    less m s h = omega arith

pub digit_zero : (m s : ℕ) → IsRoot (m / 4) s → m < (2 * s + 1) * (2 * s + 1) → IsRoot m (2 * s)
digit_zero m s a h = (enough m s a.0, h)
  where
    enough : (m s : ℕ) → s * s ≤ m / 4 → 2 * s * (2 * s) ≤ m
    enough m s h = omega arith

-- ---- it stays within a u64
pub half_root : (m s : ℕ) → m < 2 ^ 64 → IsRoot (m / 4) s → s < 2 ^ 31
half_root m s h a = below_root s (m / 4) (2 ^ 31) a.0 (quarter m h)
  where
    quarter : (m : ℕ) → m < 2 ^ 64 → m / 4 < 2 ^ 62
    quarter m h = omega arith

pub square_fits : (s : ℕ) → s < 2 ^ 31 → (2 * s + 1) * (2 * s + 1) < 2 ^ 64
square_fits s h = sum s (mul-le-mul (le_of_suc-le-suc h) (le_of_suc-le-suc h)) h
  where
    sum : (s : ℕ) → s * s ≤ 2147483647 * 2147483647 → s < 2 ^ 31 → (2 * s + 1) * (2 * s + 1) < 2 ^ 64
    sum s h k = omega arith
