-- Floats as they are written: their own values, powers of two, the tests against zero, and sums of numbers that are not negative. Assumes nothing.
use mathlib.Core.Path.{◌≡◌, refl, sym, ap, ◌∙◌}
use Prim.Native.Nat.{ℕ, suc, ◌+◌, ◌-◌, ◌*◌, ◌^◌, ◌≤◌, ◌<◌, zero-le}
use native.Mathlib.Nat.{one-mul, mul-one, zero-mul, add-zero, mul-pos, zero-lt-suc}
use native.Mathlib.Omega.{arith}
use mathlib.Core.Bool.{Bool, true, false, cond}
use lib.IntN.{ℤ, pos, negsuc}
use lib.Dec.{T, ltb, leb}
use lib.Pow.{pow_mono}
use lib.Ieee.{Float, fin, binary32, up, down, round, sum, lt, le, fits}
use lib.Ieee.Fits.{up_pos, down_pos}
use lib.Ieee.Exact.{HasValue}
use borrow.Author.Tests.{lt-ltb, le-ltb}
use Rattle.floats.proofs.Value.{lt_at, le_at, at_most}
use Rattle.floats.proofs.Held.{held}

-- +0.0, and 2 ^ w
abbrev pub nil : Float
nil = fin false 0 (pos 0)

abbrev pub power : ℕ → Float
power w = fin false 1 (pos w)

pub own : (s : Bool) (m : ℕ) (e : ℤ) → HasValue (fin s m e) s (m * up e) (down e)
own s m e = (refl, refl)

pub nil_value : (d : ℕ) → HasValue nil false 0 d
nil_value d = (refl, zero-mul d)

pub power_value : (w d : ℕ) → HasValue (power w) false (2 ^ w * d) d
power_value w d = (refl, ap (λ (x : ℕ). x * d) (one-mul (2 ^ w)) ∙ sym (mul-one (2 ^ w * d)))

-- ---- against zero
pub above_nil : (m : ℕ) (e : ℤ) → lt nil (fin false m e) ≡ ltb 0 (m * up e)
above_nil m e = lt_at nil (fin false m e) false false 0 (m * up e) (down e) (down_pos e) (nil_value (down e)) (own false m e)

pub below_nil : (m : ℕ) (e : ℤ) → lt (fin true m e) nil ≡ ltb 0 (m * up e)
below_nil m e =
    lt_at (fin true m e) nil true false (m * up e) 0 (down e) (down_pos e) (own true m e) (nil_value (down e)) ∙ ap (λ (n : ℕ). ltb 0 n) (add-zero (m * up e))

pub not_below_nil : (m : ℕ) (e : ℤ) → lt (fin false m e) nil ≡ false
not_below_nil m e = lt_at (fin false m e) nil false false (m * up e) 0 (down e) (down_pos e) (own false m e) (nil_value (down e)) ∙ le-ltb (m * up e) 0 zero-le

pub some_digits : (m : ℕ) (e : ℤ) → ltb 0 (suc m * up e) ≡ true
some_digits m e = lt-ltb 0 (suc m * up e) (mul-pos (zero-lt-suc m) (up_pos e))

-- ---- against a power of two
pub lt_power : (m : ℕ) (e : ℤ) (w : ℕ) → lt (fin false m e) (power w) ≡ ltb (m * up e) (2 ^ w * down e)
lt_power m e w = lt_at (fin false m e) (power w) false false (m * up e) (2 ^ w * down e) (down e) (down_pos e) (own false m e) (power_value w (down e))

pub le_power : (m : ℕ) (e : ℤ) (w : ℕ) → le (fin false m e) (power w) ≡ leb (m * up e) (2 ^ w * down e)
le_power m e w =
    le_at (fin false m e) (power w) false false (m * up e) (2 ^ w * down e) (down e) (down_pos e) (own false m e) (power_value w (down e)) ∙ at_most (m * up e) (2 ^ w * down e)

-- ---- from 2 ^ 23 on an f32 has no fraction
pub no_fraction : (s : Bool) (m k : ℕ) → T (fits binary32 (fin s m (negsuc k))) → 2 ^ 23 * 2 ^ suc k ≤ m * 1 → ⊥
no_fraction s m k f h = clash m (2 ^ suc k) (held s m (negsuc k) f).digits (pow_mono (zero-lt-suc k)) h
  where
    clash : (m p : ℕ) → m < 2 ^ 24 → 2 ≤ p → 2 ^ 23 * p ≤ m * 1 → ⊥
    clash m p h k l = omega arith

-- ---- sums of a / c and b / c, neither below zero
pub joined : (a b c : ℕ) → sum binary32 false a false b c ≡ round binary32 false (a + b) c
unfolding sum
joined a b c = refl

pub reduced : (a b c : ℕ) → b ≤ a → sum binary32 false a true b c ≡ round binary32 false (a - b) c
unfolding sum
reduced a b c h = ap (λ (t : Bool). cond t (round binary32 true (b - a) c) (round binary32 false (a - b) c)) (le-ltb a b h)
