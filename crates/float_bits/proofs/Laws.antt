-- Laws of bit patterns of an f32: a pattern and its float give each other back. Assumes nothing.
use mathlib.Core.Path.{◌≡◌, refl, sym, ap, ◌∙◌}
use Prim.Native.Nat.{ℕ, ◌<◌, ◌≤◌}
use native.Mathlib.Omega.{arith}
use mathlib.Core.Bool.{Bool, true, false, cond}
use lib.Dec.{T, ltb}
use lib.Ieee.{Float, nan, binary32, fits, is_nan, of_bits, to_bits}
use lib.Ieee.Bits.{of_bits-to_bits, to_bits-lt, to_bits-of_bits}
use borrow.Author.Tests.{ltb-true, lt-ltb, le-ltb}
use Rattle.float_bits.specs.Pattern.{float_of, bits_of}
use Rattle.std.specs.Prelude.{None, Some}

-- ---- a pattern's float
module _ (n : ℕ) where
  pub past_patterns : 4294967296 ≤ n → of_bits binary32 2143289344 ≡ float_of n
  unfolding float_of of_bits
  past_patterns h = rw (le-ltb n 4294967296 h)

  plain_pattern : n ≤ 4294967295 → of_bits binary32 n ≡ float_of n
  unfolding float_of
  plain_pattern h = rw (lt-ltb n 4294967296 (omega arith))

-- ---- there and back
pub float_back : (x : Float) → T (fits binary32 x) → (n : ℕ) → bits_of x ≡ Some n → float_of n ≡ x
unfolding bits_of
float_back x f n e = go (is_nan x) e
  where
    go : (t : Bool) → cond t None (Some (to_bits binary32 x)) ≡ Some n → float_of n ≡ x
    go true e = cc
    go false e =
        let q : to_bits binary32 x ≡ n = cc in
        let k : to_bits binary32 x < 4294967296 = to_bits-lt binary32 x f in
        sym (plain_pattern n (omega arith)) ∙ ap (of_bits binary32) (sym q) ∙ of_bits-to_bits binary32 x f

-- a number that is no NaN's is a pattern
held : (n : ℕ) → is_nan (float_of n) ≡ false → n < 4294967296
unfolding float_of is_nan
held n h = go (ltb n 4294967296) refl h
  where
    go : (t : Bool) → ltb n 4294967296 ≡ t → is_nan (cond t (of_bits binary32 n) nan) ≡ false → n < 4294967296
    go true e h = ltb-true n 4294967296 e
    go false e h = cc

pub pattern_back : (n : ℕ) → is_nan (float_of n) ≡ false → bits_of (float_of n) ≡ Some n
unfolding bits_of
pattern_back n t =
    let h = held n t in
    let e = plain_pattern n (omega arith) in
    let u : is_nan (of_bits binary32 n) ≡ false = rw e t in
    rw t (ap Some (ap (to_bits binary32) (sym e) ∙ to_bits-of_bits binary32 n h (rw u tt)))
