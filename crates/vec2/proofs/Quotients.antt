-- Whole numbers of at most 24 digits as f32, divided by 64 and by a power of two. Assumes nothing.
use Rattle.std.proofs.Common.{◌≡◌, ℕ, ◌*◌, ◌^◌, ◌≤◌, false, T, pos, ap, ◌∙◌, mul_comm, mul-one, lit<, lit≤, le→leb, pow_pos, pow_mono}
use lib.Ieee.{Float, binary32, round, div, of_int, of_bits, in_float}
use lib.Ieee.Exact.{HasValue}
use lib.Ieee.Back.{round_whole}
use Rattle.floats.proofs.Value.{div_at}
use Rattle.floats.proofs.Plain.{power, power_value}
use Rattle.vec2.proofs.Digits.{exact_24}

pub castable : (n : ℕ) → n ≤ 2 ^ 24 → T (in_float binary32 (pos n))
unfolding in_float
castable n h = le→leb n (2 ^ 24) h

cast_value : (n : ℕ) → n ≤ 2 ^ 24 → HasValue (of_int binary32 (pos n)) false n 1
unfolding of_int
cast_value n h = round_whole binary32 false n h

-- (n as f32) / 64.0
pub over_64 : (n : ℕ) → n ≤ 2 ^ 24 → div binary32 (of_int binary32 (pos n)) (of_bits binary32 0x4280_0000) ≡ round binary32 false n 64
unfolding of_bits
over_64 n h =
    div_at (of_int binary32 (pos n)) (power 6) false false n 1 64 1 (lit< tt) (lit< tt) (lit< tt) (cast_value n h) (power_value 6 1) ∙ ap (λ (x : ℕ). round binary32 false x 64) (mul-one n)

-- (n as f32) / 64.0 / (2 ^ t as f32)
pub over_both : (n t : ℕ) → n ≤ 2 ^ 24 → t ≤ 24 → div binary32 (div binary32 (of_int binary32 (pos n)) (of_bits binary32 0x4280_0000)) (of_int binary32 (pos (2 ^ t))) ≡ round binary32 false n (64 * 2 ^ t)
over_both n t h k =
    ap (λ (x : Float). div binary32 x (of_int binary32 (pos (2 ^ t)))) (over_64 n h)
    ∙ div_at (round binary32 false n 64) (of_int binary32 (pos (2 ^ t))) false false n 64 (2 ^ t) 1 (lit< tt) (lit< tt) (pow_pos t) (exact_24 n 5 (lit≤ tt) h) (cast_value (2 ^ t) (pow_mono k))
    ∙ (λ i. round binary32 false (mul-one n i) (mul_comm (2 ^ t) 64 i))
