-- `round_ui` on the grid: steps of 1 / 64 become steps of 1 / 32, a tie away from zero. Assumes nothing.
use Rattle.std.proofs.Common.{◌≡◌, ℕ, zero, suc, ◌+◌, ◌*◌, ◌/◌, ◌^◌, ◌<◌, Bool, true, false, ℤ, pos, nat_abs, sym, refl, ap, ◌∙◌, subst, mul-pos, mul-one, arith, lit<, lit≤}
use lib.Ieee.{Float, nan, inf, fin, binary32, up, down, round, div, of_bits}
use lib.Ieee.Fits.{down_pos}
use lib.Ieee.Exact.{HasValue}
use lib.Ieee.Nearest.{div_same}
use Rattle.floats.specs.Count.{signed, at, count_of}
use Rattle.floats.proofs.Counts.{count_value, round_count, sized}
use Rattle.floats.proofs.Sign.{size_signed}
use Rattle.floats.proofs.Scale.{mul_count, div_count, times_one}
use Rattle.gui_rounding.specs.GuiRounding.{gui_rounding, round_away, round_ui, half_away}

-- `round_away` sees only the number
round_away_at : (x : Float) (s : Bool) (a c : ℕ) → 0 < c → HasValue x s a c → round_away x ≡ round binary32 s ((a * 2 + c) / (c * 2)) 1
unfolding round_away
round_away_at nan s a c p v = absurd v
round_away_at (inf t) s a c p v = absurd v
round_away_at (fin t m e) s a c p v =
    λ i. round binary32 (v.0 i) (div_same (m * up e * 2 + down e) (down e * 2) (a * 2 + c) (c * 2) (mul-pos (down_pos e) (lit< tt)) (mul-pos p (lit< tt)) (cross (m * up e) (down e) a c v.1) i) 1
  where
    cross : (M D a c : ℕ) → M * c ≡ a * D → (M * 2 + D) * (c * 2) ≡ (a * 2 + c) * (D * 2)
    cross M D a c h = omega arith

gui_count : count_of 32 gui_rounding ≡ at (pos 1)
unfolding count_of of_bits
gui_count = refl

nearest_half : (n : ℕ) → (n * 2 + 2) / 4 ≡ (n + 1) / 2
nearest_half n = omega arith

signed_half : (s : Bool) (n : ℕ) → signed s ((n + 1) / 2) ≡ half_away (signed s n)
signed_half false n = refl
signed_half true zero = refl
signed_half true (suc n) = refl

smaller : (n : ℕ) → n < 2 ^ 24 → (n + 1) / 2 < 2 ^ 24
smaller n h = omega arith

away_count : (y : Float) (z : ℤ) → count_of 2 y ≡ at z → nat_abs z < 2 ^ 24 → (count_of 1 (round_away y) ≡ at (half_away z)) × (nat_abs (half_away z) < 2 ^ 24)
away_count y z p h =
    let v = count_value 2 y z p in
    let n = v.steps in
    let small : n < 2 ^ 24 = subst (λ (m : ℕ). m < 2 ^ 24) (sized 2 y z v) h in
    let half : signed v.sign ((n + 1) / 2) ≡ half_away z = signed_half v.sign n ∙ ap half_away (sym v.is) in (
      ap (count_of 1) (round_away_at y v.sign n 2 (lit< tt) v.value ∙ ap (λ (m : ℕ). round binary32 v.sign m 1) (nearest_half n))
          ∙ round_count v.sign ((n + 1) / 2) 0 (lit≤ tt) (smaller n small)
          ∙ ap at half,
      subst (λ (m : ℕ). m < 2 ^ 24) (sym (size_signed v.sign ((n + 1) / 2)) ∙ ap nat_abs half) (smaller n small),
    )

pub round_ui_count : (x : Float) (z : ℤ) → count_of 64 x ≡ at z → nat_abs z < 2 ^ 24 → count_of 32 (round_ui x) ≡ at (half_away z)
unfolding round_ui
round_ui_count x z p h =
    let r = away_count (div binary32 x gui_rounding) z (div_count 1 5 (lit≤ tt) x gui_rounding z p gui_count h) h in
    mul_count 0 5 (lit≤ tt) (round_away (div binary32 x gui_rounding)) gui_rounding (half_away z) (pos 1) r.0 gui_count (subst (λ (m : ℕ). m < 2 ^ 24) (sym (mul-one (nat_abs (half_away z)))) r.1)
    ∙ ap at (times_one (half_away z))
