-- What it means that a number or a rectangle is taken: it is so many steps, within its bounds. Assumes nothing.
use mathlib.Core.Path.{◌≡◌, refl, ap, ◌∙◌}
use Prim.Native.Nat.{ℕ, ◌*◌, ◌≤◌}
use native.Mathlib.Omega.{arith}
use mathlib.Core.Bool.{Bool, true, false, ◌||◌, cond}
use lib.IntN.{ℤ, pos, negsuc, nat_abs}
use lib.Dec.{leb}
use lib.Ieee.{Float, lt}
use borrow.Author.Tests.{leb-true, le-leb}
use Rattle.refusal.specs.Refusal.{none, off_grid, reversed, lowest}
use Rattle.refusal.proofs.Laws.{both_none}
use Rattle.floats.specs.Count.{Count, off, at, count_of}
use Rattle.emath.specs.declared.Rect.{Rect}
use Rattle.grid.specs.Grid.{on_grid, within, side_at, side_refusal, corner_refusal, pos_refusal, crossed, rect_refusal}

off_is_refused : off_grid ≡ none → ⊥
off_is_refused h = omega arith

reversed_is_refused : reversed ≡ none → ⊥
reversed_is_refused h = omega arith

passed : (t : Bool) → cond t none off_grid ≡ none → t ≡ true
passed true h = refl
passed false h = absurd (off_is_refused h)

pub within_count : (c b : ℕ) (x : Float) → within c b x ≡ 0 → (z : ℤ) × (count_of c x ≡ at z) × (nat_abs z ≤ b * c)
unfolding within
within_count c b x h = go (count_of c x) refl h
  where
    go : (n : Count) → count_of c x ≡ n → on_grid n (λ z. cond (leb (nat_abs z) (b * c)) none off_grid) ≡ none → (z : ℤ) × (count_of c x ≡ at z) × (nat_abs z ≤ b * c)
    go off e h = absurd (off_is_refused h)
    go (at z) e h = (z, e, leb-true (nat_abs z) (b * c) (passed (leb (nat_abs z) (b * c)) h))

pub count_within : (c b : ℕ) (x : Float) (z : ℤ) → count_of c x ≡ at z → nat_abs z ≤ b * c → within c b x ≡ 0
unfolding within
count_within c b x z e h = ap (λ (n : Count). on_grid n (λ y. cond (leb (nat_abs y) (b * c)) none off_grid)) e ∙ ap (λ (t : Bool). cond t none off_grid) (le-leb (nat_abs z) (b * c) h)

pub side_count : (x : Float) → side_refusal x ≡ 0 → (n : ℕ) × (count_of 32 x ≡ at (pos n)) × (n ≤ 524288)
unfolding side_refusal
side_count x h = go (count_of 32 x) refl h
  where
    go : (k : Count) → count_of 32 x ≡ k → on_grid k side_at ≡ 0 → (n : ℕ) × (count_of 32 x ≡ at (pos n)) × (n ≤ 524288)
    go off e h = absurd (off_is_refused h)
    go (at (pos n)) e h = (n, e, leb-true n 524288 (passed (leb n 524288) h))
    go (at (negsuc n)) e h = absurd (reversed_is_refused h)

pub count_side : (x : Float) (n : ℕ) → count_of 32 x ≡ at (pos n) → n ≤ 524288 → side_refusal x ≡ none
unfolding side_refusal
count_side x n e h = ap (λ (k : Count). on_grid k side_at) e ∙ ap (λ (t : Bool). cond t none off_grid) (le-leb n 524288 h)

-- ---- a rectangle: four corners, none below its other
pub record Taken (r : Rect) : Type 0 where
  pub left : corner_refusal r.min.x ≡ 0
  pub top : corner_refusal r.min.y ≡ 0
  pub right : corner_refusal r.max.x ≡ 0
  pub bottom : corner_refusal r.max.y ≡ 0
  pub across : lt r.max.x r.min.x ≡ false
  pub along : lt r.max.y r.min.y ≡ false

straight : (s t : Bool) → cond (s || t) reversed none ≡ none → (s ≡ false) × (t ≡ false)
straight true t h = absurd (reversed_is_refused h)
straight false true h = absurd (reversed_is_refused h)
straight false false h = (refl, refl)

pub rect_taken : (r : Rect) → rect_refusal r ≡ 0 → Taken r
unfolding rect_refusal
rect_taken r h =
    let all = both_none (lowest (pos_refusal r.min) (pos_refusal r.max)) (crossed r) h in
    let ends = both_none (pos_refusal r.min) (pos_refusal r.max) all.0 in
    let low = both_none (corner_refusal r.min.x) (corner_refusal r.min.y) ends.0 in
    let high = both_none (corner_refusal r.max.x) (corner_refusal r.max.y) ends.1 in
    let order = straight (lt r.max.x r.min.x) (lt r.max.y r.min.y) all.1 in
    record { left = low.0; top = low.1; right = high.0; bottom = high.1; across = order.0; along = order.1 }
