-- A rectangle of which a corner is missing is off the grid. Assumes nothing.
use mathlib.Core.Path.{◌≡◌, refl, sym, ap, ◌∙◌}
use Prim.Native.Nat.{ℕ, zero, suc, ◌*◌, ◌/◌, ◌≤◌}
use native.Mathlib.Nat.{suc-ne-zero}
use native.Mathlib.Omega.{arith}
use mathlib.Core.Bool.{Bool, true, false, ◌||◌, cond}
use mathlib.Core.List.{List}
use lib.IntN.{nat_abs}
use lib.Dec.{leb}
use lib.Ieee.{Float, nan, lt}
use lib.ListN.{length, get_or-eq_default}
use Rattle.refusal.specs.Refusal.{none, off_grid, reversed, lowest}
use Rattle.floats.specs.Count.{Count, off, at, count_of}
use Rattle.emath.specs.declared.Rect.{Rect}
use Rattle.grid.specs.Grid.{on_grid, within, corner_refusal, pos_refusal, crossed, rect_refusal}
use Rattle.used.specs.Used.{rect_from}

-- nothing is refused, or something off the grid or what comes after it
abbrev Late : ℕ → Type 0
Late n = (n ≡ 0 → ⊥) → off_grid ≤ n

late_lowest : (a b : ℕ) → Late a → Late b → Late (lowest a b)
unfolding lowest
late_lowest zero b A B = B
late_lowest (suc a) zero A B = A
late_lowest (suc a) (suc b) A B = let p = A (suc-ne-zero a) in let q = B (suc-ne-zero b) in λ h. omega arith

off_last : (a : ℕ) → Late a → lowest a off_grid ≡ off_grid
unfolding lowest
off_last zero A = refl
off_last (suc a) A = let p = A (suc-ne-zero a) in omega arith

off_first : (a : ℕ) → Late a → lowest off_grid a ≡ off_grid
unfolding lowest
off_first zero A = refl
off_first (suc a) A = let p = A (suc-ne-zero a) in omega arith

corner_late : (x : Float) → Late (corner_refusal x)
unfolding within
corner_late x = go (count_of 32 x)
  where
    told : (t : Bool) → Late (cond t none off_grid)
    told true h = absurd (h refl)
    told false h = omega arith

    go : (n : Count) → Late (on_grid n (λ z. cond (leb (nat_abs z) 524288) none off_grid))
    go off = λ h. omega arith
    go (at z) = told (leb (nat_abs z) 524288)

crossed_late : (r : Rect) → Late (crossed r)
crossed_late r = go (lt r.max.x r.min.x || lt r.max.y r.min.y)
  where
    go : (t : Bool) → Late (cond t reversed none)
    go true h = omega arith
    go false h = absurd (h refl)

nan_off : corner_refusal nan ≡ off_grid
unfolding within count_of
nan_off = refl

no_bottom : (r : Rect) → r.max.y ≡ nan → rect_refusal r ≡ off_grid
unfolding rect_refusal
no_bottom r e =
    let x = corner_refusal r.max.x in
    let high : pos_refusal r.max ≡ off_grid = ap (λ (y : Float). lowest x (corner_refusal y)) e ∙ ap (lowest x) nan_off ∙ off_last x (corner_late r.max.x) in
    let low = pos_refusal r.min in
    ap (λ (n : ℕ). lowest (lowest low n) (crossed r)) high
    ∙ ap (λ (n : ℕ). lowest n (crossed r)) (off_last low (late_lowest (corner_refusal r.min.x) (corner_refusal r.min.y) (corner_late r.min.x) (corner_late r.min.y)))
    ∙ off_first (crossed r) (crossed_late r)

pub corner_missing : (corners : List Float) (i : ℕ) → length corners / 4 ≤ i → off_grid ≡ rect_refusal (rect_from corners (4 * i))
corner_missing corners i h = sym (no_bottom (rect_from corners (4 * i)) (get_or-eq_default corners nan (omega arith)))
