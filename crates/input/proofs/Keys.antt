-- What each key number does, as the filter and the focus read it. Assumes nothing.
use mathlib.Core.Path.{◌≡◌, refl, sym, ap, ◌∙◌}
use Prim.Native.Nat.{ℕ, ◌≤◌}
use native.Mathlib.Omega.{arith}
use mathlib.Core.Bool.{Bool, true, false, not, cond}
use borrow.Author.Tests.{ne_eqb}
use Rattle.input.specs.declared.EventFilter.{EventFilter}
use Rattle.input.specs.declared.Navigation.{Navigation}
use Rattle.input.specs.declared.Navigation.TheVariants.{Unchanged, Direction, Escape}
use Rattle.input.specs.EventFilter.{matches_key}
use Rattle.input.specs.FocusDirection.{navigation_of}
use Rattle.input.specs.Modifiers.{any_of, shift_only}

-- a key that needs every modifier off, as `plain` and `tab` ask for it
turned : (a : Bool) (x y : Navigation) → cond a y x ≡ cond (not a) x y
turned true x y = refl
turned false x y = refl

-- ---- a pressed key k, with the answer r that `plain` or `tab` gave
module _ (k m : ℕ) (r : Navigation) where
  pub down_key : k ≡ 0 → r ≡ cond (any_of m) Unchanged (Direction 2) → r ≡ navigation_of k m
  unfolding navigation_of
  down_key h e = e ∙ turned (any_of m) (Direction 2) Unchanged ∙ ap (λ (n : ℕ). navigation_of n m) (sym h)

  pub left_key : k ≡ 1 → r ≡ cond (any_of m) Unchanged (Direction 3) → r ≡ navigation_of k m
  unfolding navigation_of
  left_key h e = e ∙ turned (any_of m) (Direction 3) Unchanged ∙ ap (λ (n : ℕ). navigation_of n m) (sym h)

  pub right_key : k ≡ 2 → r ≡ cond (any_of m) Unchanged (Direction 1) → r ≡ navigation_of k m
  unfolding navigation_of
  right_key h e = e ∙ turned (any_of m) (Direction 1) Unchanged ∙ ap (λ (n : ℕ). navigation_of n m) (sym h)

  pub up_key : k ≡ 3 → r ≡ cond (any_of m) Unchanged (Direction 0) → r ≡ navigation_of k m
  unfolding navigation_of
  up_key h e = e ∙ turned (any_of m) (Direction 0) Unchanged ∙ ap (λ (n : ℕ). navigation_of n m) (sym h)

  pub escape_key : k ≡ 4 → r ≡ cond (any_of m) Unchanged Escape → r ≡ navigation_of k m
  unfolding navigation_of
  escape_key h e = e ∙ turned (any_of m) Escape Unchanged ∙ ap (λ (n : ℕ). navigation_of n m) (sym h)

  pub tab_key : k ≡ 5 → r ≡ cond (any_of m) (cond (shift_only m) (Direction 4) Unchanged) (Direction 5) → r ≡ navigation_of k m
  unfolding navigation_of
  tab_key h e = e ∙ turned (any_of m) (Direction 5) (cond (shift_only m) (Direction 4) Unchanged) ∙ ap (λ (n : ℕ). navigation_of n m) (sym h)

pub other_key : (k m : ℕ) → 6 ≤ k → Unchanged ≡ navigation_of k m
unfolding navigation_of
other_key k m h =
    sym
    (rw (ne_eqb k 3 (omega arith), ne_eqb k 2 (omega arith), ne_eqb k 0 (omega arith), ne_eqb k 1 (omega arith), ne_eqb k 5 (omega arith), ne_eqb k 4 (omega arith)))

pub matches_other : (f : EventFilter) (k : ℕ) → 6 ≤ k → true ≡ matches_key f k
unfolding matches_key
matches_other f k h =
    sym
    (rw (ne_eqb k 5 (omega arith), ne_eqb k 3 (omega arith), ne_eqb k 0 (omega arith), ne_eqb k 2 (omega arith), ne_eqb k 1 (omega arith), ne_eqb k 4 (omega arith)))
