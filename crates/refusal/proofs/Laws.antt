-- Laws of `lowest`: each way it is found, and what it means that nothing is refused; and of what a check or a call answers. Assumes nothing.
use mathlib.Core.Path.{◌≡◌, refl, sym}
use Prim.Native.Nat.{ℕ, zero, suc, ◌≤◌, ◌<◌}
use native.Mathlib.Omega.{arith}
use Rattle.refusal.specs.Refusal.{bad_family, number_of, number_in, lowest, answer}
use Rattle.refusal.specs.declared.Refusal.{Refusal}
use Rattle.std.specs.Prelude.{Result, Ok, Err, is_err}
use mathlib.Core.Bool.{true, false, true≢false}

pub none_left : (a b : ℕ) → a ≡ 0 → b ≡ lowest a b
unfolding lowest
none_left a b e = rw e

pub none_right : (a b : ℕ) → b ≡ 0 → a ≡ lowest a b
unfolding lowest
none_right zero b e = sym e
none_right (suc a) b e = rw e

pub left_lower : (a b : ℕ) → (a ≡ 0 → ⊥) → a < b → a ≡ lowest a b
unfolding lowest
left_lower zero b h k = absurd (h refl)
left_lower (suc a) zero h k = omega arith
left_lower (suc a) (suc b) h k = omega arith

pub right_lower : (a b : ℕ) → (b ≡ 0 → ⊥) → b ≤ a → b ≡ lowest a b
unfolding lowest
right_lower zero b h k = refl
right_lower (suc a) zero h k = absurd (h refl)
right_lower (suc a) (suc b) h k = omega arith

-- nothing is refused: neither part is
pub both_none : (a b : ℕ) → lowest a b ≡ 0 → (a ≡ 0) × (b ≡ 0)
unfolding lowest
both_none zero b e = (refl, e)
both_none (suc a) zero e = omega arith
both_none (suc a) (suc b) e = omega arith

-- ---- the refusals of the code
pub positive : (r : Refusal) → 0 < number_of r
positive r = grind arith

module _ (r s : Refusal) where
  pub second_lower : number_of s < number_of r → number_of s ≡ lowest (number_of r) (number_of s)
  second_lower h = right_lower _ _ (λ e. let p = positive s in omega arith) (omega arith)

  pub first_lower : number_of r ≤ number_of s → number_of r ≡ lowest (number_of r) (number_of s)
  unfolding lowest
  first_lower h = go (number_of r) (number_of s) (positive r) h
    where
      go : (a b : ℕ) → 0 < a → a ≤ b → a ≡ lowest a b
      go zero b p k = absurd (omega arith)
      go (suc a) zero p k = absurd (omega arith)
      go (suc a) (suc b) p k = omega arith

-- each number of the table is a refusal's
pub told : {A : Type 0} (a : A) (n : ℕ) → n ≤ bad_family → number_in (answer n a) ≡ n
told a n h = grind arith

-- ---- a check that is only asked whether it refuses
pub no_error : (checked : Result Unit Refusal) → is_err checked ≡ false → number_in checked ≡ 0
no_error (Ok u) h = refl
no_error (Err r) h = absurd (true≢false h)

pub an_error : (checked : Result Unit Refusal) → is_err checked ≡ true → number_in checked ≡ 0 → ⊥
an_error (Ok u) h e = true≢false (sym h)
an_error (Err r) h e = let p = positive r in omega arith
