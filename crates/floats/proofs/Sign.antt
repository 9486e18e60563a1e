-- Whole numbers by sign and size: sums, order and size of `signed s n`. Assumes nothing.
use mathlib.Core.Path.{◌≡◌, refl, sym, ap, ◌∙◌, subst}
use Prim.Native.Nat.{ℕ, zero, suc, ◌+◌, ◌-◌, ◌≤◌, ◌<◌}
use native.Mathlib.Nat.{add-zero, sub-zero, le_refl}
use native.Mathlib.Omega.{arith}
use mathlib.Core.Bool.{Bool, true, false, not, ◌&&◌, ◌||◌, cond}
use lib.IntN.{ℤ, pos, negsuc, neg_ℤ, nat_abs, sub_ℕ, ◌+ℤ◌, ◌-ℤ◌}
use lib.Signed.{lt_z, le_z}
use lib.Dec.{T, ltb, eqb, ltb→lt, eqb→eq, leb-suc-zero, leb-suc-suc, leb-zero, eqb-zero-suc, eqb-suc-zero}
use lib.Ieee.{below, level}
use lib.Ieee.Fits.{eq→eqb}
use borrow.Author.Tests.{lt-ltb, le-ltb}
use Rattle.floats.specs.Count.{signed}
use Rattle.floats.proofs.Value.{same_test, at_most}

pub size_signed : (s : Bool) (n : ℕ) → nat_abs (signed s n) ≡ n
size_signed false n = refl
size_signed true zero = refl
size_signed true (suc n) = refl

pub signed_not : (s : Bool) (n : ℕ) → signed (not s) n ≡ neg_ℤ (signed s n)
signed_not false n = refl
signed_not true zero = refl
signed_not true (suc n) = refl

-- ---- sums of unlike signs are differences
sub_none : (n : ℕ) → sub_ℕ n 0 ≡ pos (n + 0)
sub_none n = ap (λ (t : Bool). cond t (negsuc (0 - suc n)) (pos (n - 0))) (leb-suc-zero n) ∙ ap pos (sub-zero n ∙ sym (add-zero n))

none_sub : (n : ℕ) → sub_ℕ 0 (suc n) ≡ negsuc n
none_sub n = ap (λ (t : Bool). cond t (negsuc (suc n - 1)) (pos (0 - suc n))) (leb-suc-suc 0 n ∙ leb-zero n) ∙ ap negsuc (off n)
  where
    off : (n : ℕ) → suc n - 1 ≡ n
    off n = omega arith

pub pos_less : (n k : ℕ) → pos n +ℤ signed true k ≡ sub_ℕ n k
pos_less n zero = sym (sub_none n)
pos_less n (suc k) = refl

pub less_pos : (n k : ℕ) → signed true n +ℤ pos k ≡ sub_ℕ k n
less_pos zero k = ap pos (zero_plus k) ∙ sym (sub_none k)
  where
    zero_plus : (k : ℕ) → 0 + k ≡ k + 0
    zero_plus k = omega arith
less_pos (suc n) k = refl

pub both_below : (n k : ℕ) → signed true n +ℤ signed true k ≡ signed true (n + k)
both_below zero zero = refl
both_below zero (suc k) = none_sub k ∙ ap (λ (x : ℕ). neg_ℤ (pos x)) (zero_plus k)
  where
    zero_plus : (k : ℕ) → suc k ≡ 0 + suc k
    zero_plus k = omega arith
both_below (suc n) zero = none_sub n ∙ ap (λ (x : ℕ). neg_ℤ (pos x)) (sym (add-zero (suc n)))
both_below (suc n) (suc k) = ap (λ (x : ℕ). neg_ℤ (pos x)) (more n k)
  where
    more : (n k : ℕ) → suc (suc (n + k)) ≡ suc n + suc k
    more n k = omega arith

-- ---- a sum or difference is no larger than both sizes together
size_less : (a b : ℕ) → nat_abs (sub_ℕ a b) ≤ a + b
size_less a b = go (ltb a b) (ltb→lt a b)
  where
    past : (a b : ℕ) → a < b → suc (b - suc a) ≤ a + b
    past a b h = omega arith

    short : (a b : ℕ) → a - b ≤ a + b
    short a b = omega arith

    go : (t : Bool) → (T t → a < b) → nat_abs (cond t (negsuc (b - suc a)) (pos (a - b))) ≤ a + b
    go true h = past a b (h tt)
    go false h = short a b

turn : (a b : ℕ) {n : ℕ} → n ≤ b + a → n ≤ a + b
turn a b h = omega arith

pub size_add : (a b : ℤ) → nat_abs (a +ℤ b) ≤ nat_abs a + nat_abs b
size_add (pos a) (pos b) = le_refl (a + b)
size_add (pos a) (negsuc b) = size_less a (suc b)
size_add (negsuc a) (pos b) = turn (suc a) b (size_less b (suc a))
size_add (negsuc a) (negsuc b) = omega arith

size_neg : (a : ℤ) → nat_abs (neg_ℤ a) ≡ nat_abs a
size_neg (pos zero) = refl
size_neg (pos (suc a)) = refl
size_neg (negsuc a) = refl

pub size_sub : (a b : ℤ) → nat_abs (a -ℤ b) ≤ nat_abs a + nat_abs b
size_sub a b = subst (λ (n : ℕ). nat_abs (a -ℤ b) ≤ nat_abs a + n) (size_neg b) (size_add a (neg_ℤ b))

-- ---- the order of two floats' sizes and signs is that of the whole numbers
pub below_signed : (s t : Bool) (n k : ℕ) → below s n t k ≡ lt_z (signed s n) (signed t k)
below_signed false false n k = refl
below_signed false true n zero = sym (leb-suc-zero n)
below_signed false true n (suc k) = refl
below_signed true false zero k = ap (λ (x : ℕ). ltb 0 x) (zero_plus k)
  where
    zero_plus : (k : ℕ) → 0 + k ≡ k
    zero_plus k = omega arith
below_signed true false (suc n) k = lt-ltb 0 (suc n + k) (omega arith)
below_signed true true zero zero = refl
below_signed true true zero (suc k) = le-ltb (suc k) 0 (omega arith)
below_signed true true (suc n) zero = leb-suc-suc 0 n ∙ leb-zero n
below_signed true true (suc n) (suc k) = leb-suc-suc (suc k) n

swap : (x y : ℕ) → eqb x y ≡ eqb y x
swap x y = same_test (eqb x y) (eqb y x) (λ t. eq→eqb (sym (eqb→eq x y t))) (λ t. eq→eqb (sym (eqb→eq y x t)))

and-false : (x : Bool) → (x && false) ≡ false
and-false true = refl
and-false false = refl

pub at_most_signed : (s t : Bool) (n k : ℕ) → (below s n t k || level s n t k) ≡ le_z (signed s n) (signed t k)
at_most_signed false false n k = at_most n k
at_most_signed false true zero zero = refl
at_most_signed false true (suc n) zero = rw (eqb-suc-zero, leb-suc-zero)
at_most_signed false true zero (suc k) = rw eqb-zero-suc
at_most_signed false true (suc n) (suc k) = ap (λ (t : Bool). eqb (suc n) (suc k) && t) (eqb-suc-zero n) ∙ and-false (eqb (suc n) (suc k))
at_most_signed true false zero zero = refl
at_most_signed true false zero (suc k) = rw (lt-ltb 0 (0 + suc k) (omega arith), leb-zero)
at_most_signed true false (suc n) k = rw (lt-ltb 0 (suc n + k) (omega arith))
at_most_signed true true zero zero = refl
at_most_signed true true zero (suc k) = rw (le-ltb (suc k) 0 (omega arith), eqb-zero-suc)
at_most_signed true true (suc n) zero = rw (lt-ltb 0 (suc n) (omega arith))
at_most_signed true true (suc n) (suc k) = ap (λ (t : Bool). ltb (suc k) (suc n) || (t && true)) (swap (suc n) (suc k)) ∙ at_most (suc k) (suc n) ∙ leb-suc-suc k n
