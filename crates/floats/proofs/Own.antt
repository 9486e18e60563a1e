-- An f32 is what its own number rounds to. So a product with 1 or -1, and a sum with a zero, change nothing but a sign. Assumes nothing.
use mathlib.Core.Path.{◌≡◌, refl, sym, ap, ◌∙◌, subst}
use Prim.Native.Nat.{ℕ, zero, suc, ◌+◌, ◌-◌, ◌*◌, ◌%◌, ◌^◌, ◌<◌}
use native.Mathlib.Nat.{mul-one, mul_assoc, mul_left_comm, mul_right_comm, zero-mul, mul-zero, add-zero, sub-zero, mul-pos, pow-suc, pow-succ', eq_of_mul-eq-mul_right, zero-lt-suc, lt_irrefl, mul-lt-mul_of_pos_right, lt_of_mul-lt-mul_right}
use native.Mathlib.Omega.{arith}
use mathlib.Core.Bool.{Bool, true, false, ◌&&◌, cond}
use lib.IntN.{ℤ, pos, negsuc}
use lib.Dec.{T, ltb, leb, eqb, eqb→eq, leb-suc-zero, lit<}
use lib.Pow.{pow_pos, pow-add}
use lib.Ieee.{Float, nan, inf, fin, binary32, up, down, unlike, round, sum, add, mul, fits}
use lib.Ieee.Fits.{down_pos, up_pos, and_l, round-fits}
use lib.Ieee.Digits.{back}
use lib.Ieee.Exact.{HasValue, round_exact}
use lib.Ieee.Scale.{round_same}
use borrow.Author.Tests.{lt-ltb}
use Rattle.floats.proofs.Value.{add_at, mul_at}
use Rattle.floats.proofs.Held.{Held, held, exponent, zero_exponent, unsigned}

-- ---- an odd number times a power of two is written in one way
no_odd : (m t : ℕ) → m % 2 ≡ 1 → m ≡ 2 * t → ⊥
no_odd m t o h = omega arith

one_way : (m n a b : ℕ) → m % 2 ≡ 1 → n % 2 ≡ 1 → m * 2 ^ a ≡ n * 2 ^ b → (m ≡ n) × (a ≡ b)
one_way m n zero zero o p h = (sym (mul-one m) ∙ h ∙ mul-one n, refl)
one_way m n zero (suc b) o p h = absurd (no_odd m (n * 2 ^ b) o (sym (mul-one m) ∙ h ∙ ap (λ (x : ℕ). n * x) (pow-succ' 2 b) ∙ mul_left_comm n 2 (2 ^ b)))
one_way m n (suc a) zero o p h = absurd (no_odd n (m * 2 ^ a) p (sym (mul-one n) ∙ sym h ∙ ap (λ (x : ℕ). m * x) (pow-succ' 2 a) ∙ mul_left_comm m 2 (2 ^ a)))
one_way m n (suc a) (suc b) o p h =
    let r = one_way m n a b o p (eq_of_mul-eq-mul_right 2 (zero-lt-suc 1) (m * 2 ^ a) (n * 2 ^ b)
    (mul_assoc m (2 ^ a) 2 ∙ ap (λ (x : ℕ). m * x) (sym (pow-suc 2 a)) ∙ h ∙ ap (λ (x : ℕ). n * x) (pow-suc 2 b) ∙ sym (mul_assoc n (2 ^ b) 2))) in
    (r.0, ap suc r.1)

never : {A : Type 0} (a : ℕ) → suc a ≡ 0 → A
never a h = absurd (clash h)
  where
    clash : suc a ≡ 0 → ⊥
    clash h = omega arith

-- the two exponents of `up e * down g`
same_power : (m n : ℕ) (e g : ℤ) → m % 2 ≡ 1 → n % 2 ≡ 1 → m * up e * down g ≡ n * up g * down e → (m ≡ n) × (e ≡ g)
same_power m n (pos a) (pos b) o p h = let r = one_way m n a b o p (sym (mul-one (m * 2 ^ a)) ∙ h ∙ mul-one (n * 2 ^ b)) in (r.0, ap pos r.1)
same_power m n (negsuc a) (negsuc b) o p h =
    let r = one_way m n (suc b) (suc a) o p (ap (λ (x : ℕ). x * 2 ^ suc b) (sym (mul-one m)) ∙ h ∙ ap (λ (x : ℕ). x * 2 ^ suc a) (mul-one n)) in (r.0, ap negsuc (sym (less r.1)))
  where
    less : {a b : ℕ} → suc b ≡ suc a → b ≡ a
    less h = omega arith
same_power m n (pos a) (negsuc b) o p h =
    let r = one_way m n (suc (a + b)) 0 o p (ap (λ (x : ℕ). m * x) (ap (λ (x : ℕ). 2 ^ x) (more a b) ∙ pow-add 2 a (suc b)) ∙ sym (mul_assoc m (2 ^ a) (2 ^ suc b)) ∙ h ∙ mul-one (n * 1)) in
    never (a + b) r.1
  where
    more : (a b : ℕ) → suc (a + b) ≡ a + suc b
    more a b = omega arith
same_power m n (negsuc a) (pos b) o p h =
    let r = one_way m n 0 (suc (b + a)) o p (sym (mul-one (m * 1)) ∙ h ∙ mul_assoc n (2 ^ b) (2 ^ suc a) ∙ ap (λ (x : ℕ). n * x) (sym (ap (λ (x : ℕ). 2 ^ x) (more b a) ∙ pow-add 2 b (suc a)))) in
    never (b + a) (sym r.1)
  where
    more : (a b : ℕ) → suc (a + b) ≡ a + suc b
    more a b = omega arith

odd_digits : (s : Bool) (m : ℕ) (e : ℤ) → T (fits binary32 (fin s (suc m) e)) → suc m % 2 ≡ 1
unfolding fits
odd_digits s m e t = eqb→eq (suc m % 2) 1 (and_l (eqb (suc m % 2) 1) (ltb (suc m) (2 ^ 24))
    (and_l (eqb (suc m % 2) 1 && ltb (suc m) (2 ^ 24)) (leb (down e) (2 ^ 149))
    (and_l (eqb (suc m % 2) 1 && ltb (suc m) (2 ^ 24) && leb (down e) (2 ^ 149)) (ltb (suc m * up e) (2 ^ 128 * down e)) t)))

some : (m n : ℕ) (e g : ℤ) → zero * up e * down g ≡ suc n * up g * down e → ⊥
some m n e g h = lt_irrefl 0 (subst (λ (x : ℕ). 0 < x) (sym h ∙ ap (λ (x : ℕ). x * down g) (zero-mul (up e)) ∙ zero-mul (down g)) (mul-pos (mul-pos (zero-lt-suc n) (up_pos g)) (down_pos e)))

-- two f32 of one value are one
pub one_value : (s : Bool) (m n : ℕ) (e g : ℤ) → T (fits binary32 (fin s m e)) → T (fits binary32 (fin s n g)) → m * up e * down g ≡ n * up g * down e → fin s m e ≡ fin s n g
one_value s zero zero e g p q h = ap (fin s zero) (zero_exponent s e p ∙ sym (zero_exponent s g q))
one_value s zero (suc n) e g p q h = absurd (some zero n e g h)
one_value s (suc m) zero e g p q h = absurd (some zero m g e (sym h))
one_value s (suc m) (suc n) e g p q h = let r = same_power (suc m) (suc n) e g (odd_digits s m e p) (odd_digits s n g q) h in λ i. fin s (r.0 i) (r.1 i)

-- ---- its own number is an f32, exactly
own_exact : (s : Bool) (m : ℕ) (e : ℤ) → T (fits binary32 (fin s m e)) → HasValue (round binary32 s (m * up e) (down e)) s (m * up e) (down e)
own_exact s m (pos k) f =
    round_exact binary32 s (m * 2 ^ k) 1 m (k + 149) (lit< tt) h.digits (subst (λ (x : ℕ). x < 2 ^ 277) (raised m k) (mul-lt-mul_of_pos_right h.bounded (pow_pos 149))) (raised m k ∙ sym (mul-one (m * 2 ^ (k + 149))))
  where
    h : Held m (pos k)
    h = held s m (pos k) f

    raised : (m k : ℕ) → m * 2 ^ k * 2 ^ 149 ≡ m * 2 ^ (k + 149)
    raised m k = mul_assoc m (2 ^ k) (2 ^ 149) ∙ ap (λ (x : ℕ). m * x) (sym (pow-add 2 k 149))
own_exact s m (negsuc k) f =
    round_exact binary32 s (m * 1) (2 ^ suc k) m (149 - suc k) (pow_pos (suc k)) h.digits
    (lt_of_mul-lt-mul_right (2 ^ suc k) (subst (λ (x : ℕ). x < 2 ^ 277 * 2 ^ suc k) (lowered m) (subst (λ (x : ℕ). m * 1 * 2 ^ 149 < x) (swapped (2 ^ suc k)) (mul-lt-mul_of_pos_right h.bounded (pow_pos 149)))))
    (lowered m)
  where
    h : Held m (negsuc k)
    h = held s m (negsuc k) f

    swapped : (p : ℕ) → 2 ^ 128 * p * 2 ^ 149 ≡ 2 ^ 277 * p
    swapped p = mul_right_comm (2 ^ 128) p (2 ^ 149)

    lowered : (m : ℕ) → m * 1 * 2 ^ 149 ≡ m * 2 ^ (149 - suc k) * 2 ^ suc k
    lowered m =
        ap (λ (x : ℕ). x * 2 ^ 149) (mul-one m) ∙ ap (λ (x : ℕ). m * x) (ap (λ (x : ℕ). 2 ^ x) (sym (back 149 (suc k) (exponent k h.fine))) ∙ pow-add 2 (149 - suc k) (suc k))
        ∙ sym (mul_assoc m (2 ^ (149 - suc k)) (2 ^ suc k))

finite_own : (s : Bool) (m : ℕ) (e : ℤ) (x : Float) → T (fits binary32 (fin s m e)) → T (fits binary32 x) → HasValue x s (m * up e) (down e) → x ≡ fin s m e
finite_own s m e nan f g v = absurd v
finite_own s m e (inf t) f g v = absurd v
finite_own s m e (fin t n d) f g v =
    ap (λ (u : Bool). fin u n d) v.0 ∙ one_value s n m d e (subst (λ (u : Bool). T (fits binary32 (fin u n d))) v.0 g) f v.1

pub own_round : (s : Bool) (m : ℕ) (e : ℤ) → T (fits binary32 (fin s m e)) → round binary32 s (m * up e) (down e) ≡ fin s m e
own_round s m e f = finite_own s m e (round binary32 s (m * up e) (down e)) f (round-fits binary32 s (m * up e) (down e)) (own_exact s m e f)

-- ---- zeros
pub round_zero : (s : Bool) (c : ℕ) → 0 < c → round binary32 s 0 c ≡ fin s 0 (pos 0)
round_zero s c C = round_same binary32 s 0 c 0 1 C (lit< tt) (zero-mul 1 ∙ sym (zero-mul c)) ∙ closed s
  where
    closed : (s : Bool) → round binary32 s 0 1 ≡ fin s 0 (pos 0)
    closed true = unfold round in refl
    closed false = unfold round in refl

-- ---- times 1, -1 and 0
module _ (s : Bool) (m : ℕ) (e : ℤ) (t : Bool) where
  pub times_unit : T (fits binary32 (fin s m e)) → mul binary32 (fin s m e) (fin t 1 (pos 0)) ≡ fin (unlike s t) m e
  times_unit f =
      mul_at (fin s m e) (fin t 1 (pos 0)) s t (m * up e) (down e) 1 1 (down_pos e) (lit< tt) (refl, refl) (refl, refl)
      ∙ (λ i. round binary32 (unlike s t) (mul-one (m * up e) i) (mul-one (down e) i))
      ∙ own_round (unlike s t) m e (unsigned s (unlike s t) m e f)

  pub times_zero : mul binary32 (fin s m e) (fin t 0 (pos 0)) ≡ fin (unlike s t) 0 (pos 0)
  times_zero =
      mul_at (fin s m e) (fin t 0 (pos 0)) s t (m * up e) (down e) 0 1 (down_pos e) (lit< tt) (refl, refl) (refl, refl)
      ∙ ap (λ (x : ℕ). round binary32 (unlike s t) x (down e * 1)) (mul-zero (m * up e))
      ∙ round_zero (unlike s t) (down e * 1) (mul-pos (down_pos e) (lit< tt))

-- ---- a zero beside a number that is not negative, +0 included
module _ (m : ℕ) (e : ℤ) (f : T (fits binary32 (fin false m e))) where
  pub plus_zero : (t : Bool) → add binary32 (fin false m e) (fin t 0 (pos 0)) ≡ fin false m e
  unfolding sum
  plus_zero t = add_at (fin false m e) (fin t 0 (pos 0)) false t (m * up e) 0 (down e) (down_pos e) (refl, refl) (refl, zero-mul (down e)) ∙ go t
    where
      go : (t : Bool) → sum binary32 false (m * up e) t 0 (down e) ≡ fin false m e
      go false = ap (λ (x : ℕ). round binary32 false x (down e)) (add-zero (m * up e)) ∙ own_round false m e f
      go true =
          ap (λ (b : Bool). cond b (round binary32 true (0 - m * up e) (down e)) (round binary32 false (m * up e - 0) (down e))) (leb-suc-zero (m * up e))
          ∙ ap (λ (x : ℕ). round binary32 false x (down e)) (sub-zero (m * up e))
          ∙ own_round false m e f

  pub zero_plus : (t : Bool) → add binary32 (fin t 0 (pos 0)) (fin false m e) ≡ fin false m e
  unfolding sum
  zero_plus t = add_at (fin t 0 (pos 0)) (fin false m e) t false 0 (m * up e) (down e) (down_pos e) (refl, zero-mul (down e)) (refl, refl) ∙ go t
    where
      none : (x : ℕ) → 0 + x ≡ x
      none x = omega arith

      go : (t : Bool) → sum binary32 t 0 false (m * up e) (down e) ≡ fin false m e
      go false = ap (λ (x : ℕ). round binary32 false x (down e)) (none (m * up e)) ∙ own_round false m e f
      go true = turned (m * up e) ∙ own_round false m e f
        where
          turned : (x : ℕ) → cond (ltb 0 x) (round binary32 false (x - 0) (down e)) (round binary32 (true && ltb x 0) (0 - x) (down e)) ≡ round binary32 false x (down e)
          turned zero = refl
          turned (suc x) =
              ap (λ (b : Bool). cond b (round binary32 false (suc x - 0) (down e)) (round binary32 (true && ltb (suc x) 0) (0 - suc x) (down e))) (lt-ltb 0 (suc x) (zero-lt-suc x))
              ∙ ap (λ (n : ℕ). round binary32 false n (down e)) (sub-zero (suc x))
