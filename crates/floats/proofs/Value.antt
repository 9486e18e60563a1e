-- An operation sees only the numbers that its operands are: each result is `sum`, `round` or a comparison of any fractions of the same size.
-- `HasValue x s a c` (lib.Ieee.Exact): x is finite, has the sign s, and is a / c in size. Assumes nothing.
use mathlib.Core.Path.{◌≡◌, refl, sym, ap, ◌∙◌, subst}
use Prim.Native.Nat.{ℕ, ◌+◌, ◌-◌, ◌*◌, ◌^◌, ◌≤◌, ◌<◌}
use native.Mathlib.Nat.{le_of_lt, le_of_eq, lt_irrefl, eq-or-lt_of_le, mul_comm, mul_assoc, mul_left_comm, mul_right_comm, add-mul, mul-sub, mul-pos, mul-lt-mul_of_pos_right, lt_of_mul-lt-mul_right, lt_of_lt_of_le, eq_of_mul-eq-mul_right, mul-mul-mul_comm, zero-mul}
use native.Mathlib.Omega.{arith}
use mathlib.Core.Bool.{Bool, true, false, not, ◌&&◌, ◌||◌, beq, cond}
use mathlib.Core.Logic.{◌⊎◌, inl, inr}
use borrow.Author.Tests.{ne_eqb}
use lib.Dec.{T, ltb, eqb, leb, ltb→lt, lt→ltb, eqb→eq, leb→le, le→leb}
use lib.Pow.{pow-add, pow_pos, pow_mono, shl_lt}
use lib.Ieee.{Float, nan, inf, fin, binary32, unlike, up, down, round, sum, add, neg, mul, div, lt, le, eq, below, level}
use lib.Ieee.Fits.{up_pos, down_pos, eq→eqb, and_l}
use lib.Ieee.Digits.{back}
use lib.Ieee.Exact.{HasValue, round_exact}
use lib.Ieee.Scale.{round_same}
use mir.Facts.{or_yes}

-- two tests that pass together are the same
pub same_test : (x y : Bool) → (T x → T y) → (T y → T x) → x ≡ y
same_test true true f g = refl
same_test true false f g = absurd (f tt)
same_test false true f g = absurd (g tt)
same_test false false f g = refl

-- ---- a / c is A / C: the tests on a and b are those on A and B
module _ (A B C a b c : ℕ) (P : 0 < C) (p : 0 < c) (e : A * c ≡ a * C) (g : B * c ≡ b * C) where
  lt_up : A < B → a < b
  lt_up h = lt_of_mul-lt-mul_right C (subst (λ (x : ℕ). x < b * C) e (subst (λ (x : ℕ). A * c < x) g (mul-lt-mul_of_pos_right h p)))

  lt_back : a < b → A < B
  lt_back h = lt_of_mul-lt-mul_right c (subst (λ (x : ℕ). x < B * c) (sym e) (subst (λ (x : ℕ). a * C < x) (sym g) (mul-lt-mul_of_pos_right h P)))

  pub ltb_same : ltb A B ≡ ltb a b
  ltb_same = same_test (ltb A B) (ltb a b) (λ t. lt→ltb a b (lt_up (ltb→lt A B t))) (λ t. lt→ltb A B (lt_back (ltb→lt a b t)))

  eqb_same : eqb A B ≡ eqb a b
  eqb_same =
      same_test (eqb A B) (eqb a b) (λ t. eq→eqb (eq_of_mul-eq-mul_right C P a b (sym e ∙ ap (λ (x : ℕ). x * c) (eqb→eq A B t) ∙ g)))
      (λ t. eq→eqb (eq_of_mul-eq-mul_right c p A B (e ∙ ap (λ (x : ℕ). x * C) (eqb→eq a b t) ∙ sym g)))

  add_scaled : (A + B) * c ≡ (a + b) * C
  add_scaled = add-mul A B c ∙ ap (λ (x : ℕ). x + B * c) e ∙ ap (λ (x : ℕ). a * C + x) g ∙ sym (add-mul a b C)

  sub_scaled : (A - B) * c ≡ (a - b) * C
  sub_scaled =
      mul_comm (A - B) c ∙ mul-sub c A B ∙ ap (λ (x : ℕ). x - c * B) (mul_comm c A ∙ e ∙ mul_comm a C)
      ∙ ap (λ (x : ℕ). C * a - x) (mul_comm c B ∙ g ∙ mul_comm b C)
      ∙ sym (mul-sub C a b)
      ∙ mul_comm C (a - b)

sum_same : (s t : Bool) (A B C a b c : ℕ) → 0 < C → 0 < c → A * c ≡ a * C → B * c ≡ b * C → sum binary32 s A t B C ≡ sum binary32 s a t b c
unfolding sum
sum_same s t A B C a b c P p e g =
    let like = round_same binary32 s (A + B) C (a + b) c P p (add_scaled A B C a b c P p e g) in
    let less = round_same binary32 t (B - A) C (b - a) c P p (sub_scaled B A C b a c P p g e) in
    let more : round binary32 (s && ltb B A) (A - B) C ≡ round binary32 (s && ltb b a) (a - b) c =
    ap (λ (x : Bool). round binary32 (s && x) (A - B) C) (ltb_same B A C b a c P p g e) ∙ round_same binary32 (s && ltb b a) (A - B) C (a - b) c P p (sub_scaled A B C a b c P p e g) in
    λ i. cond (beq s t) (like i) (cond (ltb_same A B C a b c P p e g i) (less i) (more i))

below_same : (s t : Bool) (A B C a b c : ℕ) → 0 < C → 0 < c → A * c ≡ a * C → B * c ≡ b * C → below s A t B ≡ below s a t b
below_same false false A B C a b c P p e g = ltb_same A B C a b c P p e g
below_same false true A B C a b c P p e g = refl
below_same true false A B C a b c P p e g = ltb_same 0 (A + B) C 0 (a + b) c P p (zero-mul c ∙ sym (zero-mul C)) (add_scaled A B C a b c P p e g)
below_same true true A B C a b c P p e g = ltb_same B A C b a c P p g e

level_same : (s t : Bool) (A B C a b c : ℕ) → 0 < C → 0 < c → A * c ≡ a * C → B * c ≡ b * C → level s A t B ≡ level s a t b
level_same s t A B C a b c P p e g = λ i. eqb_same A B C a b c P p e g i && (beq s t || eqb_same A 0 C a 0 c P p e (zero-mul c ∙ sym (zero-mul C)) i)

-- ---- m * 2 ^ e and n * 2 ^ d over one denominator
over_left : (A de dd a c : ℕ) → A * c ≡ a * de → A * dd * c ≡ a * (de * dd)
over_left A de dd a c v = mul_right_comm A dd c ∙ ap (λ (x : ℕ). x * dd) v ∙ mul_assoc a de dd

over_right : (B de dd b c : ℕ) → B * c ≡ b * dd → B * de * c ≡ b * (de * dd)
over_right B de dd b c w = over_left B dd de b c w ∙ ap (λ (x : ℕ). b * x) (mul_comm dd de)

-- ---- x is a / c and y is b / c
pub add_at : (x y : Float) (s t : Bool) (a b c : ℕ) → 0 < c → HasValue x s a c → HasValue y t b c → add binary32 x y ≡ sum binary32 s a t b c
unfolding add
add_at nan y s t a b c p v w = absurd v
add_at (inf u) y s t a b c p v w = absurd v
add_at (fin u m e) nan s t a b c p v w = absurd w
add_at (fin u m e) (inf r) s t a b c p v w = absurd w
add_at (fin u m e) (fin r n d) s t a b c p v w =
    sum_same u r (m * up e * down d) (n * up d * down e) (down e * down d) a b c (mul-pos (down_pos e) (down_pos d)) p (over_left (m * up e) (down e) (down d) a c v.1)
    (over_right (n * up d) (down e) (down d) b c w.1)
    ∙ λ i. sum binary32 (v.0 i) a (w.0 i) b c

pub lt_at : (x y : Float) (s t : Bool) (a b c : ℕ) → 0 < c → HasValue x s a c → HasValue y t b c → lt x y ≡ below s a t b
unfolding lt
lt_at nan y s t a b c p v w = absurd v
lt_at (inf u) y s t a b c p v w = absurd v
lt_at (fin u m e) nan s t a b c p v w = absurd w
lt_at (fin u m e) (inf r) s t a b c p v w = absurd w
lt_at (fin u m e) (fin r n d) s t a b c p v w =
    below_same u r (m * up e * down d) (n * up d * down e) (down e * down d) a b c (mul-pos (down_pos e) (down_pos d)) p (over_left (m * up e) (down e) (down d) a c v.1)
    (over_right (n * up d) (down e) (down d) b c w.1)
    ∙ λ i. below (v.0 i) a (w.0 i) b

pub eq_at : (x y : Float) (s t : Bool) (a b c : ℕ) → 0 < c → HasValue x s a c → HasValue y t b c → eq x y ≡ level s a t b
unfolding eq
eq_at nan y s t a b c p v w = absurd v
eq_at (inf u) y s t a b c p v w = absurd v
eq_at (fin u m e) nan s t a b c p v w = absurd w
eq_at (fin u m e) (inf r) s t a b c p v w = absurd w
eq_at (fin u m e) (fin r n d) s t a b c p v w =
    level_same u r (m * up e * down d) (n * up d * down e) (down e * down d) a b c (mul-pos (down_pos e) (down_pos d)) p (over_left (m * up e) (down e) (down d) a c v.1)
    (over_right (n * up d) (down e) (down d) b c w.1)
    ∙ λ i. level (v.0 i) a (w.0 i) b

pub le_at : (x y : Float) (s t : Bool) (a b c : ℕ) → 0 < c → HasValue x s a c → HasValue y t b c → le x y ≡ (below s a t b || level s a t b)
unfolding le
le_at x y s t a b c p v w = λ i. lt_at x y s t a b c p v w i || eq_at x y s t a b c p v w i

pub neg_at : (x : Float) (s : Bool) (a c : ℕ) → HasValue x s a c → HasValue (neg x) (not s) a c
unfolding neg
neg_at nan s a c v = v
neg_at (inf u) s a c v = v
neg_at (fin u m e) s a c v = (ap not v.0, v.1)

-- ---- x is a / c and y is b / d
pub mul_at : (x y : Float) (s t : Bool) (a c b d : ℕ) → 0 < c → 0 < d → HasValue x s a c → HasValue y t b d → mul binary32 x y ≡ round binary32 (unlike s t) (a * b) (c * d)
unfolding mul
mul_at nan y s t a c b d p q v w = absurd v
mul_at (inf u) y s t a c b d p q v w = absurd v
mul_at (fin u m e) nan s t a c b d p q v w = absurd w
mul_at (fin u m e) (inf r) s t a c b d p q v w = absurd w
mul_at (fin u m e) (fin r n g) s t a c b d p q v w =
    round_same binary32 (unlike u r) (m * up e * (n * up g)) (down e * down g) (a * b) (c * d) (mul-pos (down_pos e) (down_pos g)) (mul-pos p q)
    (mul-mul-mul_comm (m * up e) (n * up g) c d ∙ ap (λ (x : ℕ). x * (n * up g * d)) v.1 ∙ ap (λ (x : ℕ). a * down e * x) w.1 ∙ mul-mul-mul_comm a (down e) b (down g))
    ∙ λ i. round binary32 (unlike (v.0 i) (w.0 i)) (a * b) (c * d)

cross : (M E N G a c b d : ℕ) → M * c ≡ a * E → N * d ≡ b * G → M * G * (b * c) ≡ a * d * (N * E)
cross M E N G a c b d v w =
    let l : M * G * (b * c) ≡ M * c * (b * G) = simp (mul_assoc, mul_comm, mul_left_comm) in
    let r : a * E * (N * d) ≡ a * d * (N * E) = simp (mul_assoc, mul_comm, mul_left_comm) in
    l ∙ ap (λ (x : ℕ). x * (b * G)) v ∙ ap (λ (x : ℕ). a * E * x) (sym w) ∙ r

-- b / d above 0 has a significand above 0
some_digits : (n u b d g : ℕ) → n * u * d ≡ b * g → 0 < b → 0 < g → n ≡ 0 → ⊥
some_digits n u b d g e h k z = lt_irrefl 0 (subst (λ (x : ℕ). 0 < x) (sym e ∙ ap (λ (x : ℕ). x * u * d) z ∙ ap (λ (x : ℕ). x * d) (zero-mul u) ∙ zero-mul d) (mul-pos h k))

pub div_at : (x y : Float) (s t : Bool) (a c b d : ℕ) → 0 < c → 0 < d → 0 < b → HasValue x s a c → HasValue y t b d → div binary32 x y ≡ round binary32 (unlike s t) (a * d) (b * c)
unfolding div
div_at nan y s t a c b d p q r v w = absurd v
div_at (inf u) y s t a c b d p q r v w = absurd v
div_at (fin u m e) nan s t a c b d p q r v w = absurd w
div_at (fin u m e) (inf z) s t a c b d p q r v w = absurd w
div_at (fin u m e) (fin z n g) s t a c b d p q r v w =
    let nz : n ≡ 0 → ⊥ = some_digits n (up g) b d (down g) w.1 r (down_pos g) in
    ap (λ (k : Bool). cond k (cond (eqb m 0) nan (inf (unlike u z))) (round binary32 (unlike u z) (m * up e * down g) (n * up g * down e))) (ne_eqb n 0 nz)
    ∙ round_same binary32 (unlike u z) (m * up e * down g) (n * up g * down e) (a * d) (b * c) (mul-pos (mul-pos (above_zero n nz) (up_pos g)) (down_pos e)) (mul-pos r p)
    (cross (m * up e) (down e) (n * up g) (down g) a c b d v.1 w.1)
    ∙ λ i. round binary32 (unlike (v.0 i) (w.0 i)) (a * d) (b * c)
  where
    above_zero : (n : ℕ) → (n ≡ 0 → ⊥) → 0 < n
    above_zero n h = omega arith

-- ---- one number, two fractions
pub rescaled : (x : Float) (s : Bool) (w l n d : ℕ) → 0 < l → n * l ≡ w * d → HasValue x s w l → HasValue x s n d
rescaled nan s w l n d p h v = v
rescaled (inf t) s w l n d p h v = v
rescaled (fin t m e) s w l n d p h v = (
  v.0,
  eq_of_mul-eq-mul_right l p (m * up e * d) (n * down e)
      (mul_right_comm (m * up e) d l
      ∙ ap (λ (x : ℕ). x * d) v.1
      ∙ mul_right_comm w (down e) d
      ∙ ap (λ (x : ℕ). x * down e) (sym h)
      ∙ mul_right_comm n l (down e)),
)

-- ---- n / 2 ^ d is an f32 for an n of at most 24 digits
room : (d : ℕ) → 24 + (149 - d) ≤ 277
room d = omega arith

pub exact : (s : Bool) (n d : ℕ) → d ≤ 149 → n < 2 ^ 24 → HasValue (round binary32 s n (2 ^ d)) s n (2 ^ d)
exact s n d h small =
    let j = 149 - d in
    round_exact binary32 s n (2 ^ d) n j (pow_pos d) small (lt_of_lt_of_le (shl_lt 24 j small) (pow_mono (room d)))
    (ap (λ (x : ℕ). n * x) (ap (λ (x : ℕ). 2 ^ x) (sym (back 149 d h)) ∙ pow-add 2 j d) ∙ sym (mul_assoc n (2 ^ j) (2 ^ d)))

-- ---- below or level, of two numbers that are not negative
pub at_most : (a b : ℕ) → (ltb a b || (eqb a b && true)) ≡ leb a b
at_most a b =
    same_test (ltb a b || (eqb a b && true)) (leb a b) (λ t. le→leb a b (there (or_yes (ltb a b) (eqb a b && true) t)))
    (λ t. back_again (ltb a b) (eqb a b) (lt→ltb a b) (λ e. eq→eqb e) (eq-or-lt_of_le (leb→le a b t)))
  where
    there : T (ltb a b) ⊎ T (eqb a b && true) → a ≤ b
    there (inl u) = le_of_lt (ltb→lt a b u)
    there (inr u) = le_of_eq (eqb→eq a b (and_l (eqb a b) true u))

    back_again : (x y : Bool) → (a < b → T x) → (a ≡ b → T y) → (a ≡ b) ⊎ (a < b) → T (x || (y && true))
    back_again true y f g o = tt
    back_again false true f g o = tt
    back_again false false f g (inl e) = g e
    back_again false false f g (inr l) = f l
