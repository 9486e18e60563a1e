-- What "the f32 nearest the true square root" of document 01 ("hypot and sqrt") means. Definitions only.
use Rattle.std.specs.Prelude.{◌≡◌, ℕ, ◌+◌, ◌*◌, ◌^◌, ◌<◌, T, pos, Float}
use Rattle.std.specs.Float.{binary32}
use Rattle.std.specs.Float.Ieee.{fits}
use Rattle.floats.specs.Count.{at, count_of}

-- Every finite f32 is a whole number of steps of 2 ^ -149, in which √n / 64 is √n * 2 ^ 143. Of two f32 the one of j steps is strictly nearer to it than
-- the one of k where it lies on j's side of the middle, (j + k) / 2. Twice the root and twice the middle, squared, are whole numbers: n * 4 ^ 144 and (j + k) * (j + k)
abbrev pub Nearer : ℕ → ℕ → ℕ → Type 0
Nearer n j k = (j < k → n * 4 ^ 144 < (j + k) * (j + k)) × (k < j → (j + k) * (j + k) < n * 4 ^ 144)

-- x is an f32, not below zero, and strictly nearer to √n / 64 than any other finite one: the root is never halfway between two.
-- (Those below zero need not be asked: each is further away than its size.)
pub record Nearest (n : ℕ) (x : Float) : Type 0 where
  pub held : T (fits binary32 x)
  pub steps : ℕ
  pub is : count_of (2 ^ 149) x ≡ at (pos steps)
  pub nearest : (y : Float) (k : ℕ) → T (fits binary32 y) → count_of (2 ^ 149) y ≡ at (pos k) → Nearer n steps k
