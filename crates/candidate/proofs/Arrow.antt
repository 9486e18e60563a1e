-- The four arrows as one: an axis and whether the arrow points to its low end. The product with an arrow's direction is the part along it. Assumes nothing.
use mathlib.Core.Path.{◌≡◌, refl, ◌∙◌}
use mathlib.Core.Logic.{◌⊎◌, inl, inr}
use Prim.Native.Nat.{ℕ}
use mathlib.Core.Bool.{Bool, true, false, cond}
use lib.IntN.{ℤ, pos}
use lib.Dec.{T, eqb}
use lib.Ieee.{Float, fin, binary32, of_bits, add, neg, unlike, fits}
use Rattle.floats.proofs.Own.{times_unit, times_zero}
use Rattle.emath.specs.declared.Vec2.{Vec2}
use Rattle.input.specs.FocusDirection.{up, right, down, left}
use Rattle.vec2.specs.Vec2.{dot_of}
use Rattle.candidate.specs.Candidate.{search_direction, along_of}

abbrev pub nil : Float
nil = fin false 0 (pos 0)

-- a vector's part on an axis, y where it is true; turned round where the arrow points to the low end
abbrev pub part : Bool → Vec2 → Float
part true v = v.y
part false v = v.x

abbrev pub turn : Bool → Float → Float
turn true x = neg x
turn false x = x

abbrev pub unit : Bool → Bool → Vec2
unit true low = record { x = nil; y = fin low 1 (pos 0) }
unit false low = record { x = fin low 1 (pos 0); y = nil }

-- ---- every direction is an arrow's, or none
pub record Arrow (k : ℕ) : Type 0 where
  pub axis : Bool
  pub low : Bool
  pub towards : search_direction k ≡ unit axis low
  pub ahead : (v : Vec2) → along_of v k ≡ turn low (part axis v)

pub record Still (k : ℕ) : Type 0 where
  pub nowhere : search_direction k ≡ record { x = nil; y = nil }
  pub level : (v : Vec2) → along_of v k ≡ nil

-- the four tests of the definitions in turn
module _ (k : ℕ) where
  upward : eqb k up ≡ true → Arrow k
  unfolding search_direction along_of of_bits neg
  upward u = record { axis = true; low = true; towards = rw u; ahead = λ v. rw u }

  module _ (u : eqb k up ≡ false) where
    rightward : eqb k right ≡ true → Arrow k
    unfolding search_direction along_of of_bits
    rightward r = record { axis = false; low = false; towards = rw (u, r); ahead = λ v. rw (u, r) }

    module _ (r : eqb k right ≡ false) where
      downward : eqb k down ≡ true → Arrow k
      unfolding search_direction along_of of_bits
      downward d = record { axis = true; low = false; towards = rw (u, r, d); ahead = λ v. rw (u, r, d) }

      module _ (d : eqb k down ≡ false) where
        leftward : eqb k left ≡ true → Arrow k
        unfolding search_direction along_of of_bits neg
        leftward l = record { axis = false; low = true; towards = rw (u, r, d, l); ahead = λ v. rw (u, r, d, l) }

        nowhere_else : eqb k left ≡ false → Still k
        unfolding search_direction along_of of_bits
        nowhere_else l = record { nowhere = rw (u, r, d, l); level = λ v. rw (u, r, d, l) }

pub arrow : (k : ℕ) → Arrow k ⊎ Still k
arrow k = go (eqb k up) (eqb k right) (eqb k down) (eqb k left) refl refl refl refl
  where
    go : (u r d l : Bool) → eqb k up ≡ u → eqb k right ≡ r → eqb k down ≡ d → eqb k left ≡ l → Arrow k ⊎ Still k
    go true r d l U R D L = inl (upward k U)
    go false true d l U R D L = inl (rightward k U R)
    go false false true l U R D L = inl (downward k U R D)
    go false false false true U R D L = inl (leftward k U R D L)
    go false false false false U R D L = inr (nowhere_else k U R D L)

-- ---- the product with a direction, of a vector of two finite numbers
turned : (low s : Bool) (m : ℕ) (e : ℤ) → fin (unlike s low) m e ≡ turn low (fin s m e)
unfolding neg
turned true true m e = refl
turned true false m e = refl
turned false true m e = refl
turned false false m e = refl

-- a part along the arrow, and a zero from the other axis
pub dot_parts : (axis low : Bool) (s t : Bool) (m n : ℕ) (e d : ℤ) → T (fits binary32 (fin s m e)) → T (fits binary32 (fin t n d))
    → dot_of (record { x = fin s m e; y = fin t n d }) (unit axis low)
    ≡ cond axis (add binary32 (fin (unlike s false) 0 (pos 0)) (turn low (fin t n d))) (add binary32 (turn low (fin s m e)) (fin (unlike t false) 0 (pos 0)))
unfolding dot_of
dot_parts true low s t m n e d f g = λ i. add binary32 (times_zero s m e false i) ((times_unit t n d low g ∙ turned low t n d) i)
dot_parts false low s t m n e d f g = λ i. add binary32 ((times_unit s m e low f ∙ turned low s m e) i) (times_zero t n d false i)
