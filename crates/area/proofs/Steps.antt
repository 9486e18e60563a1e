-- The definitions of an area, from what each call of the code gave. Assumes nothing.
use mathlib.Core.Path.{◌≡◌, refl, ap, ◌∙◌}
use Prim.Native.Nat.{ℕ, zero, suc}
use lib.Ieee.{Float, binary32, add, sub, mul, of_bits}
use Rattle.emath.specs.declared.Pos2.{Pos2}
use Rattle.emath.specs.declared.Vec2.{Vec2}
use Rattle.emath.specs.declared.Rect.{Rect}
use Rattle.emath.specs.Pos2.{round_pos}
use Rattle.emath.specs.Rect.{from_min_size, round_rect}
use Rattle.area.specs.declared.AreaState.{AreaState}
use Rattle.area.specs.declared.PivotPos.TheVariants as PivotPos
use Rattle.area.specs.Area.{position_of, extent_of, to_factor, left_top, with_left_top, rect_of}

pub high : (n : ℕ) → (n ≡ 0 → ⊥) → (n ≡ 1 → ⊥) → of_bits binary32 0x3f80_0000 ≡ to_factor n
unfolding to_factor
high zero h k = absurd (h refl)
high (suc zero) h k = absurd (k refl)
high (suc (suc n)) h k = refl

module _ (s : AreaState) (v : Vec2) (fx fy : Float) (ev : v ≡ extent_of s.size) (ex : fx ≡ to_factor s.pivot.x) (ey : fy ≡ to_factor s.pivot.y) where
  pub left_top_lem : (p q : Pos2) → p ≡ position_of s.pivot_pos → q ≡ round_pos (record { x = sub binary32 p.x (mul binary32 fx v.x); y = sub binary32 p.y (mul binary32 fy v.y) }) → q ≡ left_top s
  unfolding left_top
  left_top_lem p q ep eq = eq ∙ λ i. round_pos (record { x = sub binary32 (ep i).x (mul binary32 (ex i) (ev i).x); y = sub binary32 (ep i).y (mul binary32 (ey i) (ev i).y) })

  pub moved : (p : Pos2)
      → record { pivot_pos = PivotPos.At (add binary32 p.x (mul binary32 fx v.x)) (add binary32 p.y (mul binary32 fy v.y)); pivot = s.pivot; size = s.size; interactable = s.interactable }
      ≡ with_left_top s p
  unfolding with_left_top
  moved p = λ i. record {
    pivot_pos = PivotPos.At (add binary32 p.x (mul binary32 (ex i) (ev i).x)) (add binary32 p.y (mul binary32 (ey i) (ev i).y));
    pivot = s.pivot;
    size = s.size;
    interactable = s.interactable;
  }

pub placed : (s : AreaState) (p : Pos2) (v : Vec2) (w r : Rect) → p ≡ left_top s → v ≡ extent_of s.size → w ≡ from_min_size p v → r ≡ round_rect w → r ≡ rect_of s
unfolding rect_of
placed s p v w r ep ev ew er = er ∙ ap round_rect ew ∙ λ i. round_rect (from_min_size (ep i) (ev i))
