-- The count of the ring: from the field ids in order, the id focused at the start, each call with
-- its arguments and whether it was refused, and from nothing else. Definitions only.
use Rattle.std.specs.Prelude.{ℕ, zero, suc, Bool, false, not, cond, ◌&&◌, List, [], ◌∷◌, eqb}
use Rattle.std.specs.Prelude.{length, get_or}
use Rattle.input.specs.declared.Event.{Event}
use Rattle.input.specs.declared.Event.TheVariants.{Key, AccessKitFocus, Pointer, Zoom, Other}
use Rattle.input.specs.Key.{tab}
use Rattle.input.specs.Modifiers.{any_of, shift_only}
use Rattle.ring.specs.Lists.{Call, Begin, Interest, End, Made}

-- ---- a Tab key-down, every modifier off, and a Shift+Tab key-down, shift on, alt and command off
unfoldable pub is_tab : Event → Bool
is_tab (Key key pressed repeat modifiers) = eqb key tab && (pressed && not (any_of modifiers))
is_tab (AccessKitFocus id) = false
is_tab (Pointer x y) = false
is_tab (Zoom factor) = false
is_tab Other = false

unfoldable pub is_shift_tab : Event → Bool
is_shift_tab (Key key pressed repeat modifiers) = eqb key tab && (pressed && shift_only modifiers)
is_shift_tab (AccessKitFocus id) = false
is_shift_tab (Pointer x y) = false
is_shift_tab (Zoom factor) = false
is_shift_tab Other = false

-- ---- places 0 to n - 1, round the ring
abbrev pub forward : ℕ → ℕ → ℕ
forward n place = cond (eqb (suc place) n) 0 (suc place)

abbrev pub last : ℕ → ℕ
last zero = zero
last (suc n) = n

abbrev pub back : ℕ → ℕ → ℕ
back n zero = last n
back n (suc place) = place

-- a begin's sole event: Tab adds 1, Shift+Tab takes 1, and all else leaves the place
unfoldable pub turned_by : ℕ → List Event → ℕ → ℕ
turned_by n [] place = place
turned_by n (e ∷ []) place =
    cond (is_tab e) (forward n place) (cond (is_shift_tab e) (back n place) place)
turned_by n (e ∷ d ∷ events) place = place

abbrev pub moved_by : ℕ → Call → ℕ → ℕ
moved_by n (Begin events) place = turned_by n events place
moved_by n (Interest id layer) place = place
moved_by n (End used) place = place

-- a refused call leaves it
unfoldable pub counted : ℕ → ℕ → List Made → ℕ
counted n place [] = place
counted n place (c ∷ calls) = counted n (cond c.refused place (moved_by n c.call place)) calls

unfoldable pub place_of : List ℕ → ℕ → ℕ
place_of [] id = 0
place_of (x ∷ fields) id = cond (eqb x id) 0 (suc (place_of fields id))

-- the field id at the place that is counted
unfoldable pub count_of : List ℕ → ℕ → List Made → ℕ
count_of fields start calls =
    get_or fields (counted (length fields) (place_of fields start) calls) 0
