-- When an id is kept out of the focus, which calls can let it in, and lists of calls. egui has no
-- name for it: it is said of what its Focus holds (memory/mod.rs, lines 503 to 538). Definitions
-- only.
use Rattle.std.specs.Prelude.{ℕ, ◌≡◌, Bool, true, false, not, ◌&&◌, List, [], ◌∷◌, eqb, take}
use Rattle.focus_rules.specs.Rules.{id_or_nothing}
use Rattle.focus_cache.specs.Cache.{has_id}
use Rattle.focus.specs.Focus.{held_of}
use Rattle.focus_maps.specs.Egui.{is}
use Rattle.memory_rules.specs.declared.Memory.{Memory}
use Rattle.memory_rules.specs.State.{focus_of, nav_of}
use Rattle.memory_rules.specs.Memory.{is_allowed}
use Rattle.memory_rules.specs.Calls.{Call, Begin, Interest, RequestFocus, RequestFocusNextFrame}
use Rattle.memory_rules.specs.Calls.{done_by}

module _ (m : Memory) (p : ℕ) where
  -- `Memory::focused() == Some(p)`, and so on: 0 is no id
  abbrev pub is_focused : Bool
  is_focused = is (id_or_nothing (nav_of m).focused) p

  -- the next begin focuses it
  abbrev pub waits : Bool
  waits = is (id_or_nothing (nav_of m).id_next_frame) p

  -- Shift+Tab may hand the focus back to it
  abbrev pub was_last : Bool
  was_last = is (id_or_nothing (nav_of m).last_interested) p

  -- an arrow may find it, and an accessibility request for it is granted
  abbrev pub is_cached : Bool
  is_cached = has_id (held_of (focus_of m)) p

  unfoldable pub kept_out : Bool
  kept_out = not is_focused && (not waits && (not was_last && not is_cached))

-- ---- a call that is taken
abbrev pub is_taken : Memory → Call → Bool
is_taken m call = eqb (done_by call m).refusal 0

-- the three calls that ask for p: an interest call, and a request, for now or for the next begin
abbrev pub asks_for : ℕ → Call → Bool
asks_for p (Interest id layer) = eqb id p
asks_for p (RequestFocus id) = eqb id p
asks_for p (RequestFocusNextFrame id) = eqb id p
asks_for p call = false

-- only an interest call can be turned away
abbrev pub is_let_through : Memory → Call → Bool
is_let_through m (Interest id layer) = is_allowed m layer
is_let_through m call = true

-- they let it in where they are taken and let through
unfoldable pub lets_in : ℕ → Memory → Call → Bool
lets_in p m call = is_taken m call && (asks_for p call && is_let_through m call)

-- the calls after which p may be focused though it was ignored: a begin, any interest call that is
-- let through, whatever its id, and a request of it
abbrev pub may_bring : ℕ → Memory → Call → Bool
may_bring p m (Begin events) = true
may_bring p m (Interest id layer) = is_allowed m layer
may_bring p m (RequestFocus id) = eqb id p
may_bring p m call = false

unfoldable pub may_focus : ℕ → Memory → Call → Bool
may_focus p m call = is_taken m call && may_bring p m call

-- ---- lists of calls: each gets the state that the last one left
unfoldable pub run : Memory → List Call → Memory
run m [] = m
run m (call ∷ calls) = run (done_by call m).memory calls

-- none of them is such a call, each asked in the state that it gets
unfoldable pub none_is : (Memory → Call → Bool) → Memory → List Call → Bool
none_is such m [] = true
none_is such m (call ∷ calls) = not (such m call) && none_is such (done_by call m).memory calls

-- after each call of a list, from this state, p is kept out, and not focused
abbrev pub StaysOut : ℕ → Memory → List Call → Type 0
StaysOut p m calls =
    (n : ℕ) →
    (kept_out (run m (take n calls)) p ≡ true) × (is_focused (run m (take n calls)) p ≡ false)
