-- A page of two fields on which the premises of the ring hold, from a new memory, with refused
-- calls in between: the calls and the passes. Definitions only.
use Rattle.std.specs.Prelude.{ℕ, None, true, false, List, [], ◌∷◌, ◌++◌, map}
use Rattle.std.specs.Float.{binary32}
use Rattle.std.specs.Float.Ieee.{of_bits}
use Rattle.emath.specs.declared.Pos2.{Pos2}
use Rattle.input.specs.declared.Event.{Event}
use Rattle.input.specs.declared.Event.TheVariants.{Key}
use Rattle.input.specs.Key.{tab}
use Rattle.layers.specs.declared.LayerId.{LayerId}
use Rattle.search.specs.declared.Candidate.{Candidate}
use Rattle.memory_rules.specs.declared.Memory.{Memory}
use Rattle.memory_rules.specs.State.{new_memory}
use Rattle.memory_rules.specs.Calls as Memory
use Rattle.ring.specs.Lists.{Call, Begin, Interest, End, run}
use Rattle.ring.specs.Ring.{Pass}

-- ---- the page: fields 11 and 12 of one layer, from (0, 0) to (2, 2) and from (3, 3) to (5, 5)
abbrev pub fields : List ℕ
fields = 11 ∷ 12 ∷ []

abbrev pub layer : LayerId
layer = record { order = 1; id = 7 }

-- a corner on the diagonal, by its bit pattern
abbrev pub corner : ℕ → Pos2
corner bits = record { x = of_bits binary32 bits; y = of_bits binary32 bits }

abbrev pub used : List Candidate
used =
    record { id = 11; rect = record { min = corner 0; max = corner 1073741824 } }
    ∷ record { id = 12; rect = record { min = corner 1077936128; max = corner 1084227584 } }
    ∷ []

-- ---- the keys; one of them has modifiers that no key has, and its begin is refused
abbrev pub tab_down : Event
tab_down = Key tab true false 0

abbrev pub shift_tab_down : Event
shift_tab_down = Key tab true false 4

abbrev pub bad_tab_down : Event
bad_tab_down = Key tab true false 96

-- ---- a pass: its calls, and what it is among the accepted ones
abbrev pub calling : List Event → List Call
calling events = Begin events ∷ Interest 11 layer ∷ Interest 12 layer ∷ End used ∷ []

abbrev pub passing : List Event → Pass
passing events = record {
  events = events;
  wants =
      record { id = 11; layer = layer; turned_away = false }
      ∷ record { id = 12; layer = layer; turned_away = false }
      ∷ [];
  used = used;
}

-- ---- the start: Tab on a new page focuses the first field
abbrev pub first : List Call
first = calling (tab_down ∷ [])

unfoldable pub start : Memory
start = run new_memory first

-- ---- Tab, Tab again and Shift+Tab, each with a quiet pass after it; two of the calls are refused
abbrev pub calls : List Call
calls =
    calling (tab_down ∷ []) ++ (calling []
    ++ ((Begin (bad_tab_down ∷ []) ∷ Begin (tab_down ∷ [])
    ∷ Interest 11 layer ∷ Interest 0 layer ∷ Interest 12 layer ∷ End used ∷ [])
    ++ (calling [] ++ (calling (shift_tab_down ∷ []) ++ calling []))))

abbrev pub passes : List Pass
passes = map passing ((tab_down ∷ []) ∷ [] ∷ (tab_down ∷ []) ∷ [] ∷ (shift_tab_down ∷ []) ∷ [] ∷ [])

-- the same list once more after it
abbrev pub twice : List Call
twice = calls ++ calls

-- ---- a start pass with other calls between its own, which leave a modal layer in force
abbrev pub low : LayerId
low = record { order = 0; id = 3 }

unfoldable pub after_all : Memory → List Memory.Call → Memory
after_all m [] = m
after_all m (call ∷ calls) = after_all (Memory.done_by call m).memory calls

abbrev pub busy_first : List Memory.Call
busy_first =
    Memory.Begin (tab_down ∷ []) ∷ Memory.OpenPopupAt 5 None ∷ Memory.Interest 11 layer
    ∷ Memory.SetModalLayer low ∷ Memory.Interest 12 layer ∷ Memory.End used ∷ []

unfoldable pub busy_start : Memory
busy_start = after_all new_memory busy_first
