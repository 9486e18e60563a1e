-- What each premise of the opening is needed for: openings in which one of them alone does not
-- hold, and what then goes wrong. Definitions only.
use Rattle.std.specs.Prelude.{ℕ, ◌+◌, Bool, not, ◌&&◌, List, [], ◌∷◌, eqb, leb, length, ◌*◌}
use Rattle.std.specs.Prelude.{replicate}
use Rattle.std.specs.Float.{binary32}
use Rattle.std.specs.Float.Ieee.{of_bits}
use Rattle.layers.specs.declared.LayerId.{LayerId}
use Rattle.layers.specs.Layers.{layer_refusal}
use Rattle.used.specs.Used.{elem, repeated}
use Rattle.memory_rules.specs.declared.Memory.{Memory}
use Rattle.memory_rules.specs.State.{new_memory, nav_of, with_focus}
use Rattle.memory_rules.specs.Memory.{is_allowed}
use Rattle.memory_rules.specs.Calls.{Call, Begin, Interest, End, RequestFocus}
use Rattle.memory_rules.specs.Calls.{RequestFocusNextFrame, SetModalLayer}
use Rattle.confirm_box.specs.KeptOut.{is_taken, kept_out, run, none_is}
use Rattle.confirm_box.specs.Rule.{Box, Spread, opening, spread, ignoring, disturbs, is_refused}
use Rattle.confirm_box.specs.Rule.{cached_in, room, new_in, all_held}
use Rattle.confirm_box.specs.Needed.{on_page, layer_of, used}

-- a memory whose cache has so many places, the first of which holds this id
abbrev pub with_cached : ℕ → ℕ → Memory
with_cached places id =
    with_focus new_memory (record {
      nav = nav_of new_memory;
      ids = replicate places id;
      rects = replicate (4 * places) (of_bits binary32 0);
      count = 1;
      slot = 0;
    })

-- ---- a box over field 12, which was interested last, and the calls before it is opened
pub record Opening : Type 0 where
  pub before : List Call
  pub box : Box

abbrev pub start_of : Opening → Memory
start_of o = run new_memory (on_page 12 ∷ o.before)

abbrev pub box_of : LayerId → List ℕ → ℕ → List ℕ → List ℕ → Box
box_of layer fields focus under freed =
    record { layer = layer; fields = fields; focus = focus; under = under; freed = freed }

abbrev pub box_at : LayerId → ℕ → Box
box_at layer focus = box_of layer (21 ∷ []) focus (12 ∷ []) []

-- a higher modal layer in force
abbrev pub higher_in_force : List Call
higher_in_force = SetModalLayer (layer_of 3) ∷ End used ∷ []

-- the three that `Opens` asks for
abbrev pub opens_by : Opening → List Bool
opens_by o =
    is_allowed (start_of o) o.box.layer ∷ elem o.box.fields o.box.focus
    ∷ none_is is_refused (start_of o) (opening o.box) ∷ []

abbrev pub openings : List (ℕ × Opening)
openings =
    -- the box's interest calls are turned away, so that 12 stays the id last interested
    (0, record { before = higher_in_force; box = box_at (layer_of 2) 21 })
    -- the field that is to have the focus is 12 itself
    ∷ (1, record { before = []; box = box_at (layer_of 2) 12 })
    -- the box's interest call is refused, as its Order is none
    ∷ (2, record { before = []; box = box_at (layer_of 7) 21 })
    ∷ []

abbrev pub leaves_12_in : ℕ × Opening → Bool
leaves_12_in o = not (kept_out (run (start_of o.1) (opening o.1.box)) 12)

-- a field that is not among those under the box, and one of its own that is
abbrev pub leaves_others_in : Bool
leaves_others_in =
    let both = box_of (layer_of 2) (21 ∷ []) 21 (12 ∷ 21 ∷ []) [] in
    let after = run new_memory (on_page 12 ∷ on_page 13 ∷ opening both) in
    not (kept_out after 13) && not (kept_out after 21)

-- ---- what `Fits` asks for, so that no call of the opening is refused
pub record Fitting : Type 0 where
  pub start : Memory
  pub box : Box

abbrev pub fits_by : Fitting → List Bool
fits_by f =
    let b = f.box in
    let held = cached_in (run f.start (ignoring b.freed)) in
    eqb (layer_refusal b.layer) 0 ∷ not (elem (b.focus ∷ b.fields) 0) ∷ not (elem b.under 0)
    ∷ not (elem b.freed 0) ∷ leb (length held + new_in held b.fields) (room f.start) ∷ []

abbrev pub fittings : List (ℕ × Fitting)
fittings =
    (0, record { start = new_memory; box = box_at (layer_of 7) 21 })
    ∷ (1, record { start = new_memory; box = box_of (layer_of 2) (21 ∷ 0 ∷ []) 21 (12 ∷ []) [] })
    ∷ (1, record { start = new_memory; box = box_at (layer_of 2) 0 })
    ∷ (2, record { start = new_memory; box = box_of (layer_of 2) (21 ∷ []) 21 (0 ∷ []) [] })
    ∷ (3, record { start = new_memory; box = box_of (layer_of 2) (21 ∷ []) 21 (12 ∷ []) (0 ∷ []) })
    ∷ (4, record { start = with_cached 1 12; box = box_at (layer_of 2) 21 })
    ∷ []

abbrev pub refuses_one : ℕ × Fitting → Bool
refuses_one f = not (none_is is_refused f.1.start (opening f.1.box))

-- ---- what frees places of the cache: ids that are not 0, are held, and stand there once
abbrev pub frees_by : Memory × List ℕ → List Bool
frees_by f = not (repeated f.1) ∷ not (elem f.1 0) ∷ all_held (cached_in f.0) f.1 ∷ []

abbrev pub freeings : List (ℕ × (Memory × List ℕ))
freeings =
    (0, (with_cached 1 12, 12 ∷ 12 ∷ []))
    ∷ (1, (with_cached 1 0, 0 ∷ []))
    ∷ (2, (with_cached 1 12, 13 ∷ []))
    ∷ []

abbrev pub frees_too_few : ℕ × (Memory × List ℕ) → Bool
frees_too_few f =
    let (m, ids) = f.1 in
    not (leb (length (cached_in (run m (ignoring ids))) + length ids) (room m))

-- ---- what `Spreads` asks for, of a field p
pub record Spreading : Type 0 where
  pub start : Memory
  pub p : ℕ
  pub spread : Spread

abbrev pub spreads_by : Spreading → List Bool
spreads_by s =
    is_taken s.start (Interest s.spread.id s.spread.layer) ∷ is_allowed s.start s.spread.layer
    ∷ not (eqb s.p 0) ∷ not (eqb s.spread.focus 0)
    ∷ none_is (disturbs s.p) s.start (spread s.p s.spread) ∷ []

-- of p, from a state, by an interest call of this id and a next focus, with calls after the ignore
abbrev pub spreading : Memory → ℕ → ℕ → List Call → ℕ → Spreading
spreading start p id after focus = record {
  start = start;
  p = p;
  spread = record { id = id; layer = layer_of 2; between = []; after = after; focus = focus };
}

-- 12 was interested last
abbrev pub after_12 : List Call → Memory
after_12 calls = run new_memory (on_page 12 ∷ calls)

abbrev pub waiting_12 : Memory
waiting_12 = after_12 (RequestFocusNextFrame 12 ∷ [])

abbrev pub spreadings : List (ℕ × Spreading)
spreadings =
    -- the interest call is refused, or turned away
    (0, spreading (after_12 []) 12 0 [] 21)
    ∷ (1, spreading (after_12 higher_in_force) 12 21 [] 21)
    -- p is no id, and stays cached; the next focus is no id, and 12 waits as before
    ∷ (2, spreading (with_cached 2 0) 0 21 [] 21)
    ∷ (3, spreading waiting_12 12 21 [] 0)
    -- a begin focuses 12, which waits, and a call asks for it
    ∷ (4, spreading waiting_12 12 21 (Begin [] ∷ []) 21)
    ∷ (4, spreading (after_12 []) 12 21 (RequestFocus 12 ∷ []) 21)
    ∷ []

abbrev pub leaves_p_in : ℕ × Spreading → Bool
leaves_p_in s = not (kept_out (run s.1.start (spread s.1.p s.1.spread)) s.1.p)
