-- What each part of a definition is needed for: short lists of calls, in each of which one part
-- alone is in the way, and which let field 12 in. Definitions only.
use Rattle.std.specs.Prelude.{ℕ, zero, suc, ◌≡◌, Bool, true, false, not, ◌&&◌, List, [], ◌∷◌, map}
use Rattle.std.specs.Prelude.{replicate}
use Rattle.std.specs.Float.{binary32}
use Rattle.std.specs.Float.Ieee.{of_bits}
use Rattle.std.specs.List.{list_all}
use Rattle.emath.specs.declared.Pos2.{Pos2}
use Rattle.input.specs.declared.Event.TheVariants.{AccessKitFocus}
use Rattle.input.specs.FocusDirection.{previous}
use Rattle.layers.specs.declared.LayerId.{LayerId}
use Rattle.search.specs.declared.Candidate.{Candidate}
use Rattle.memory_rules.specs.declared.Memory.{Memory}
use Rattle.memory_rules.specs.State.{new_memory}
use Rattle.memory_rules.specs.Calls.{Call, Begin, Interest, End, RequestFocus}
use Rattle.memory_rules.specs.Calls.{RequestFocusNextFrame, IgnoreFocus, MoveFocus, SetModalLayer}
use Rattle.memory_rules.specs.Calls.{done_by}
use Rattle.confirm_box.specs.KeptOut.{is_focused, waits, was_last, is_cached, kept_out, lets_in}
use Rattle.confirm_box.specs.KeptOut.{may_focus, run, none_is}
use Rattle.confirm_box.specs.Modal.{in_force, is_set, set_in_every_pass, asks_from_below}
use Rattle.confirm_box.specs.Modal.{asks_by_rule, keeps_under}
use Rattle.confirm_box.specs.Instance.{page, box}

-- from a new memory: calls, and more calls after them
pub record Case : Type 0 where
  pub before : List Call
  pub calls : List Call

abbrev pub then : List Call → List Call → Case
then before calls = record { before = before; calls = calls }

abbrev pub first_of : Case → Memory
first_of c = run new_memory c.before

abbrev pub last_of : Case → Memory
last_of c = run (first_of c) c.calls

abbrev pub in_box : ℕ → Call
in_box id = Interest id box.layer

abbrev pub on_page : ℕ → Call
on_page id = Interest id page

-- ---- the four parts: in each case one of them alone says that 12 is not kept out, and it is
-- focused without one of the three calls
abbrev pub parts : Memory → List Bool
parts m = is_focused m 12 ∷ waits m 12 ∷ was_last m 12 ∷ is_cached m 12 ∷ []

abbrev pub part_cases : List Case
part_cases =
    then (RequestFocus 12 ∷ []) []
    ∷ then (RequestFocusNextFrame 12 ∷ []) (Begin [] ∷ [])
    ∷ then (on_page 12 ∷ IgnoreFocus 12 ∷ []) (MoveFocus previous ∷ in_box 21 ∷ [])
    ∷ then (on_page 12 ∷ in_box 21 ∷ []) (Begin (AccessKitFocus 12 ∷ []) ∷ [])
    ∷ []

abbrev pub one_each : List (List Bool)
one_each =
    (true ∷ false ∷ false ∷ false ∷ []) ∷ (false ∷ true ∷ false ∷ false ∷ [])
    ∷ (false ∷ false ∷ true ∷ false ∷ []) ∷ (false ∷ false ∷ false ∷ true ∷ []) ∷ []

abbrev pub slips : Case → Bool
slips c =
    not (kept_out (first_of c) 12)
    && (none_is (lets_in 12) (first_of c) c.calls && is_focused (last_of c) 12)

-- ---- the three calls: each lets 12 in
abbrev pub three : List Call
three = on_page 12 ∷ RequestFocus 12 ∷ RequestFocusNextFrame 12 ∷ []

abbrev pub lets_it_in : Call → Bool
lets_it_in call = lets_in 12 new_memory call && not (kept_out (done_by call new_memory).memory 12)

-- ---- what a program keeps to while a box of Order 2 is open: in each case the calls do not keep
-- to it, for one reason
abbrev pub used : List Candidate
used = []

-- refused, since id 0 is none
abbrev pub bad_used : List Candidate
bad_used =
    let origin : Pos2 = record { x = of_bits binary32 0; y = of_bits binary32 0 } in
    record { id = 0; rect = record { min = origin; max = origin } } ∷ []

abbrev pub layer_of : ℕ → LayerId
layer_of order = record { order = order; id = 8 }

abbrev pub set_box : Call
set_box = SetModalLayer box.layer

-- the box's layer is in force
abbrev pub in_force_first : List Call
in_force_first = set_box ∷ End used ∷ []

-- of so many tests the one at this place alone is false
unfoldable pub alone : ℕ → ℕ → List Bool
alone zero place = []
alone (suc n) zero = false ∷ replicate n true
alone (suc n) (suc place) = true ∷ alone n place

-- each case stands behind the place of the one of its n tests that is false
abbrev pub OneAlone : {A : Type 0} → ℕ → (A → List Bool) → List (ℕ × A) → Type 0
OneAlone n tests cases = map (λ c. tests c.1) cases ≡ map (λ c. alone n c.0) cases

-- in short: a modal layer of its Order or a higher one is in force, one is set in every pass, and
-- only interest calls with layers of a lower Order ask for 12
abbrev pub in_short : Case → List Bool
in_short c =
    in_force 2 (first_of c)
    ∷ set_in_every_pass 2 (is_set 2 (first_of c)) (first_of c) c.calls
    ∷ list_all (asks_from_below 2 12) c.calls ∷ []

abbrev pub short_cases : List (ℕ × Case)
short_cases =
    -- a lower layer is in force
    (0, then (SetModalLayer (layer_of 0) ∷ End used ∷ []) (on_page 12 ∷ []))
    -- the layer is not set again, or by a refused call, or a lower one is
    ∷ (1, then in_force_first (End used ∷ on_page 12 ∷ []))
    ∷ (1, then in_force_first (SetModalLayer (layer_of 7) ∷ End used ∷ on_page 12 ∷ []))
    ∷ (1, then in_force_first (SetModalLayer (layer_of 1) ∷ End used ∷ on_page 12 ∷ []))
    -- requests, and an interest call with a layer of the box's own Order
    ∷ (2, then in_force_first (RequestFocus 12 ∷ []))
    ∷ (2, then in_force_first (RequestFocusNextFrame 12 ∷ []))
    ∷ (2, then in_force_first (Interest 12 (layer_of 2) ∷ []))
    ∷ []

-- by the rule: one is set in every pass, and only interest calls with layers of a lower Order ask
-- for 12, after the first end that is taken
abbrev pub by_rule : Case → List Bool
by_rule c =
    set_in_every_pass 2 (is_set 2 (first_of c)) (first_of c) c.calls
    ∷ asks_by_rule 2 12 false (first_of c) c.calls ∷ []

abbrev pub rule_cases : List (ℕ × Case)
rule_cases =
    -- none is set in the pass of the opening, or a lower one is
    (0, then [] (End used ∷ on_page 12 ∷ []))
    ∷ (0, then (SetModalLayer (layer_of 0) ∷ []) (End used ∷ on_page 12 ∷ []))
    -- and in the next pass none, or by a refused call, or a lower one
    ∷ (0, then (set_box ∷ []) (End used ∷ End used ∷ on_page 12 ∷ []))
    ∷ (0, then (set_box ∷ []) (End used ∷ SetModalLayer (layer_of 7) ∷ End used ∷ on_page 12 ∷ []))
    ∷ (0, then (set_box ∷ []) (End used ∷ SetModalLayer (layer_of 1) ∷ End used ∷ on_page 12 ∷ []))
    -- an interest call before the layer is in force, also after an end that is refused
    ∷ (1, then (set_box ∷ []) (on_page 12 ∷ []))
    ∷ (1, then (set_box ∷ []) (End bad_used ∷ on_page 12 ∷ []))
    -- and when it is, requests, and an interest call with a layer of the box's own Order
    ∷ (1, then (set_box ∷ []) (End used ∷ RequestFocus 12 ∷ []))
    ∷ (1, then (set_box ∷ []) (End used ∷ RequestFocusNextFrame 12 ∷ []))
    ∷ (1, then (set_box ∷ []) (End used ∷ Interest 12 (layer_of 2) ∷ []))
    ∷ []

-- at length, of all of these
abbrev pub at_length : Case → Bool
at_length c =
    let m = first_of c in
    keeps_under 2 12 (in_force 2 m) (is_set 2 m) m c.calls

-- and each lets 12 in, which was kept out
abbrev pub lets_12_in : ℕ × Case → Bool
lets_12_in c =
    kept_out (first_of c.1) 12 && (not (at_length c.1) && not (kept_out (last_of c.1) 12))

-- ---- after an ignore of 12: in each case one clause alone says that the calls may focus it, and
-- they do
abbrev pub ignored_cases : List Case
ignored_cases =
    then (RequestFocusNextFrame 12 ∷ IgnoreFocus 12 ∷ []) (Begin [] ∷ [])
    ∷ then (on_page 12 ∷ MoveFocus previous ∷ IgnoreFocus 12 ∷ []) (in_box 21 ∷ [])
    ∷ then (IgnoreFocus 12 ∷ []) (RequestFocus 12 ∷ [])
    ∷ []

abbrev pub comes_back : Case → Bool
comes_back c = not (none_is (may_focus 12) (first_of c) c.calls) && is_focused (last_of c) 12
