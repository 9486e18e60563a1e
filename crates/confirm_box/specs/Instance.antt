-- A page of two fields and a box of two, on which the premises of the theorems hold, from a new
-- memory: the box, and the calls of two passes after it is opened. Definitions only.
use Rattle.std.specs.Prelude.{◌≡◌, Some, ℕ, true, false, List, [], ◌∷◌, ◌++◌, map, take}
use Rattle.std.specs.Float.{binary32}
use Rattle.std.specs.Float.Ieee.{of_bits}
use Rattle.std.specs.List.{list_all}
use Rattle.emath.specs.declared.Pos2.{Pos2}
use Rattle.area.specs.Area.{default_state}
use Rattle.input.specs.declared.Event.TheVariants.{Key, AccessKitFocus}
use Rattle.input.specs.FocusDirection.{previous}
use Rattle.input.specs.Key.{tab}
use Rattle.layers.specs.declared.LayerId.{LayerId}
use Rattle.search.specs.declared.Candidate.{Candidate}
use Rattle.focus_rules.specs.Rules.{id_or_nothing}
use Rattle.memory_rules.specs.declared.Memory.{Memory}
use Rattle.memory_rules.specs.State.{nav_of, new_memory}
use Rattle.memory_rules.specs.Memory.{layer_id_at}
use Rattle.memory_rules.specs.Calls.{Call, done_by, IgnoreFocus, Begin, End, RequestFocus}
use Rattle.memory_rules.specs.Calls.{RequestFocusNextFrame, MoveFocus, SetModalLayer, SetState}
use Rattle.memory_rules.specs.Calls.{MoveToTop}
use Rattle.confirm_box.specs.KeptOut.{kept_out, may_focus, run, none_is}
use Rattle.confirm_box.specs.Modal.{is_under, in_force, is_set, set_in_every_pass, asks_from_below}
use Rattle.confirm_box.specs.Modal.{now_through, asks_by_rule, has_ended, keeps_under}
use Rattle.confirm_box.specs.Rule.{Box, Spread, Opens, Fits, Spreads, wanting, opening}
use Rattle.confirm_box.specs.Rule.{keeps_to_rule, all_held, cached_in}
use Rattle.confirm_box.specs.Rule.{spread as spreadCalls}

-- ---- the page with fields 11 and 12, and the box with 21 and 22
abbrev pub page : LayerId
page = record { order = 1; id = 7 }

abbrev pub under : List ℕ
under = 11 ∷ 12 ∷ []

abbrev pub box : Box
box = record {
  layer = record { order = 2; id = 9 };
  fields = 21 ∷ 22 ∷ [];
  focus = 21;
  under = under;
  freed = [];
}

-- the pass so far: the page's interest calls, one of its fields focused, the other waiting for the
-- next begin, and the focus to go to the field before
unfoldable pub start : Memory
start =
    run new_memory (SetState page default_state ∷ (wanting page under
    ++ (RequestFocus 11 ∷ RequestFocusNextFrame 12 ∷ MoveFocus previous ∷ [])))

-- field 11 kept out by the same calls with others between them
abbrev pub spread : Spread
spread = record {
  id = 21;
  layer = box.layer;
  between = SetModalLayer box.layer ∷ wanting box.layer (22 ∷ []);
  after = MoveToTop box.layer ∷ [];
  focus = 22;
}

-- ---- all four are used, at one place
abbrev pub origin : Pos2
origin = record { x = of_bits binary32 0; y = of_bits binary32 0 }

abbrev pub used : List Candidate
used =
    map (λ (id : ℕ). record { id = id; rect = record { min = origin; max = origin } })
    (under ++ box.fields)

-- a pass while the box is open: the page makes its interest calls as ever
abbrev pub passing : List Call
passing =
    SetModalLayer box.layer
    ∷ (wanting page under ++ (wanting box.layer box.fields ++ (End used ∷ [])))

-- the end of the pass in which it was opened; then a Shift+Tab on the box's first field, and a
-- request of a field under it
abbrev pub later : List Call
later = Begin (Key tab true false 4 ∷ []) ∷ (passing ++ (Begin (AccessKitFocus 11 ∷ []) ∷ passing))

abbrev pub calls : List Call
calls = End used ∷ later

abbrev pub opened : Memory
opened = run start (opening box)

abbrev pub shown : Memory
shown = run opened (End used ∷ [])

-- ---- what the theorems ask for, and where the focus is at the end
pub record Met : Type 0 where
  pub opens : Opens start box
  pub fits : Fits start box
  pub spreads : Spreads start 11 spread
  pub kept : (kept_out opened 11 ≡ true) × (kept_out opened 12 ≡ true)
  pub keeps_under : keeps_under 2 11 (in_force 2 start) true opened calls ≡ true
  pub in_force : (in_force 2 shown ≡ true) × (is_under shown page ≡ true)
  pub every_pass : set_in_every_pass 2 (is_set 2 shown) shown later ≡ true
  pub from_below : list_all (asks_from_below 2 11) later ≡ true
  pub held : all_held (cached_in start) under ≡ true
  pub ignored : (
      none_is (may_focus 11) (done_by (IgnoreFocus 11) start).memory (End used ∷ []) ≡ true)
  pub by_rule : keeps_to_rule box opened calls ≡ true
  pub spread_by_rule : (
      let after = run start (spreadCalls 11 spread) in
      let now = now_through 2 (is_set 2 start) start (spreadCalls 11 spread) in
      (set_in_every_pass 2 now after calls ≡ true) × (asks_by_rule 2 11 false after calls ≡ true))
  pub touches : (
      (layer_id_at opened origin ≡ Some page) × (layer_id_at shown origin ≡ Some box.layer))
  pub ended : has_ended opened (take 1 calls) ≡ true
  pub focused : id_or_nothing (nav_of (run opened calls)).focused ≡ Some 22
