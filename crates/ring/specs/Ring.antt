-- The premises of the ring, each a definition beside the words that ask for it. Definitions only.
use Rattle.std.specs.Prelude.{ℕ, ◌≡◌, Bool, true, false, not, cond, ◌&&◌, ◌||◌, List, [], ◌∷◌, ◌++◌}
use Rattle.std.specs.Prelude.{map}
use Rattle.input.specs.declared.Event.{Event}
use Rattle.layers.specs.declared.LayerId.{LayerId}
use Rattle.search.specs.declared.Candidate.{Candidate}
use Rattle.stacking.specs.Lists.{each}
use Rattle.focus_rules.specs.Page.{last_of}
use Rattle.focus_cache.specs.Cache.{has_id}
use Rattle.used.specs.Used.{elem, repeated}
use Rattle.memory_rules.specs.declared.Memory.{Memory}
use Rattle.memory_rules.specs.State.{nav_of}
use Rattle.memory_rules.specs.Memory.{is_allowed}
use Rattle.ring.specs.Lists.{Call, Begin, Interest, End, done_by, run, is_refused}
use Rattle.ring.specs.Count.{is_tab, is_shift_tab}

-- ---- the accepted calls; of an interest call also whether its layer's Order or a modal layer in
-- force turns it away
pub data Step : Type 0 where
  Began : List Event → Step
  Wanted : ℕ → LayerId → Bool → Step
  Ended : List Candidate → Step

abbrev pub step_of : Memory → Call → Step
step_of m (Begin events) = Began events
step_of m (Interest id layer) = Wanted id layer (not (is_allowed m layer))
step_of m (End used) = Ended used

unfoldable pub accepted : Memory → List Call → List Step
accepted m [] = []
accepted m (c ∷ calls) =
    let rest = accepted (done_by c m).memory calls in
    cond (is_refused m c) rest (step_of m c ∷ rest)

-- ---- "whole passes": a begin, interest calls, an end
pub record Want : Type 0 where
  pub id : ℕ
  pub layer : LayerId
  pub turned_away : Bool

pub record Pass : Type 0 where
  pub events : List Event
  pub wants : List Want
  pub used : List Candidate

abbrev pub wanted : Want → Step
wanted w = Wanted w.id w.layer w.turned_away

unfoldable pub steps_of : Pass → List Step
steps_of p = Began p.events ∷ (map wanted p.wants ++ (Ended p.used ∷ []))

-- "the accepted calls are whole passes"
abbrev pub WholePasses : List Step → List Pass → Type 0
WholePasses steps passes = steps ≡ each steps_of passes

-- ---- "every pass registers the same fields, that is, makes for each field, in the same order,
-- exactly one interest call that neither its layer's Order nor a modal layer in force turns away,
-- makes no such call for another id, and has all the fields among its used entries at its end"
unfoldable pub registered : List Want → List ℕ
registered [] = []
registered (w ∷ wants) = cond w.turned_away (registered wants) (w.id ∷ registered wants)

unfoldable pub all_used : List Candidate → List ℕ → Bool
all_used used [] = true
all_used used (id ∷ fields) = has_id used id && all_used used fields

abbrev pub Registers : List ℕ → Pass → Type 0
Registers fields p = (registered p.wants ≡ fields) × (all_used p.used fields ≡ true)

unfoldable pub AllRegister : List ℕ → List Pass → Type 0
AllRegister fields [] = Unit {0}
AllRegister fields (p ∷ passes) = Registers fields p × AllRegister fields passes

-- ---- "it has no event or is a press, with one Tab or Shift+Tab key-down as its sole event, and
-- after a press comes a pass without events"
abbrev pub is_quiet : List Event → Bool
is_quiet [] = true
is_quiet (e ∷ events) = false

abbrev pub is_press : List Event → Bool
is_press [] = false
is_press (e ∷ []) = is_tab e || is_shift_tab e
is_press (e ∷ d ∷ events) = false

abbrev pub starts_quiet : List Pass → Bool
starts_quiet [] = false
starts_quiet (p ∷ passes) = is_quiet p.events

unfoldable pub are_presses : List Pass → Bool
are_presses [] = true
are_presses (p ∷ passes) =
    (is_quiet p.events || (is_press p.events && starts_quiet passes)) && are_presses passes

-- ---- "distinct fields"
abbrev pub Distinct : List ℕ → Type 0
Distinct fields = repeated fields ≡ false

-- ---- "with one of these fields focused, its filter's Tab flag off, no hand-over waiting"
pub record Idle (fields : List ℕ) (m : Memory) : Type 0 where
  pub focused : elem fields (nav_of m).focused ≡ true
  pub tab_off : (nav_of m).filter.tab ≡ false
  pub no_next : (nav_of m).id_next_frame ≡ 0
  pub no_give : (nav_of m).give_to_next ≡ false

-- "the state that one such pass, with any events and after any calls, left", so, "and no modal
-- layer set or in force": any calls leave some state, and the pass may start from every state
pub record Start (fields : List ℕ) (m : Memory) : Type 0 where
  pub before : Memory
  pub calls : List Call
  pub pass : Pass
  pub whole : WholePasses (accepted before calls) (pass ∷ [])
  pub registers : Registers fields pass
  pub left : run before calls ≡ m
  pub idle : Idle fields m
  pub no_modal : (nav_of m).top_modal_layer.id ≡ 0
  pub no_modal_set : (nav_of m).top_modal_layer_current_frame.id ≡ 0

-- all that is needed of the start: the same, no field of id 0, and the last field interested last
pub record Rests (fields : List ℕ) (m : Memory) : Type 0 where
  pub some : elem fields 0 ≡ false
  pub idle : Idle fields m
  pub last_interested : (nav_of m).last_interested ≡ last_of 0 fields

-- ---- the list of calls, from a state
pub record Rounds (fields : List ℕ) (m : Memory) (calls : List Call) (passes : List Pass)
    : Type 0 where
  pub whole : WholePasses (accepted m calls) passes
  pub register : AllRegister fields passes
  pub presses : are_presses passes ≡ true

-- on a page of distinct fields, from a start
pub record Turns (fields : List ℕ) (m : Memory) (calls : List Call) (passes : List Pass)
    : Type 0 where
  pub distinct : Distinct fields
  pub start : Start fields m
  pub rounds : Rounds fields m calls passes
