-- Focus::begin_pass and interested_in_focus, Memory::ignore_focus of memory/mod.rs (lines 569 to 633, 659 to 694 and 946 to 952) over the fields of crate focus_rules and the entries of
-- the cache, with document 01's refusals. Definitions only.
use Rattle.std.specs.Prelude.{ℕ, Bool, cond, not, ◌&&◌, List, [], ◌∷◌, eqb, ltb, length}
use Rattle.refusal.specs.Refusal.{none, bad_list, lowest, id_refusal, kept}
use Rattle.refusal.specs.Limits.{events as eventsLimit}
use Rattle.input.specs.declared.Event.{Event}
use Rattle.input.specs.declared.EventFilter.{EventFilter}
use Rattle.input.specs.Event.{event_refusal}
use Rattle.search.specs.declared.Candidate.{Candidate}
use Rattle.focus_rules.specs.declared.Nav.{Nav}
use Rattle.focus_rules.specs.declared.Heard.{Heard}
use Rattle.focus_rules.specs.Rules.{Changed, started_of, filter_of, nothing_heard, heard_of, begun_of, changed_to, interested_of, let_go}
use Rattle.focus_cache.specs.Cache.{has_id, enlisted, without, full_refusal, slot_after}

-- ---- begin_pass: too many events before anything else, then the lowest refusal of any event
unfoldable pub worst_of : ℕ → List Event → ℕ
worst_of n [] = n
worst_of n (e ∷ events) = worst_of (lowest n (event_refusal e)) events

unfoldable pub begin_refusal : List Event → ℕ
begin_refusal events = cond (ltb eventsLimit (length events)) bad_list (worst_of none events)

-- the events in turn, each with the filter that was read once
unfoldable pub heard_all : EventFilter → Heard → List Event → Heard
heard_all filter h [] = h
heard_all filter h (e ∷ events) = heard_all filter (heard_of filter h e) events

-- an id was asked for, and the cache holds it
unfoldable pub is_granted : List Candidate → ℕ → Bool
is_granted held asked = not (eqb asked 0) && has_id held asked

unfoldable pub nav_begun : Nav → List Candidate → List Event → Nav
nav_begun nav held events =
    let start = started_of nav in
    let heard = heard_all (filter_of start) nothing_heard events in
    begun_of start heard (is_granted held heard.asked)

unfoldable pub begin_of : Nav → List Candidate → List Event → Changed
begin_of nav held events = changed_to (begin_refusal events) nav (nav_begun nav held events)

-- ---- interested_in_focus: by what number it is refused, 0 for none, the fields after it, how many entries are held, and where the next call looks first
pub record Interested : Type 0 where
  pub refusal : ℕ
  pub nav : Nav
  pub count : ℕ
  pub slot : ℕ

unfoldable pub interest_refusal : ℕ → List Candidate → ℕ → ℕ
interest_refusal room held id = lowest (id_refusal id) (full_refusal room held id)

unfoldable pub interest_of : Nav → ℕ → List Candidate → ℕ → ℕ → ℕ → Interested
interest_of nav room held count slot id =
    let refusal = interest_refusal room held id in
    record { refusal = refusal; nav = kept refusal nav (interested_of nav id); count = kept refusal count (length (enlisted held id)); slot = kept refusal slot (slot_after held slot id) }

-- ---- ignore_focus: its refusal, the fields after it, and how many entries are held
pub record Ignored : Type 0 where
  pub refusal : ℕ
  pub nav : Nav
  pub count : ℕ

unfoldable pub ignore_of : Nav → List Candidate → ℕ → ℕ → Ignored
ignore_of nav held count id = record { refusal = id_refusal id; nav = kept (id_refusal id) nav (let_go nav id); count = kept (id_refusal id) count (length (without held id)) }
