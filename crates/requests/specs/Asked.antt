-- What a form asks of the memory, from document 01, "The pass program". Definitions only.
use Rattle.std.specs.Prelude.{◌≡◌, ℕ, ◌*◌, ◌≤◌, true, false, cond, List, [], ◌∷◌, map, leb, length, replicate, Option, Some, None, Float, zero, suc, ltb, codes}
use Rattle.std.specs.List.{flat_map}
use Rattle.std.specs.Float.{binary32}
use Rattle.std.specs.Float.Ieee.{round, of_bits}
use Rattle.emath.specs.declared.Pos2.{Pos2}
use Rattle.emath.specs.declared.Rect.{Rect}
use Rattle.area.specs.declared.AreaState.{AreaState}
use Rattle.area.specs.declared.PivotPos.TheVariants.{At}
use Rattle.input.specs.declared.Event.{Event}
use Rattle.input.specs.declared.Event.TheVariants.{Key as KeyEvent, AccessKitFocus}
use Rattle.layers.specs.declared.LayerId.{LayerId}
use Rattle.search.specs.declared.Candidate.{Candidate}
use Rattle.refusal.specs.Limits.{events as most_events, used as most_used}
use Rattle.focus.specs.declared.Events.{Events}
use Rattle.focus.specs.declared.Used.{Used}
use Rattle.focus.specs.Focus.{events_of, used_of}
use Rattle.forms.specs.declared.Coordinate.{Coordinate}
use Rattle.forms.specs.declared.Spot.{Spot}
use Rattle.forms.specs.declared.Entry.{Entry}
use Rattle.forms.specs.declared.Entry.TheVariants.{Key, Ask}
use Rattle.forms.specs.declared.Place.{Place}
use Rattle.requests.specs.declared.Request.{Request}
use Rattle.requests.specs.declared.Request.TheVariants as asks
use Rattle.requests.specs.declared.Lists.{Lists}
use Rattle.text.specs.Read.{opens}
use Rattle.tables.specs.Tables.{written_on}
use Rattle.forms.specs.Read.{after, entry_in, place_in, longest_line}
use Rattle.forms.specs.Form.{Form, Begin, Want, Area, Top, Sub, Modal, End, Hit, Focus, flag}

-- ---- coordinates: 32nds of a point, up to 524,288. Any more stand for 65,536 points, past every bound of the table of refusals, so that a call refuses them as it refuses a number past its bounds
abbrev pub bounded : ℕ → ℕ
bounded steps = cond (leb steps 524288) steps 2097152

unfoldable pub points : Coordinate → Float
points c = round binary32 c.below (bounded c.steps) 32

abbrev pub pos_of : Spot → Pos2
pos_of s = record { x = points s.x; y = points s.y }

abbrev pub rect_of : Place → Rect
rect_of p = record { min = pos_of p.min; max = pos_of p.max }

abbrev pub candidate_of : Place → Candidate
candidate_of p = record { id = p.id; rect = rect_of p }

-- an area with a low pivot, that is interactable
abbrev pub state_of : Spot → Spot → AreaState
state_of at size = record { pivot_pos = At (points at.x) (points at.y); pivot = record { x = 0; y = 0 }; size = Some (record { x = points size.x; y = points size.y }); interactable = true }

-- a key that is no repeat, or the request of an accessibility program
abbrev pub event_of : Entry → Event
event_of (Key key down modifiers) = KeyEvent key down false modifiers
event_of (Ask id) = AccessKitFocus id

-- parent and child have one Order
abbrev pub child_of : LayerId → ℕ → LayerId
child_of parent id = record { order = parent.order; id = id }

-- ---- how the lists hold an entry: an event as four numbers, a used entry by its corners
abbrev pub words_of : Entry → List ℕ
words_of (Key key down modifiers) = 1 ∷ key ∷ flag down ∷ modifiers ∷ []
words_of (Ask id) = 2 ∷ id ∷ 0 ∷ 0 ∷ []

abbrev pub corners_of : Place → List Float
corners_of p = points p.min.x ∷ points p.min.y ∷ points p.max.x ∷ points p.max.y ∷ []

-- ---- the request, and the lists that come with it
abbrev pub request_of : Form → Request
request_of (Begin entries) = asks.Begin
request_of (Want l id) = asks.Want l id
request_of (Area l at size) = asks.Area l (state_of at size)
request_of (Top l) = asks.Top l
request_of (Sub parent child) = asks.Sub parent (child_of parent child)
request_of (Modal l) = asks.Modal l
request_of (End places) = asks.End
request_of (Hit at) = asks.Hit (pos_of at)
request_of Focus = asks.Focus

-- before the first line
unfoldable pub no_lists : Lists
no_lists = record { events = record { words = replicate (4 * most_events) 0; count = 0 }; used = record { ids = replicate most_used 0; corners = replicate (4 * most_used) (of_bits binary32 0); count = 0 } }

-- of a list longer than its array only the length is held
pub record HoldsEvents (held : Events) (events : List Event) : Type 0 where
  pub count : held.count ≡ length events
  pub is : length events ≤ most_events → events_of held ≡ events

pub record HoldsUsed (held : Used) (used : List Candidate) : Type 0 where
  pub count : held.count ≡ length used
  pub is : length used ≤ most_used → used_of held ≡ used

abbrev pub Holds : Lists → Form → Type 0
Holds lists (Begin entries) = HoldsEvents lists.events (map event_of entries)
Holds lists (End places) = HoldsUsed lists.used (map candidate_of places)
Holds lists f = Unit {0}

-- ---- what the lists hold after any line: the entries of a `begin` or an `end` that stand behind its word, up to the first that is none, over what was there
abbrev pub listed : {A : Type 0} → Option (A × List ℕ) → (List ℕ → List A) → List A
listed (Some x) others = x.0 ∷ others x.1
listed None others = []

module _ {A : Type 0} (one : List ℕ → Option (A × List ℕ)) where
  unfoldable pub entries_in : ℕ → List ℕ → List A
  entries_in zero s = []
  entries_in (suc n) s = cond (opens (codes " ") s) (listed (one s) (entries_in n)) []

abbrev pub events_with : Events → List Entry → Events
events_with e entries = record { words = written_on e.words (flat_map words_of entries); count = length entries }

abbrev pub used_with : Used → List Place → Used
used_with u places = record { ids = written_on u.ids (map (λ (p : Place). p.id) places); corners = written_on u.corners (flat_map corners_of places); count = length places }

abbrev pub lists_begun : Lists → Option (List ℕ) → Lists
lists_begun l (Some s) = record { events = events_with l.events (entries_in entry_in (length s) s); used = l.used }
lists_begun l None = l

abbrev pub lists_ended : Lists → Option (List ℕ) → Lists
lists_ended l (Some s) = record { events = l.events; used = used_with l.used (entries_in place_in (length s) s) }
lists_ended l None = l

unfoldable pub lists_after : List ℕ → Lists → Lists
lists_after s l = lists_ended (lists_begun l (after s (codes "(begin"))) (after s (codes "(end"))

abbrev pub lists_read : List ℕ → Lists → Lists
lists_read line l = cond (ltb longest_line (length line)) l (lists_after line l)
