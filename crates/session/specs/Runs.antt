-- What the steps of the code do: the first line cut off; and what it does with a request, whose entries stand in its lists; by `step` it is what the form unchanged. Definitions only.
use Rattle.std.specs.Prelude.{◌≡◌, ℕ, ◌+◌, ◌<◌, ◌≤◌, List, ◌∷◌, length}
use Rattle.input.specs.declared.Event.{Event}
use Rattle.search.specs.declared.Candidate.{Candidate}
use Rattle.memory_rules.specs.declared.Memory.{Memory}
use Rattle.memory_rules.specs.Calls as calls
use Rattle.requests.specs.declared.Request.{Request}
use Rattle.requests.specs.declared.Request.TheVariants.{Begin, Want, Area, Top, Sub, Modal, End, Hit, Focus}
use Rattle.requests.specs.declared.Lists.{Lists}
use Rattle.requests.specs.Asked.{HoldsEvents, HoldsUsed}
use Rattle.session.specs.Session.{Step, called, unchanged, hit_answer, focus_answer, lines_of}

-- the first line of a session and what comes after it
pub record Cuts (s line rest : List ℕ) : Type 0 where
  pub lines : lines_of s ≡ line ∷ lines_of rest
  pub shorter : length line + length rest ≤ length s
  pub less : length rest < length s

abbrev pub Leaves : Request → Lists → Memory → Step → Type 0
Leaves Begin lists m s = (es : List Event) → HoldsEvents lists.events es → s ≡ called m (calls.Begin es)
Leaves (Want layer id) lists m s = s ≡ called m (calls.Interest id layer)
Leaves (Area layer state) lists m s = s ≡ called m (calls.SetState layer state)
Leaves (Top layer) lists m s = s ≡ called m (calls.MoveToTop layer)
Leaves (Sub parent child) lists m s = s ≡ called m (calls.SetSublayer parent child)
Leaves (Modal layer) lists m s = s ≡ called m (calls.SetModalLayer layer)
Leaves End lists m s = (us : List Candidate) → HoldsUsed lists.used us → s ≡ called m (calls.End us)
Leaves (Hit pos) lists m s = s ≡ unchanged m (hit_answer m pos)
Leaves Focus lists m s = s ≡ unchanged m (focus_answer m)
