-- A session: what each line leaves of the memory and what it is answered, from document 01, "The pass program". Definitions only.
use Rattle.std.specs.Prelude.{ℕ, cond, List, [], ◌∷◌, eqb, ltb, length, map, Option, Some, None}
use Rattle.refusal.specs.Refusal.{none, bad_list}
use Rattle.emath.specs.declared.Pos2.{Pos2}
use Rattle.grid.specs.Grid.{pos_refusal}
use Rattle.layers.specs.declared.LayerId.{LayerId}
use Rattle.memory_rules.specs.declared.Memory.{Memory}
use Rattle.memory_rules.specs.State.{nav_of, new_memory}
use Rattle.memory_rules.specs.Memory.{layer_id_at}
use Rattle.memory_rules.specs.Calls.{Call, done_by}
use Rattle.memory_rules.specs.Calls as calls
use Rattle.forms.specs.Form.{Form, Begin, Want, Area, Top, Sub, Modal, End, Hit, Focus}
use Rattle.requests.specs.Asked.{pos_of, state_of, child_of, event_of, candidate_of}
use Rattle.forms.specs.Read.{form_of}
use Rattle.session.specs.declared.runner.Answer.{Answer}
use Rattle.session.specs.declared.runner.Answer.TheVariants as answers

-- the memory that a line leaves, and its answer
pub record Step : Type 0 where
  pub memory : Memory
  pub answer : Answer

-- ---- the answers
abbrev pub answer_by : ℕ → Answer
answer_by refusal = cond (eqb refusal none) answers.Ok (answers.No refusal)

abbrev pub layer_answer : Option LayerId → Answer
layer_answer (Some l) = answers.Layer l
layer_answer None = answers.None

-- a point past the grid's bounds is refused
abbrev pub hit_answer : Memory → Pos2 → Answer
hit_answer m pos = let refusal = pos_refusal pos in cond (eqb refusal none) (layer_answer (layer_id_at m pos)) (answers.No refusal)

-- id 0 is none
abbrev pub focus_answer : Memory → Answer
focus_answer m = let id = (nav_of m).focused in cond (eqb id 0) answers.None (answers.Id id)

-- ---- a line: a call of the memory, or a query that leaves it as it was
abbrev pub called : Memory → Call → Step
called m call = let d = done_by call m in record { memory = d.memory; answer = answer_by d.refusal }

abbrev pub unchanged : Memory → Answer → Step
unchanged m answer = record { memory = m; answer = answer }

unfoldable pub step : Memory → Form → Step
step m (Begin entries) = called m (calls.Begin (map event_of entries))
step m (Want layer id) = called m (calls.Interest id layer)
step m (Area layer at size) = called m (calls.SetState layer (state_of at size))
step m (Top layer) = called m (calls.MoveToTop layer)
step m (Sub parent child) = called m (calls.SetSublayer parent (child_of parent child))
step m (Modal layer) = called m (calls.SetModalLayer layer)
step m (End places) = called m (calls.End (map candidate_of places))
step m (Hit at) = unchanged m (hit_answer m (pos_of at))
step m Focus = unchanged m (focus_answer m)

-- a line that is no form changes nothing
abbrev pub step_by : Memory → Option Form → Step
step_by m (Some f) = step m f
step_by m None = unchanged m answers.NoForm

-- ---- the lines: byte 10 ends one, and the end of the input too
abbrev pub onto : ℕ → List (List ℕ) → List (List ℕ)
onto b [] = (b ∷ []) ∷ []
onto b (line ∷ lines) = (b ∷ line) ∷ lines

unfoldable pub lines_of : List ℕ → List (List ℕ)
lines_of [] = []
lines_of (b ∷ s) = cond (eqb b 10) ([] ∷ lines_of s) (onto b (lines_of s))

unfoldable pub answers_from : Memory → List (List ℕ) → List Answer
answers_from m [] = []
answers_from m (line ∷ lines) = let s = step_by m (form_of line) in s.answer ∷ answers_from s.memory lines

-- ---- the whole input, from a new memory; one that is too long gets one answer
abbrev pub longest : ℕ
longest = 65536

unfoldable pub answers_to : List ℕ → List Answer
answers_to input = cond (ltb longest (length input)) (answers.No bad_list ∷ []) (answers_from new_memory (lines_of input))
