-- `used_ids` of memory/mod.rs (`end_pass`, line 635), a map from ids to rectangles, as the list of entries that the caller gives, and document 01's refusals of it. Definitions only.
use Rattle.std.specs.Prelude.{ℕ, suc, ◌+◌, ◌*◌, Bool, false, cond, ◌||◌, List, [], ◌∷◌, map, eqb, ltb, Float, length, get_or}
use Rattle.std.specs.Float.{nan}
use Rattle.refusal.specs.Refusal.{none, bad_list, lowest, id_refusal}
use Rattle.emath.specs.declared.Rect.{Rect}
use Rattle.grid.specs.Grid.{rect_refusal}
use Rattle.search.specs.declared.Candidate.{Candidate}
use Rattle.used.specs.declared.UsedEntries.{UsedEntries}

-- ---- the entries: an id and four corners each; a corner that is missing is NaN
abbrev pub rect_from : List Float → ℕ → Rect
rect_from corners at = record { min = record { x = get_or corners at nan; y = get_or corners (at + 1) nan }; max = record { x = get_or corners (at + 2) nan; y = get_or corners (at + 3) nan } }

unfoldable pub entries_from : ℕ → List ℕ → List Float → List Candidate
entries_from i [] corners = []
entries_from i (id ∷ ids) corners = record { id = id; rect = rect_from corners (4 * i) } ∷ entries_from (suc i) ids corners

unfoldable pub entries_in : List ℕ → List Float → List Candidate
entries_in ids corners = entries_from 0 ids corners

-- the entries that are lent
abbrev pub lent : UsedEntries → List Candidate
lent u = entries_in u.ids.now u.corners.now

abbrev pub ids_of : List Candidate → List ℕ
ids_of entries = map (λ (e : Candidate). e.id) entries

-- ---- whether a list of ids has an id, and whether one stands in it twice
unfoldable pub elem : List ℕ → ℕ → Bool
elem [] x = false
elem (y ∷ ys) x = eqb y x || elem ys x

unfoldable pub repeated : List ℕ → Bool
repeated [] = false
repeated (x ∷ xs) = elem xs x || repeated xs

-- ---- the refusals: too many entries before anything else; then the lowest that applies to any
abbrev pub entry_refusal : Candidate → ℕ
entry_refusal e = lowest (id_refusal e.id) (rect_refusal e.rect)

unfoldable pub worst_of : ℕ → List Candidate → ℕ
worst_of n [] = n
worst_of n (e ∷ entries) = worst_of (lowest n (entry_refusal e)) entries

unfoldable pub used_refusal : ℕ → List Candidate → ℕ
used_refusal limit entries = cond (ltb limit (length entries)) bad_list (lowest (worst_of none entries) (cond (repeated (ids_of entries)) bad_list none))
