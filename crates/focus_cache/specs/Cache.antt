-- `focus_widgets_cache` of Focus (memory/mod.rs, line 537), a map from ids to rectangles, as the list of its entries in the order in which they came: what the calls do to the list, and the
-- exact value of each number of the tables that hold it. A reader needs only the list. Definitions only.
use Rattle.std.specs.Prelude.{ℕ, suc, ◌+◌, ◌*◌, ◌/◌, min, Bool, false, cond, ◌||◌, Option, None, Some, List, [], ◌∷◌, ◌++◌, map, eqb, ltb, Float, length, get_or, take, set}
use Rattle.std.specs.Float.{nan}
use Rattle.refusal.specs.Refusal.{none, full}
use Rattle.emath.specs.declared.Rect.{Rect}
use Rattle.emath.specs.Rect.{everything}
use Rattle.tables.specs.Tables.{after, put_at, written_on}
use Rattle.search.specs.declared.Candidate.{Candidate}
use Rattle.search.specs.Search.{table_of}
use Rattle.focus_cache.specs.declared.Enlisted.{Enlisted}

-- ---- the entries that are held
abbrev pub room_in : List ℕ → List Float → ℕ
room_in ids rects = min (length ids) (length rects / 4)

unfoldable pub held_in : ℕ → List ℕ → List Float → List Candidate
held_in count ids rects = take count (table_of ids rects)

abbrev pub ids_of : List Candidate → List ℕ
ids_of entries = map (λ (e : Candidate). e.id) entries

-- ---- the map's `contains_key`, `entry(id).or_insert(Rect::EVERYTHING)` and `remove`
unfoldable pub has_id : List Candidate → ℕ → Bool
has_id [] id = false
has_id (e ∷ entries) id = eqb e.id id || has_id entries id

unfoldable pub enlisted : List Candidate → ℕ → List Candidate
enlisted held id = cond (has_id held id) held (held ++ (record { id = id; rect = everything } ∷ []))

unfoldable pub without : List Candidate → ℕ → List Candidate
without [] id = []
without (e ∷ entries) id = cond (eqb e.id id) (without entries id) (e ∷ without entries id)

-- an id that is new where there is no room
unfoldable pub full_refusal : ℕ → List Candidate → ℕ → ℕ
full_refusal room held id = cond (ltb room (length (enlisted held id))) full none

-- ---- the numbers of the tables: the entries on the first places; those after them keep what they had
pub record Cache : Type 0 where
  pub ids : List ℕ
  pub rects : List Float

abbrev pub cache_in : List ℕ → List Float → Cache
cache_in ids rects = record { ids = ids; rects = rects }

unfoldable pub corners_of : List Candidate → List Float
corners_of [] = []
corners_of (e ∷ entries) = e.rect.min.x ∷ e.rect.min.y ∷ e.rect.max.x ∷ e.rect.max.y ∷ corners_of entries

unfoldable pub cache_on : Cache → List Candidate → Cache
cache_on c entries = cache_in (written_on c.ids (ids_of entries)) (written_on c.rects (corners_of entries))

-- entry k put anew, where there is room
unfoldable pub put_in : Cache → ℕ → Candidate → Cache
put_in c k e = cond (ltb k (room_in c.ids c.rects)) (cache_in (set c.ids k e.id) (put_at c.rects (4 * k) (corners_of (e ∷ [])))) c

-- the rectangle of entry k
unfoldable pub rect_at : List Float → ℕ → Rect
rect_at rects k = cond (ltb k (length rects / 4)) (record { min = record { x = get_or rects (4 * k) nan; y = get_or rects (4 * k + 1) nan }; max = record { x = get_or rects (4 * k + 2) nan; y = get_or rects (4 * k + 3) nan } }) everything

-- ---- where the next interest call looks first: after the entry of this one
abbrev pub place_after : Option ℕ → ℕ → ℕ
place_after (Some k) n = suc k
place_after None n = suc n

unfoldable pub slot_after : List Candidate → ℕ → ℕ → ℕ
slot_after held slot id = place_after (after (ids_of held) slot id) (length held)

-- ---- the answer
unfoldable pub enlisted_of : List Candidate → ℕ → ℕ → Enlisted
enlisted_of held slot id = record { count = length (enlisted held id); slot = slot_after held slot id }
