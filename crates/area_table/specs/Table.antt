-- `areas` of Areas (memory/mod.rs, line 1200), a map from ids to area states, as the rows of a table: the exact value of each number of it, and below the entries
-- that it has. A reader needs only the entries. Definitions only.
use Rattle.std.specs.Prelude.{Option, None, Some, ℕ, zero, suc, ◌+◌, ◌*◌, ◌/◌, min, ◌≡◌, Bool, true, false, cond, not, List, [], ◌∷◌, eqb, ltb, Float, length, get_or, take, set}
use Rattle.std.specs.Float.{nan, binary32}
use Rattle.std.specs.Float.Ieee.{of_bits}
use Rattle.tables.specs.Tables.{nearest, put_at}
use Rattle.emath.specs.declared.Vec2.{Vec2}
use Rattle.area.specs.declared.PivotPos.{PivotPos}
use Rattle.area.specs.declared.AreaState.{AreaState}
use Rattle.area_table.specs.declared.AreaTable.{AreaTable}

pub record Table : Type 0 where
  pub ids : List ℕ
  pub codes : List ℕ
  pub floats : List Float

abbrev pub table_in : List ℕ → List ℕ → List Float → Table
table_in ids codes floats = record { ids = ids; codes = codes; floats = floats }

-- what tables that are lent hold
abbrev pub lent : AreaTable → Table
lent t = table_in t.ids.now t.codes.now t.floats.now

-- ---- a state and its numbers
abbrev pub word : Bool → ℕ
word b = cond b 1 0

abbrev pub pivot_pos_in : ℕ → Float → Float → PivotPos
pivot_pos_in held x y = cond (eqb held 0) PivotPos.Absent (PivotPos.At x y)

abbrev pub size_in : ℕ → Float → Float → Option Vec2
size_in held x y = cond (eqb held 0) None (Some (record { x = x; y = y }))

unfoldable pub state_in : List ℕ → List Float → ℕ → AreaState
state_in codes floats k = record { pivot_pos = pivot_pos_in (get_or codes (5 * k) 0) (get_or floats (4 * k) nan) (get_or floats (4 * k + 1) nan); pivot = record { x = get_or codes (5 * k + 1) 0; y = get_or codes (5 * k + 2) 0 }; size = size_in (get_or codes (5 * k + 3) 0) (get_or floats (4 * k + 2) nan) (get_or floats (4 * k + 3) nan); interactable = not (eqb (get_or codes (5 * k + 4) 0) 0) }

-- two floats, and 1 where there are any
pub record Pair : Type 0 where
  pub held : ℕ
  pub x : Float
  pub y : Float

abbrev pub zeros : Pair
zeros = record { held = 0; x = of_bits binary32 0; y = of_bits binary32 0 }

abbrev pub positioned : PivotPos → Pair
positioned PivotPos.Absent = zeros
positioned (PivotPos.At x y) = record { held = 1; x = x; y = y }

abbrev pub sized : Option Vec2 → Pair
sized None = zeros
sized (Some v) = record { held = 1; x = v.x; y = v.y }

abbrev pub codes_of : AreaState → List ℕ
codes_of s = (positioned s.pivot_pos).held ∷ s.pivot.x ∷ s.pivot.y ∷ (sized s.size).held ∷ word s.interactable ∷ []

abbrev pub floats_of : AreaState → List Float
floats_of s = (positioned s.pivot_pos).x ∷ (positioned s.pivot_pos).y ∷ (sized s.size).x ∷ (sized s.size).y ∷ []

-- ---- how many rows there are, and are held
unfoldable pub room_of : Table → ℕ
room_of t = min (length t.ids) (min (length t.codes / 5) (length t.floats / 4))

abbrev pub held_in : ℕ → Table → ℕ
held_in count t = min count (room_of t)

-- ---- where an id stands, and its state
abbrev pub found_in : List ℕ → ℕ → ℕ → ℕ → Option ℕ
found_in ids n from id = nearest (take n ids) from id

abbrev pub spot_at : Option ℕ → ℕ → ℕ
spot_at (Some k) n = k
spot_at None n = n

unfoldable pub spot_of : Table → ℕ → ℕ → ℕ → ℕ
spot_of t count from id = spot_at (found_in t.ids (held_in count t) from id) (held_in count t)

abbrev pub held_at : Table → Option ℕ → Option AreaState
held_at t (Some k) = Some (state_in t.codes t.floats k)
held_at t None = None

unfoldable pub held_of : Table → ℕ → ℕ → ℕ → Option AreaState
held_of t count from id = held_at t (found_in t.ids (held_in count t) from id)

-- ---- an id and its state put in row k
unfoldable pub put_in : Table → ℕ → ℕ → AreaState → Table
put_in t k id s = cond (ltb k (room_of t)) (table_in (set t.ids k id) (put_at t.codes (5 * k) (codes_of s)) (put_at t.floats (4 * k) (floats_of s))) t

-- ---- what it means: the entries of the map
pub record Entry : Type 0 where
  pub id : ℕ
  pub state : AreaState

unfoldable pub entries_from : Table → ℕ → ℕ → List Entry
entries_from t k zero = []
entries_from t k (suc n) = record { id = get_or t.ids k 0; state = state_in t.codes t.floats k } ∷ entries_from t (suc k) n

unfoldable pub entries_of : Table → ℕ → List Entry
entries_of t count = entries_from t 0 (held_in count t)

-- `get` and `insert` of the map, and that no id has two entries
unfoldable pub get_in : List Entry → ℕ → Option AreaState
get_in [] id = None
get_in (e ∷ entries) id = cond (eqb e.id id) (Some e.state) (get_in entries id)

unfoldable pub insert_in : List Entry → ℕ → AreaState → List Entry
insert_in [] id s = record { id = id; state = s } ∷ []
insert_in (e ∷ entries) id s = cond (eqb e.id id) (record { id = id; state = s } ∷ entries) (e ∷ insert_in entries id s)

unfoldable pub Distinct : List Entry → Type 0
Distinct [] = Unit {0}
Distinct (e ∷ entries) = (get_in entries e.id ≡ None) × Distinct entries

-- whether a list of ids has an id
unfoldable pub elem : List ℕ → ℕ → Bool
elem [] x = false
elem (y ∷ ys) x = cond (eqb y x) true (elem ys x)
