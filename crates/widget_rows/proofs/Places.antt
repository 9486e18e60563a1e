-- Laws of the place of an id. Assumes nothing.
use mathlib.Core.Path.{◌≡◌, refl}
use mathlib.Core.List.{List}
use Prim.Native.Nat.{ℕ, zero, suc, ◌+◌, ◌*◌, ◌/◌, min, ◌<◌, ◌≤◌}
use native.Mathlib.Omega.{arith}
use lib.ListN.{length, get_or, take}
use lib.Seq.{length-take-le}
use borrow.Author.Tests.{lt-ltb}
use Rattle.std.specs.Prelude.{Some}
use Rattle.tables.specs.Tables.{nearest}
use Rattle.tables.proofs.Finding.{nearest_at}
use Rattle.widget_rect.specs.declared.WidgetRect.{WidgetRect}
use Rattle.widget_rows.specs.Rows.{Rows, Table, room_of, held_in, held_of, found_in, record_at, home_of, place_by, place_of, record_or}

-- ---- the two ways of `place`
pub by_cell : (held : List ℕ) (id cell : ℕ) → (cell ≡ 0 → ⊥) → place_by cell held id ≡ nearest held cell id
unfolding place_by
by_cell held id zero n = absurd (n refl)
by_cell held id (suc k) n = refl

-- ---- the rows that are held are there
held_fits : (t : Rows) (count : ℕ) → (held_in count t ≤ length t.ids) × (10 * held_in count t ≤ length t.words) × (16 * held_in count t ≤ length t.rects)
unfolding held_in room_of
held_fits t count =
    let w : min count (min (length t.ids) (min (length t.words / 10) (length t.rects / 16))) ≤ length t.words / 10 = omega arith in
    let x : min count (min (length t.ids) (min (length t.words / 10) (length t.rects / 16))) ≤ length t.rects / 16 = omega arith in
    (omega arith, omega arith, omega arith)

-- a row below the room is there
pub room_fits : (t : Rows) (k room : ℕ) → room ≡ room_of t → k < room → (k < length t.ids) × (10 * k + 10 ≤ length t.words) × (16 * k + 16 ≤ length t.rects)
unfolding room_of
room_fits t k room r l =
    let w : k < length t.words / 10 = omega arith in
    let x : k < length t.rects / 16 = omega arith in
    (omega arith, omega arith, omega arith)

-- ---- a row that is found is held
below : (held : List ℕ) (id k cell : ℕ) → place_by cell held id ≡ Some k → k < length held
unfolding place_by
below held id k zero e = let z : ◌≡◌ {A = ℕ} 0 1 = cc in absurd (omega arith)
below held id k (suc j) e = (nearest_at held (suc j) id k e).0

pub found_fits : (t : Table) (id k : ℕ) → found_in t id ≡ Some k → (k < held_of t) × (held_of t ≤ length t.rows.ids) × (10 * held_of t ≤ length t.rows.words) × (16 * held_of t ≤ length t.rows.rects)
unfolding found_in place_of
found_fits t id k e =
    let h = held_fits t.rows t.count in
    let l = rw (length-take-le (held_of t) t.rows.ids h.0) at (below (take (held_of t) t.rows.ids) id k (get_or t.cells (home_of t.cells id) 1) e) in
    (l, h.0, h.1, h.2)

-- the record held by id at a row that is found
pub record_found : (t : Table) (id k : ℕ) (d w : WidgetRect) → found_in t id ≡ Some k → w ≡ record_or t.rows k d → w ≡ record_at t.rows k 0
unfolding record_or room_of
record_found t id k d w f e =
    let (l, i, x, y) = found_fits t id k f in
    let a : k < length t.rows.words / 10 = omega arith in
    let b : k < length t.rows.rects / 16 = omega arith in
    rw (lt-ltb k (room_of t.rows) (omega arith)) at e
