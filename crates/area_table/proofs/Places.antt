-- Laws of the rows of a table and of the place of an id, in the form in which the functions ask for them. Assumes nothing.
use mathlib.Core.Path.{◌≡◌, refl, sym, ◌∙◌}
use mathlib.Core.List.{List}
use Prim.Native.Nat.{ℕ, ◌+◌, ◌*◌, ◌/◌, ◌<◌, ◌≤◌}
use native.Mathlib.Omega.{arith}
use lib.Ieee.{Float}
use lib.ListN.{length, take}
use lib.Seq.{length-take-le}
use Rattle.tables.proofs.Finding.{nearest_at}
use Rattle.std.specs.Prelude.{Option, Some}
use Rattle.area_table.specs.Table.{Table, table_in, room_of, held_in, found_in}

-- ---- the rows that there is room for are there
pub rows_fit : (t : Table) (n : ℕ) → n ≤ room_of t → (n ≤ length t.ids) × (5 * n ≤ length t.codes) × (4 * n ≤ length t.floats)
unfolding room_of
rows_fit t n h =
    let c : n ≤ length t.codes / 5 = omega arith in
    let f : n ≤ length t.floats / 4 = omega arith in
    (omega arith, omega arith, omega arith)

pub row_fits : (t : Table) (k room : ℕ) → k < room → room ≡ room_of t → (k < length t.ids) × (5 * k + 5 ≤ length t.codes) × (4 * k + 4 ≤ length t.floats)
row_fits t k room h e =
    let f = rows_fit t (k + 1) (omega arith) in
    (omega arith, omega arith, omega arith)

-- ---- the row where an id is found among those held is there
pub found_fits : (ids codes : List ℕ) (floats : List Float) (count from id : ℕ) (f : Option ℕ) → f ≡ found_in ids (held_in count (table_in ids codes floats)) from id → (k : ℕ) → f ≡ Some k → (5 * k + 5 ≤ length codes) × (4 * k + 4 ≤ length floats)
found_fits ids codes floats count from id f p k a =
    let t = table_in ids codes floats in
    let n = held_in count t in
    let b = (nearest_at (take n ids) from id k (sym p ∙ a)).0 in
    let l = length-take-le n ids (rows_fit t n (omega arith)).0 in
    let c = row_fits t k (room_of t) (omega arith) refl in
    (c.1, c.2)
