-- The record and its parts: a call on the fields at the record's own tables is one on the record. Assumes nothing.
use mathlib.Core.Path.{◌≡◌, sym, ap, ◌∙◌}
use mathlib.Core.List.{List}
use Prim.Native.Nat.{ℕ}
use native.Mathlib.Omega.{arith}
use Rattle.std.specs.Prelude.{Result, Ok, Err}
use Rattle.refusal.specs.declared.Refusal.{Refusal}
use Rattle.refusal.proofs.Laws.{positive}
use Rattle.area_table.specs.Table.{Table, table_in}
use Rattle.focus_cache.specs.Cache.{Cache, cache_in}
use Rattle.memory_rules.specs.declared.Memory.{Memory}
use Rattle.memory_rules.specs.declared.Fields.{Fields}
use Rattle.memory_rules.specs.State.{Done, areas_of, focus_of, memory_of, fields_of, done, done_of}
use Rattle.memory_rules.specs.Calls.{Call, done_by}
use Rattle.memory_rules.proofs.Refused.{refused}

-- ---- the record's own tables
abbrev table_of : Memory → Table
table_of m = table_in (areas_of m).ids (areas_of m).codes (areas_of m).floats

abbrev cache_of : Memory → Cache
cache_of m = cache_in (focus_of m).ids (focus_of m).rects

-- the record of fields f over them, and what a call on the fields leaves
abbrev over : Memory → Fields → Memory
over m f = memory_of f (areas_of m).rows (table_of m) (cache_of m)

abbrev done_over : Memory → Result Fields Refusal → Done
done_over m r = done_of (fields_of m) r (areas_of m).rows (table_of m) (cache_of m)

-- ---- a call on m, from the one on its fields f, by what that says of the tables
module _ {A : Type 0} (m : Memory) (call : Memory → A) (f : Fields) (e : f ≡ fields_of m) where
  -- at m's own tables
  pub own : (a : A) → a ≡ call (over m f) → a ≡ call m
  own a q = q ∙ ap (λ (g : Fields). call (over m g)) e

  -- at any: an answer
  pub answers : (a : A) → ((rows : List ℕ) (map : Table) (cache : Cache) → a ≡ call (memory_of f rows map cache)) → a ≡ call m
  answers a h = own a (h (areas_of m).rows (table_of m) (cache_of m))

-- fields
pub leaves : (m : Memory) (call : Memory → Memory) (f : Fields) → f ≡ fields_of m → (r : Fields) → ((rows : List ℕ) (map : Table) (cache : Cache) → memory_of r rows map cache ≡ call (memory_of f rows map cache)) → (out : Memory) → out ≡ over m r → out ≡ call m
leaves m call f e r h out q = own m call f e out (q ∙ h (areas_of m).rows (table_of m) (cache_of m))

-- fields, or a refusal
module _ (m : Memory) (call : Memory → Done) (f : Fields) (e : f ≡ fields_of m) (r : Result Fields Refusal) (out : Result Memory Refusal) where
  pub changes : done_of f r (areas_of m).rows (table_of m) (cache_of m) ≡ call (over m f) → done m out ≡ done_over m r → done m out ≡ call m
  changes h q = own m call f e (done m out) (q ∙ ap (λ (g : Fields). done_of g r (areas_of m).rows (table_of m) (cache_of m)) (sym e) ∙ h)

-- ---- a call whose tables were written in a copy n of the record: where it is refused the record itself counts
copied : (call : Call) (m n : Memory) (out : Result Memory Refusal) → done n out ≡ done_by call m → done m out ≡ done_by call m
copied call m n (Ok x) q = q
copied call m n (Err r) q =
    let p = ap (λ (d : Done). d.refusal) q in
    let same = refused m call (λ z. let k = positive r in omega (arith, p, z)) in
    λ i. record { memory = sym same i; refusal = (q i).refusal }

-- the copy: its fields are the record's
abbrev written : Memory → List ℕ → Cache → Memory
written m rows cache = memory_of (fields_of m) rows (table_of m) cache

pub stores : (call : Call) (m : Memory) (rows : List ℕ) (cache : Cache) (f : Fields) → f ≡ fields_of m → (r : Result Fields Refusal) (out : Result Memory Refusal) → done (written m rows cache) out ≡ done_of (fields_of m) r rows (table_of m) cache
    → done_of f r rows (table_of m) cache ≡ done_by call (over m f) → done m out ≡ done_by call m
stores call m rows cache f e r out q h = copied call m (written m rows cache) out (q ∙ ap (λ (g : Fields). done_of g r rows (table_of m) cache) (sym e) ∙ own m (done_by call) f e _ h)
