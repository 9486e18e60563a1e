-- A query of the fields, at tables that are the record's own, is one of the record. Assumes nothing.
use Rattle.std.proofs.Common.{◌≡◌, ap, ◌∙◌}
use Rattle.area_table.specs.Table.{table_in}
use Rattle.focus_cache.specs.Cache.{cache_in}
use Rattle.memory_rules.specs.declared.Memory.{Memory}
use Rattle.memory_rules.specs.declared.Fields.{Fields}
use Rattle.memory_rules.specs.State.{areas_of, focus_of, fields_of, memory_of}

-- the record of fields f over m's tables
abbrev over : Memory → Fields → Memory
over m f = memory_of f (areas_of m).rows (table_in (areas_of m).ids (areas_of m).codes (areas_of m).floats) (cache_in (focus_of m).ids (focus_of m).rects)

pub answers : {A : Type 0} (m : Memory) (query : Memory → A) (f : Fields) → f ≡ fields_of m → (a : A) → a ≡ query (over m f) → a ≡ query m
answers m query f e a h = h ∙ ap (λ (g : Fields). query (over m g)) e
