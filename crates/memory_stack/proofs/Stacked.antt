-- What a refused set_state leaves: the lent tables are those that were there. Assumes nothing.
use mathlib.Core.Path.{◌≡◌, ◌∙◌}
use mathlib.Core.List.{List}
use Prim.Native.Nat.{ℕ}
use lib.Ieee.{Float}
use Rattle.refusal.specs.declared.Refusal.{Refusal}
use Rattle.refusal.specs.Refusal.{number_of}
use Rattle.area.specs.declared.AreaState.{AreaState}
use Rattle.layers.specs.declared.LayerId.{LayerId}
use Rattle.area_table.specs.Table.{Table, table_in}
use Rattle.area_stack.specs.Stack.{Tables, tables_in, set_state_refusal, set_state_of}
use Rattle.areas.specs.Areas.{tables_of, state_set}
use Rattle.focus_cache.specs.Cache.{Cache}
use Rattle.memory_rules.specs.declared.Memory.{Memory}
use Rattle.memory_rules.specs.declared.Fields.{Fields}
use Rattle.memory_rules.specs.State.{Done, areas_of, memory_of}
use Rattle.memory_rules.specs.Calls.{with_stack}
use Rattle.memory_rules.proofs.Refused.{keeps, leaves}

module _ (f : Fields) (rows : List ℕ) (map : Table) (cache : Cache) (layer : LayerId) (s : AreaState) where
  abbrev before : Memory
  before = memory_of f rows map cache

  abbrev tables : Tables
  tables = tables_of (areas_of before)

  pub state_refused : (r : Refusal) → number_of r ≡ set_state_refusal tables layer s → (rows' ids' codes' : List ℕ) (floats' : List Float)
      → tables_in (set_state_of tables layer s).count (set_state_of tables layer s).states rows' ids' codes' floats' ≡ set_state_of tables layer s
      → ◌≡◌ {A = Done} (record { memory = memory_of f rows' (table_in ids' codes' floats') cache; refusal = number_of r }) (with_stack before (state_set (areas_of before) layer s))
  unfolding state_set set_state_of
  state_refused r e rows' ids' codes' floats' p =
      let q = p ∙ keeps r _ e _ _ in
      (λ i. record { memory = memory_of f (q i).rows (q i).areas cache; refusal = number_of r }) ∙ leaves r _ e before _
