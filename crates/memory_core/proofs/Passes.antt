-- Laws of end_pass, from what the focus, the layers and the popup gave. Assumes nothing.
use mathlib.Core.Path.{◌≡◌}
use mathlib.Core.List.{List}
use Prim.Native.Nat.{ℕ, ◌/◌, min}
use lib.Ieee.{Float}
use lib.ListN.{length}
use Rattle.refusal.specs.Refusal.{kept}
use Rattle.refusal.specs.Limits.{used as usedLimit}
use Rattle.layer_rows.specs.Rows.{held_rows, rows_on}
use Rattle.layer_sort.specs.Sort.{end_rows}
use Rattle.area_table.specs.Table.{Table}
use Rattle.areas.proofs.Stacks.{ended_is}
use Rattle.search.specs.declared.Candidate.{Candidate}
use Rattle.focus_rules.specs.declared.Nav.{Nav}
use Rattle.focus_cache.specs.Cache.{Cache, cache_in, held_in, cache_on}
use Rattle.focus_end.specs.End.{end_of, cache_ended}
use Rattle.focus.specs.Focus as Focus
use Rattle.memory_rules.specs.declared.Popup.{Popup}
use Rattle.memory_rules.specs.declared.Memory.{Memory}
use Rattle.memory_rules.specs.declared.Fields.{Fields}
use Rattle.memory_rules.specs.State.{Done, areas_of, with_areas, with_focus, with_popup, memory_of, done_with}
use Rattle.memory_rules.specs.Memory.{popup_ended, ended_of}

module _ (f : Fields) (rows : List ℕ) (map : Table) (ids : List ℕ) (rects : List Float) (used : List Candidate) where
  abbrev cache : Cache
  cache = cache_in ids rects

  abbrev held : List Candidate
  held = held_in f.cached ids rects

  abbrev before : Memory
  before = memory_of f rows map cache

  module _ (n : ℕ) (rows' : List ℕ) (l : (n ≡ min f.layers (length rows / 8)) × (rows' ≡ rows_on rows (end_rows (held_rows f.layers rows)))) (popup : Popup) (p : popup ≡ popup_ended f.popup) where
    -- the pass is taken: the parts are those of the definition
    pub end_taken : let s = end_of usedLimit f.nav held f.cached used in
        (nav : Nav) (count : ℕ) → (nav ≡ s.nav) × (count ≡ s.count) → (after : Cache) → after ≡ kept s.refusal cache (cache_on cache (cache_ended f.nav held used)) → 0 ≡ s.refusal
        → ◌≡◌ {A = Done} (record {
          memory = memory_of (record { nav = nav; cached = count; slot = f.slot; layers = n; placed = n; states = f.states; popup = popup; requested_interrupt_ime = f.requested_interrupt_ime; everything_is_visible = f.everything_is_visible }) rows' map after;
          refusal = 0;
        }) (ended_of before used)
    unfolding ended_of
    end_taken nav count e after c z =
        let a = ended_is (areas_of before) n rows' l in
        λ i. done_with (z i) before (with_popup (with_focus (with_areas before (a i)) (Focus.focus_with (e.0 i) (c i) (e.1 i) f.slot)) (p i))
