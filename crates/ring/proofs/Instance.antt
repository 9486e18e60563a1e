-- The premises of the ring hold of the page of two fields: computed. Assumes nothing.
use mathlib.Core.Path.{◌≡◌, refl}
use mathlib.Core.List.{[], ◌∷◌}
use lib.Ieee.{of_bits, of_fields, lt}
use Rattle.refusal.specs.Refusal.{lowest}
use Rattle.floats.specs.Count as Floats
use Rattle.grid.specs.Grid.{within, rect_refusal}
use Rattle.input.specs.EventFilter.{matches_key}
use Rattle.input.specs.FocusDirection.{is_cardinal, navigation_of}
use Rattle.input.specs.Modifiers.{any_of, shift_only}
use Rattle.layers.specs.Layers.{layer_refusal}
use Rattle.tables.specs.Tables.{written_on}
use Rattle.search.specs.Search.{table_of}
use Rattle.stacking.specs.Lists.{each}
use Rattle.std.specs.Prelude.{Some}
use Rattle.focus_rules.specs.Page.{last_of}
use Rattle.focus_rules.specs.Rules.{id_or_nothing, layer_or_nothing, filter_of, started_of, begun_of, interested_of, ended_of}
use Rattle.focus_cache.specs.Cache.{held_in, has_id, enlisted, full_refusal, corners_of, cache_on}
use Rattle.focus_pass.specs.Pass as Pass
use Rattle.used.specs.Used as Used
use Rattle.focus_end.specs.End.{nav_ended, cache_ended, end_of}
use Rattle.focus.specs.Focus as Focus
use Rattle.memory_rules.specs.State.{nav_of, new_memory}
use Rattle.memory_rules.specs.Memory as Memory
use Rattle.memory_rules.specs.Calls as Calls
use Rattle.ring.specs.Lists.{done_by, run, is_refused}
use Rattle.ring.specs.Count.{is_tab, is_shift_tab}
use Rattle.ring.specs.Ring.{Rests, Rounds, steps_of, accepted, registered, all_used, AllRegister, are_presses, Turns}
use Rattle.ring.specs.Instance.{fields, first, start, calls, passes, passing, tab_down, twice, low, after_all, busy_start}

pub met : Turns fields start calls passes
    × (id_or_nothing (nav_of (run start calls)).focused ≡ Some 12)
    × Rounds fields (run start calls) calls passes
    × (id_or_nothing (nav_of (run start twice)).focused ≡ Some 11)
    × Rests fields busy_start
    × Rounds fields busy_start calls passes
    × (layer_or_nothing (nav_of busy_start).top_modal_layer ≡ Some low)
    × (id_or_nothing (nav_of (run busy_start calls)).focused ≡ Some 12)
unfolding start busy_start after_all Calls.done_by Memory.modal_set Focus.modal_set last_of run accepted registered all_used AllRegister are_presses is_tab is_shift_tab each steps_of is_refused done_by new_memory Memory.begun_of Memory.interested_of Memory.ended_of Memory.is_allowed Memory.is_above Focus.new_focus Focus.interested_of Pass.begin_refusal Pass.worst_of Pass.heard_all Pass.is_granted Pass.nav_begun Pass.begin_of Pass.interest_refusal Pass.interest_of filter_of started_of begun_of interested_of ended_of nav_ended cache_ended end_of Used.used_refusal Used.worst_of Used.repeated Used.elem held_in has_id enlisted full_refusal corners_of cache_on written_on table_of layer_refusal any_of shift_only is_cardinal navigation_of matches_key within rect_refusal Floats.count_of lowest of_bits of_fields lt
met = (
  record {
    distinct = refl;
    start = record { before = new_memory; calls = first; pass = passing (tab_down ∷ []); whole = refl; registers = (refl, refl); left = refl; idle = record { focused = refl; tab_off = refl; no_next = refl; no_give = refl }; no_modal = refl; no_modal_set = refl };
    rounds = record { whole = refl; register = ((refl, refl), ((refl, refl), ((refl, refl), ((refl, refl), ((refl, refl), ((refl, refl), tt)))))); presses = refl };
  },
  refl,
  record { whole = refl; register = ((refl, refl), ((refl, refl), ((refl, refl), ((refl, refl), ((refl, refl), ((refl, refl), tt)))))); presses = refl },
  refl,
  record { some = refl; idle = record { focused = refl; tab_off = refl; no_next = refl; no_give = refl }; last_interested = refl },
  record { whole = refl; register = ((refl, refl), ((refl, refl), ((refl, refl), ((refl, refl), ((refl, refl), ((refl, refl), tt)))))); presses = refl },
  refl,
  refl,
)
