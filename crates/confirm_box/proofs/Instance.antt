-- The premises of the opening and of the passes after it hold of a box over a page of two fields: computed. Assumes nothing.
use mathlib.Core.Path.{◌≡◌, refl}
use native.Mathlib.Omega.{arith}
use lib.Ieee.{of_bits, of_fields, round, size, add, sub, mul, div, neg, lt, le, eq, is_nan}
use Rattle.std.specs.Prelude.{true, map, ◌++◌}
use Rattle.std.specs.List.{list_all}
use Rattle.refusal.specs.Refusal.{lowest}
use Rattle.floats.specs.Count as Floats
use Rattle.gui_rounding.specs.GuiRounding.{round_away, round_ui}
use Rattle.emath.specs.Rect.{contains_pos}
use Rattle.grid.specs.Grid.{within, side_refusal, rect_refusal}
use Rattle.area.specs.Area.{to_factor, left_top, rect_of, state_refusal}
use Rattle.input.specs.EventFilter.{matches_key}
use Rattle.input.specs.FocusDirection.{is_cardinal, navigation_of}
use Rattle.input.specs.Modifiers.{any_of, shift_only}
use Rattle.layers.specs.Layers.{is_layer, layer_refusal}
use Rattle.stacking.specs.Lists.{stable, keep}
use Rattle.layer_rows.specs.Rows.{rows_from, rows_of, flat, rows_on, row_of, spot_in, held_rows, marked}
use Rattle.layer_queries.specs.Queries.{rank_in, last_of}
use Rattle.layer_sort.specs.Sort.{order_key, family_key, by_order, by_family, map_from, pass_of, end_rows}
use Rattle.layer_table.specs.Layers.{top_refusal, to_top}
use Rattle.area_table.specs.Table.{state_in, room_of, spot_of, held_of, put_in}
use Rattle.area_stack.specs.Stack.{slot_of, set_state_refusal, set_state_of}
use Rattle.area_stack.specs.Stack.{layer_id_at as areasLayerIdAt}
use Rattle.areas.specs.Areas.{new_areas, state_set, to_top_of, pass_ended}
use Rattle.tables.specs.Tables.{first_from, last_below, nearest, put_at, written_on}
use Rattle.search.specs.Search.{table_of}
use Rattle.focus_rules.specs.Rules.{filter_of, started_of, begun_of, interested_of, ended_of, let_go}
use Rattle.focus_cache.specs.Cache.{held_in, has_id, enlisted, without, full_refusal, corners_of, cache_on}
use Rattle.focus_pass.specs.Pass as Pass
use Rattle.used.specs.Used as Used
use Rattle.focus_end.specs.End.{nav_ended, cache_ended, end_of}
use Rattle.focus.specs.Focus as Focus
use Rattle.memory_rules.specs.State.{new_memory}
use Rattle.memory_rules.specs.Memory as Memory
use Rattle.memory_rules.specs.Calls.{done_by}
use Rattle.confirm_box.specs.KeptOut.{kept_out, lets_in, may_focus, run, none_is}
use Rattle.confirm_box.specs.Modal.{set_in_every_pass, now_through, asks_by_rule, keeps_under}
use Rattle.confirm_box.specs.Rule.{all_held, new_in, disturbs, opening}
use Rattle.confirm_box.specs.Rule.{spread as spreadCalls}
use Rattle.confirm_box.specs.Instance.{start, Met}
use Rattle.confirm_box.specs.Needed.{Case, first_of, parts, part_cases, one_each, slips, three, lets_it_in, alone, OneAlone, in_short, short_cases, by_rule, rule_cases, lets_12_in, ignored_cases, comes_back}
use Rattle.confirm_box.specs.NeededOpening.{opens_by, openings, leaves_12_in, leaves_others_in, fits_by, fittings, refuses_one, frees_by, freeings, frees_too_few, spreads_by, spreadings, leaves_p_in}

pub computed : Met
    × ((map (λ (c : Case). parts (first_of c)) part_cases ≡ one_each) × (list_all slips part_cases ≡ true) × (list_all lets_it_in three ≡ true))
    × (OneAlone 3 in_short short_cases × OneAlone 2 by_rule rule_cases × (list_all lets_12_in (short_cases ++ rule_cases) ≡ true) × (list_all comes_back ignored_cases ≡ true))
    × (OneAlone 3 opens_by openings × (list_all leaves_12_in openings ≡ true) × (leaves_others_in ≡ true) × OneAlone 5 fits_by fittings × (list_all refuses_one fittings ≡ true) × OneAlone 3 frees_by freeings × (list_all frees_too_few freeings ≡ true) × OneAlone 5 spreads_by spreadings × (list_all leaves_p_in spreadings ≡ true))
unfolding alone start opening set_in_every_pass now_through asks_by_rule all_held new_in disturbs spreadCalls run none_is kept_out lets_in may_focus keeps_under done_by new_memory Memory.begun_of Memory.interested_of Memory.ended_of Memory.ignored_of Memory.requested Memory.requested_next Memory.surrendered Memory.moved Memory.modal_set Memory.is_allowed Memory.is_above Focus.new_focus Focus.interested_of Focus.ignored_of Focus.requested Focus.requested_next Focus.surrendered Focus.moved Focus.modal_set Pass.begin_refusal Pass.worst_of Pass.heard_all Pass.is_granted Pass.nav_begun Pass.begin_of Pass.interest_refusal Pass.interest_of Pass.ignore_of filter_of started_of begun_of interested_of ended_of let_go nav_ended cache_ended end_of Used.used_refusal Used.worst_of Used.repeated Used.elem held_in has_id enlisted without full_refusal corners_of cache_on written_on table_of layer_refusal any_of shift_only is_cardinal navigation_of matches_key within rect_refusal Floats.count_of lowest of_bits of_fields lt rank_in spot_in held_rows stable keep by_order by_family map_from pass_of end_rows new_areas pass_ended to_top_of top_refusal to_top marked rows_from rows_of flat rows_on row_of last_of state_in room_of spot_of held_of put_in slot_of set_state_refusal set_state_of areasLayerIdAt state_set Memory.layer_id_at to_factor left_top rect_of state_refusal contains_pos round_away round_ui side_refusal first_from last_below nearest put_at round size add sub mul div neg le eq is_nan is_layer order_key family_key
computed = (
  record {
    opens = record { let_through = refl; focus = refl; taken = refl };
    fits = record { layer = refl; ids = (refl, refl, refl); places = omega arith };
    spreads = record { taken = refl; let_through = refl; ids = (refl, refl); quiet = refl };
    kept = (refl, refl);
    keeps_under = refl;
    in_force = (refl, refl);
    every_pass = refl;
    from_below = refl;
    held = refl;
    ignored = refl;
    by_rule = refl;
    spread_by_rule = (refl, refl);
    touches = (refl, refl);
    ended = refl;
    focused = refl;
  },
  (refl, refl, refl),
  (refl, refl, refl, refl),
  (refl, refl, refl, refl, refl, refl, refl, refl, refl),
)
