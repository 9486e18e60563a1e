-- The table of starred situations, computed. Assumes nothing.
use mathlib.Core.Path.{refl}
use lib.Ieee.{to_bits, of_bits, round, size, add, sub, mul, div, neg, lt, le, eq, is_nan}
use Rattle.refusal.specs.Refusal.{lowest}
use Rattle.floats.specs.Count.{count_of}
use Rattle.gui_rounding.specs.GuiRounding.{round_away, round_ui}
use Rattle.emath.specs.Range.{max_f, min_f, span_of, center_of, intersection_of}
use Rattle.grid.specs.Grid.{within, side_refusal, rect_refusal}
use Rattle.area.specs.Area.{to_factor, left_top, state_refusal}
use Rattle.input.specs.EventFilter.{matches_key}
use Rattle.vec2.specs.Length.{root_of, whole_nearest, nearest_of, length_of}
use Rattle.vec2.specs.Vec2.{normalized_of, dot_of}
use Rattle.candidate.specs.Candidate.{has_significant_overlap, range_diff, search_direction, acos_angle, is_in_search_cone, score_of, judge_of}
use Rattle.search.specs.Search.{considered_of, in_cone_of, goes_first, is_better, is_beaten, first_unbeaten, find_of}
use Rattle.layers.specs.Layers.{is_layer, layer_refusal}
use Rattle.tables.specs.Tables.{first_from, last_below, nearest, put_at, closed, on_part}
use Rattle.widget_rect.specs.WidgetRect.{joined_of, widget_refusal, insert_refusal}
use Rattle.widget_rows.specs.Rows.{is_in, index_at, record_at, next_index, lowered_at, renumbered_rows, renumbered, place_by, place_of, room_of, held_in, found_in, list_in, list_of}
use Rattle.widget_table.specs.Table.{push_words, push_rects, push_of, remove_of, put_half, joined_at, row_after, refusal_of, insert_of, new_table}
use Rattle.stacking.specs.Lists.{keep, some, stable}
use Rattle.layer_rows.specs.Rows.{rows_from, rows_of, held_rows, flat, rows_on, spot_in, row_of, marked}
use Rattle.layer_sort.specs.Sort.{order_key, family_key, map_from, pass_of, by_order, by_family, end_rows}
use Rattle.layer_table.specs.Layers.{to_top, top_refusal, with_sublayer, family_refusal, sublayer_refusal}
use Rattle.area_table.specs.Table as AreaTable
use Rattle.area_stack.specs.Stack.{slot_of, set_state_refusal, set_state_of}
use Rattle.areas.specs.Areas.{new_areas, state_set, to_top_of, sublayer_set, pass_ended, layers_of}
use Rattle.area_maps.specs.Calls.{record_from}
use Rattle.starred.specs.Starred.{registered, same_ids, same_layers, holds, all_hold}
use Rattle.starred.proofs.starred_situations.Goals as goal

pub returns : goal.returns
unfolding holds all_hold registered same_ids same_layers keep some stable rows_from rows_of held_rows flat rows_on spot_in row_of marked order_key family_key map_from pass_of by_order by_family end_rows to_top top_refusal with_sublayer family_refusal sublayer_refusal AreaTable.room_of AreaTable.spot_of AreaTable.put_in slot_of set_state_refusal set_state_of new_areas state_set to_top_of sublayer_set pass_ended layers_of record_from is_layer layer_refusal first_from last_below nearest put_at closed on_part joined_of widget_refusal insert_refusal is_in index_at record_at next_index push_words push_rects lowered_at renumbered_rows renumbered place_by place_of room_of held_in found_in list_in list_of push_of remove_of put_half joined_at row_after refusal_of insert_of new_table lowest count_of round_away round_ui within side_refusal rect_refusal to_factor left_top state_refusal matches_key max_f min_f span_of center_of intersection_of root_of whole_nearest nearest_of length_of normalized_of dot_of has_significant_overlap range_diff search_direction acos_angle is_in_search_cone score_of judge_of considered_of in_cone_of goes_first is_better is_beaten first_unbeaten find_of to_bits of_bits round size add sub mul div neg lt le eq is_nan
returns c = refl
