-- Document 01's starred panel situations as one table: each line is what goes in and what must come out.
-- Definitions only.
use Rattle.std.specs.Prelude.{ℕ, ◌*◌, Bool, true, false, ◌&&◌, List, [], ◌∷◌, ◌++◌, eqb, Float, Some, Result, Ok, Err}
use Rattle.refusal.specs.declared.Refusal.{Refusal}
use Rattle.refusal.specs.Refusal.{answer}
use Rattle.emath.specs.declared.Pos2.{Pos2}
use Rattle.std.specs.Bool.{beq}
use Rattle.std.specs.Float.{binary32}
use Rattle.std.specs.Float.Ieee.{round, to_bits}
use Rattle.emath.specs.declared.Rect.{Rect}
use Rattle.area.specs.declared.AreaState.{AreaState}
use Rattle.area.specs.declared.PivotPos.TheVariants as PivotPos
use Rattle.area.specs.Area.{default_state, left_top, state_refusal}
use Rattle.input.specs.declared.Event.TheVariants.{Key}
use Rattle.input.specs.Event.{event_refusal}
use Rattle.input.specs.EventFilter.{default_filter, matches_of}
use Rattle.input.specs.FocusDirection.{up, right, down, left}
use Rattle.candidate.specs.Candidate.{range_diff, is_in_search_cone}
use Rattle.search.specs.declared.Candidate.{Candidate}
use Rattle.refusal.specs.Limits.{widgets}
use Rattle.layers.specs.declared.LayerId.{LayerId}
use Rattle.widget_rect.specs.declared.WidgetRect.{WidgetRect}
use Rattle.widget_rows.specs.Rows.{Table, list_of}
use Rattle.widget_table.specs.Table.{new_table, insert_of}
use Rattle.search.specs.Search.{find_of}
use Rattle.layer_queries.specs.declared.Listing.TheVariants.{All}
use Rattle.areas.specs.Areas.{layers_of}
use Rattle.area_maps.specs.Calls.{Calls, SetState, MoveToTop, SetSublayer, EndPass, record_after}

-- n / d and -n / d as f32, and whether two f32 are the same, the sign of a zero too
abbrev pub plus : ℕ → ℕ → Float
plus n d = round binary32 false n d

abbrev pub minus : ℕ → ℕ → Float
minus n d = round binary32 true n d

abbrev pub same : Float → Float → Bool
same x y = eqb (to_bits binary32 x) (to_bits binary32 y)

pub data Situation : Type 0 where
  -- an area's position, pivot code and size on the x axis, the same on the y axis, and where its left top is
  left_top_at : Float → ℕ → Float → Float → ℕ → Float → Float → Float → Situation
  -- a key pressed with all filters off, and whether the filter matches
  key_matches : ℕ → Bool → Situation
  -- a candidate's span, the current one's, and the difference
  apart : Float → Float → Float → Float → Float → Situation
  -- a difference, a direction, and whether it lies in the cone
  in_cone : Float → Float → ℕ → Bool → Situation
  -- a direction, candidates with their ids, seen from the point (0, 0), and which is found
  finds : ℕ → List Candidate → ℕ → Situation
  -- the ids of widgets that are inserted into one layer, the last first, each with whether it goes to the top; the layer's list
  listed : List (ℕ × Bool) → List ℕ → Situation
  -- calls on the layers (1,5) (0,6) (1,7) (1,8), shown in this order, the last first; the ids of the stack at the end of the pass
  stacked : Calls → List ℕ → Situation

abbrev pub area_at : Float → ℕ → Float → Float → ℕ → Float → AreaState
area_at px fx w py fy h = record { pivot_pos = PivotPos.At px py; pivot = record { x = fx; y = fy }; size = Some (record { x = w; y = h }); interactable = true }

abbrev pub is_at : Float → Float → Result Pos2 Refusal → Bool
is_at x y (Ok p) = same p.x x && same p.y y
is_at x y (Err r) = false

abbrev pub is_matched : Bool → Result Bool Refusal → Bool
is_matched b (Ok r) = beq b r
is_matched b (Err r) = false

-- a rectangle of no size
abbrev pub point_at : Float → Float → Rect
point_at x y = record { min = record { x = x; y = y }; max = record { x = x; y = y } }

abbrev pub one_layer : LayerId
one_layer = record { order = 1; id = 7 }

abbrev pub widget_of : ℕ → WidgetRect
widget_of id = record { id = id; parent_id = 9; layer_id = one_layer; rect = point_at (plus 0 1) (plus 0 1); interact_rect = point_at (plus 0 1) (plus 0 1); sense = 4; enabled = true; visible = true }

-- the registry of 256 widgets after the inserts
unfoldable pub registered : List (ℕ × Bool) → Table
registered [] = new_table (2 * widgets) widgets
registered (w ∷ before) = insert_of (registered before) one_layer (widget_of w.0) w.1

unfoldable pub same_ids : List WidgetRect → List ℕ → Bool
same_ids [] [] = true
same_ids (w ∷ list) (id ∷ ids) = eqb w.id id && same_ids list ids
same_ids [] (id ∷ ids) = false
same_ids (w ∷ list) [] = false

-- the record of 64 layers at the end of a pass with these calls
abbrev pub middle : ℕ → LayerId
middle id = record { order = 1; id = id }

abbrev pub background : ℕ → LayerId
background id = record { order = 0; id = id }

abbrev pub shown : Calls
shown = SetState (middle 8) default_state ∷ SetState (middle 7) default_state ∷ SetState (background 6) default_state ∷ SetState (middle 5) default_state ∷ []

abbrev pub stack_after : Calls → List LayerId
stack_after calls = layers_of (record_after (EndPass ∷ (calls ++ shown))) All

unfoldable pub same_layers : List LayerId → List ℕ → Bool
same_layers [] [] = true
same_layers (l ∷ list) (id ∷ ids) = eqb l.id id && same_layers list ids
same_layers [] (id ∷ ids) = false
same_layers (l ∷ list) [] = false

unfoldable pub holds : Situation → Bool
holds (left_top_at px fx w py fy h x y) = is_at x y (answer (state_refusal (area_at px fx w py fy h)) (left_top (area_at px fx w py fy h)))
holds (key_matches key b) = is_matched b (answer (event_refusal (Key key true false 0)) (matches_of default_filter (Key key true false 0)))
holds (apart a0 a1 b0 b1 d) = same (range_diff (record { min = a0; max = a1 }) (record { min = b0; max = b1 })) d
holds (in_cone x y k b) = beq b (is_in_search_cone (record { x = x; y = y }) k)
holds (finds k table id) = eqb (find_of table 0 (point_at (plus 0 1) (plus 0 1)) k) id
holds (listed inserts ids) = same_ids (list_of (registered inserts) one_layer) ids
holds (stacked calls ids) = same_layers (stack_after calls) ids

unfoldable pub all_hold : List Situation → Bool
all_hold [] = true
all_hold (s ∷ rest) = holds s && all_hold rest

-- the table. An area's situation is that of its first axis; the second is there to tell the axes apart
abbrev pub situations : List Situation
situations =
    -- at 10 by its middle, 3/32 wide: 9.96875
    left_top_at (plus 10 1) 1 (plus 3 32) (plus 7 1) 0 (plus 5 1) (plus 996875 100000) (plus 7 1)
    -- at -10: -10.0625
    ∷ left_top_at (minus 10 1) 1 (plus 3 32) (plus 7 1) 2 (plus 5 1) (minus 100625 10000) (plus 2 1)
    -- the last key passes with every filter off, Tab does not
    ∷ key_matches 144 true
    ∷ key_matches 5 false
    -- spans 0 to 4 and 2 to 6: difference 0
    ∷ apart (plus 0 1) (plus 4 1) (plus 2 1) (plus 6 1) (plus 0 1)
    -- a candidate 0 to 4, the current one 2.03125 to 6.03125: -2.03125
    ∷ apart (plus 0 1) (plus 4 1) (plus 203125 100000) (plus 603125 100000) (minus 203125 100000)
    -- a span of no width that touches the other's edge, on either side: difference 0
    ∷ apart (plus 4 1) (plus 4 1) (plus 0 1) (plus 4 1) (plus 0 1)
    ∷ apart (plus 0 1) (plus 0 1) (plus 0 1) (plus 4 1) (plus 0 1)
    -- (1, 1) lies in the cone of Right and of Down, and in no other
    ∷ in_cone (plus 1 1) (plus 1 1) right true
    ∷ in_cone (plus 1 1) (plus 1 1) down true
    ∷ in_cone (plus 1 1) (plus 1 1) left false
    ∷ in_cone (plus 1 1) (plus 1 1) up false
    -- (0, 0) lies in no cone
    ∷ in_cone (plus 0 1) (plus 0 1) up false
    ∷ in_cone (plus 0 1) (plus 0 1) right false
    ∷ in_cone (plus 0 1) (plus 0 1) down false
    ∷ in_cone (plus 0 1) (plus 0 1) left false
    -- Right, candidates at (5, 0) and (4, 1): the second wins
    ∷ finds right (record { id = 1; rect = point_at (plus 5 1) (plus 0 1) } ∷ record { id = 2; rect = point_at (plus 4 1) (plus 1 1) } ∷ []) 2
    -- widgets 1, 2, 3, then 1 again to the top: list 2, 3, 1
    ∷ listed ((1, true) ∷ (3, false) ∷ (2, false) ∷ (1, false) ∷ []) (2 ∷ 3 ∷ 1 ∷ [])
    -- layers (1,5) (0,6) (1,7) (1,8), (1,5) raised: the stack is 6, 7, 8, 5
    ∷ stacked (MoveToTop (middle 5) ∷ []) (6 ∷ 7 ∷ 8 ∷ 5 ∷ [])
    -- the same, none raised, 5 a child of 8: 6, 7, 8, 5
    ∷ stacked (SetSublayer (middle 8) (middle 5) ∷ []) (6 ∷ 7 ∷ 8 ∷ 5 ∷ [])
    ∷ []
