-- Focus of memory/mod.rs (lines 503 to 538) without its cache, and what its methods and those of Memory do to these fields (lines 563 to 706 and 908 to 957). Definitions only.
use Rattle.std.specs.Prelude.{ℕ, Bool, true, false, not, ◌&&◌, cond, Option, None, Some, eqb}
use Rattle.refusal.specs.Refusal.{kept}
use Rattle.input.specs.declared.Event.{Event}
use Rattle.input.specs.declared.Event.TheVariants.{Key, AccessKitFocus, Pointer, Zoom, Other}
use Rattle.input.specs.declared.EventFilter.{EventFilter}
use Rattle.input.specs.declared.Navigation.{Navigation}
use Rattle.input.specs.EventFilter.{default_filter, matches_key}
use Rattle.input.specs.FocusDirection.{previous, next, no_direction, navigation_of}
use Rattle.layers.specs.declared.LayerId.{LayerId}
use Rattle.focus_rules.specs.declared.Nav.{Nav}
use Rattle.focus_rules.specs.declared.Heard.{Heard}
use Rattle.focus_rules.specs.declared.FocusWidget.{FocusWidget}

-- ---- some fields anew
module _ (n : Nav) where
  abbrev pub with_focus : ℕ → EventFilter → Nav
  with_focus id filter = record n { focused = id; filter = filter }

  -- `focused_widget = Some(FocusWidget::new(id))`; of id 0, `None`
  abbrev pub focus_on : ℕ → Nav
  focus_on id = with_focus id default_filter

  abbrev pub with_frames : ℕ → ℕ → Nav
  with_frames last before = record n { id_previous_frame = last; id_two_frames_ago = before }

  abbrev pub with_next : ℕ → Nav
  with_next id = record n { id_next_frame = id }

  abbrev pub with_give : Bool → Nav
  with_give give = record n { give_to_next = give }

  abbrev pub with_last : ℕ → Nav
  with_last id = record n { last_interested = id }

  abbrev pub with_direction : ℕ → Nav
  with_direction direction = record n { focus_direction = direction }

  abbrev pub with_modals : LayerId → LayerId → Nav
  with_modals top current = record n { top_modal_layer = top; top_modal_layer_current_frame = current }

  -- reset_focus
  abbrev pub reset_focus : Nav
  reset_focus = with_direction no_direction

-- a layer of id 0 is none
abbrev pub no_layer : LayerId
no_layer = record { order = 0; id = 0 }

-- Focus::default(), but for the cache
abbrev pub new_nav : Nav
new_nav = record { focused = 0; filter = default_filter; id_previous_frame = 0; id_two_frames_ago = 0; id_next_frame = 0; give_to_next = false; last_interested = 0; focus_direction = no_direction; top_modal_layer = no_layer; top_modal_layer_current_frame = no_layer }

-- ---- what the fields say
abbrev pub focused_widget : Nav → Option FocusWidget
focused_widget n = cond (eqb n.focused 0) None (Some (record { id = n.focused; filter = n.filter }))

-- `map(|w| w.filter).unwrap_or_default()`
abbrev pub filter_in : Option FocusWidget → EventFilter
filter_in None = default_filter
filter_in (Some w) = w.filter

unfoldable pub filter_of : Nav → EventFilter
filter_of n = filter_in (focused_widget n)

abbrev pub id_or_nothing : ℕ → Option ℕ
id_or_nothing id = cond (eqb id 0) None (Some id)

abbrev pub layer_or_nothing : LayerId → Option LayerId
layer_or_nothing layer = cond (eqb layer.id 0) None (Some layer)

-- ---- begin_pass (lines 569 to 633): up to the events
abbrev pub handed_over : Nav → Nav
handed_over n = cond (eqb n.id_next_frame 0) n (focus_on (with_next n 0) n.id_next_frame)

unfoldable pub started_of : Nav → Nav
started_of n = reset_focus (handed_over (with_frames n n.focused n.id_previous_frame))

-- each event, with the filter that was read before
abbrev pub nothing_heard : Heard
nothing_heard = record { escaped = 0; direction = no_direction; asked = 0 }

abbrev pub turned_by : Heard → Navigation → Heard
turned_by h Navigation.Unchanged = h
turned_by h (Navigation.Direction d) = record h { direction = d }
turned_by h Navigation.Escape = record h { escaped = 1; direction = no_direction }

abbrev pub heard_of : EventFilter → Heard → Event → Heard
heard_of filter h (Key key pressed repeat modifiers) = cond (not (matches_key filter key) && pressed) (turned_by h (navigation_of key modifiers)) h
heard_of filter h (AccessKitFocus id) = record h { asked = id }
heard_of filter h (Pointer x y) = h
heard_of filter h (Zoom factor) = h
heard_of filter h Other = h

-- what they come to; `cached` says that an id was asked for which the cache holds
unfoldable pub begun_of : Nav → Heard → Bool → Nav
begun_of n h cached =
    let moved = with_direction (cond (eqb h.escaped 0) n (focus_on n 0)) h.direction in
    cond cached (reset_focus (with_give (focus_on moved h.asked) false)) moved

-- ---- interested_in_focus (lines 659 to 694), after the cache's part: the first rule that fits
abbrev pub gives : Nav → ℕ → Bool
gives n id = n.give_to_next && not (eqb n.id_previous_frame id)

abbrev pub is_idle : Nav → Bool
is_idle n = eqb n.focused 0 && not n.give_to_next

abbrev pub ruled : Nav → ℕ → Nav
ruled n id =
    cond (gives n id) (with_give (focus_on n id) false)
    (cond (eqb n.focused id)
    (cond (eqb n.focus_direction next) (reset_focus (with_give (focus_on n 0) true))
    (cond (eqb n.focus_direction previous) (reset_focus (with_next n n.last_interested)) n))
    (cond (eqb n.focus_direction next && is_idle n) (reset_focus (focus_on n id))
    (cond (eqb n.focus_direction previous && is_idle n) (reset_focus (focus_on n n.last_interested)) n)))

unfoldable pub interested_of : Nav → ℕ → Nav
interested_of n id = with_last (ruled n id) id

-- ---- end_pass (lines 635 to 653): what the search found, 0 for nothing; then the focus that disappeared, and the modal layer
unfoldable pub found_of : Nav → ℕ → Nav
found_of n id = cond (eqb id 0) n (focus_on n id)

-- `used` says that the focused id is among the used ids; a focus of none is none after it, too
abbrev pub dropped_of : Nav → Bool → Nav
dropped_of n used = cond (eqb n.id_previous_frame n.focused && not used) (focus_on n 0) n

unfoldable pub ended_of : Nav → Bool → Nav
ended_of n used = with_modals (dropped_of n used) n.top_modal_layer_current_frame no_layer

-- ---- the calls of Memory on these fields (lines 908 to 957)
-- what a call comes to: by what number it is refused, 0 for none, and the fields after it
pub record Changed : Type 0 where
  pub refusal : ℕ
  pub nav : Nav

-- the next fields, unless the call is refused
abbrev pub changed_to : ℕ → Nav → Nav → Changed
changed_to k n m = record { refusal = k; nav = kept k n m }

-- surrender_focus, ignore_focus: `if focus.focused() == Some(id) { focus.focused_widget = None }`
unfoldable pub let_go : Nav → ℕ → Nav
let_go n id = cond (eqb n.focused id) (focus_on n 0) n

-- set_focus_lock_filter
unfoldable pub filtered_of : Nav → ℕ → EventFilter → Nav
filtered_of n id filter = cond (eqb n.id_previous_frame id && eqb n.focused id) (with_focus n n.focused filter) n
