-- What egui's methods keep: whatever the few changes keep that they are made of. Assumes nothing.
use Rattle.std.specs.Prelude.{ℕ, Bool, true, false, cond, not, ◌&&◌, ◌≡◌, Option, None, Some, List, [], ◌∷◌, eqb}
use mathlib.Core.Path.{refl}
use Rattle.emath.specs.declared.Rect.{Rect}
use Rattle.input.specs.declared.Event.{Event}
use Rattle.input.specs.declared.Event.TheVariants.{Key, AccessKitFocus, Pointer, Zoom, Other}
use Rattle.input.specs.declared.EventFilter.{EventFilter}
use Rattle.input.specs.declared.Navigation.{Navigation}
use Rattle.input.specs.EventFilter.{matches_of}
use Rattle.input.specs.FocusDirection.{previous, next, no_direction, is_cardinal, navigation_of}
use Rattle.search.specs.declared.Candidate.{Candidate}
use Rattle.search.specs.Search.{find_of}
use Rattle.focus_rules.specs.declared.FocusWidget.{FocusWidget}
use Rattle.focus_cache.specs.Cache.{has_id}
use Rattle.focus_end.specs.End.{rect_in, updated}
use Rattle.focus_maps.specs.Egui.{Focus, is, is_none, new_widget, widget_of, focused, had_focus_last_frame, with_widget, with_next, with_give, with_direction, with_cache, reset_focus, moved, navigated, requested_by, newly_focused, events_heard, ruled, searched, directed, disappeared, surrender_focus, set_focus_lock_filter}
use Rattle.confirm_box.proofs.Egui.{either, found_cached}

-- ---- the changes
pub record Moves (P : Focus → Type 0) : Type 0 where
  pub turn : (f : Focus) (direction : ℕ) → P f → P (with_direction f direction)
  pub give : (f : Focus) (on : Bool) → P f → P (with_give f on)
  pub drop : (f : Focus) → P f → P (with_widget f None)
  pub filter : (f : Focus) (id : ℕ) (filter : EventFilter) → is (focused f) id ≡ true → P f → P (with_widget f (Some (record { id = id; filter = filter })))

-- an id of the cache is focused
abbrev pub Finds : (Focus → Type 0) → Type 0
Finds P = (f : Focus) (id : ℕ) → has_id f.focus_widgets_cache id ≡ true → P f → P (with_widget f (Some (new_widget id)))

-- the id last interested is focused, or waits for the next begin
abbrev pub Hands : (Focus → Type 0) → Type 0
Hands P = ((f : Focus) → P f → P (with_widget f (widget_of f.last_interested))) × ((f : Focus) → P f → P (with_next f f.last_interested))

module _ (P : Focus → Type 0) (m : Moves P) where
  module _ (finds : Finds P) where
    -- ---- the events of begin_pass
    turned : (f : Focus) (t : Navigation) → P f → P (moved f t)
    turned f Navigation.Unchanged k = k
    turned f (Navigation.Direction d) k = m.turn f d k
    turned f Navigation.Escape k = m.turn (with_widget f None) no_direction (m.drop f k)

    heard : (filter : EventFilter) (f : Focus) (e : Event) → P f → P (navigated filter f e)
    heard filter f (Key key pressed repeat modifiers) k = either P (not (matches_of filter (Key key pressed repeat modifiers)) && pressed) (turned f (navigation_of key modifiers) k) k
    heard filter f (AccessKitFocus id) k = k
    heard filter f (Pointer x y) k = k
    heard filter f (Zoom factor) k = k
    heard filter f Other k = k

    asked_for : (f : Focus) (o : Option ℕ) → P f → P (newly_focused f o)
    asked_for f None k = k
    asked_for f (Some id) k = go (has_id f.focus_widgets_cache id) refl
      where
        go : (b : Bool) → has_id f.focus_widgets_cache id ≡ b → P (cond b (reset_focus (with_give (with_widget f (Some (new_widget id))) false)) f)
        go true e = m.turn _ no_direction (m.give (with_widget f (Some (new_widget id))) false (finds f id e k))
        go false e = k

    pub all_heard : (events : List Event) (filter : EventFilter) (f : Focus) (o : Option ℕ) → P f → P (events_heard filter f o events)
    unfolding events_heard
    all_heard [] filter f o k = asked_for f o k
    all_heard (e ∷ events) filter f o k = all_heard events filter (navigated filter f e) (requested_by o e) (heard filter f e k)

    -- ---- the search and the focus that disappeared, of end_pass
    found : (f : Focus) (id : ℕ) (r : Option Rect) → P f → P (searched f id r)
    found f id None k = k
    found f id (Some current) k = go (eqb it 0) refl
      where
        it : ℕ
        it = find_of f.focus_widgets_cache id current f.focus_direction

        go : (b : Bool) → eqb it 0 ≡ b → P (cond b f (with_widget f (Some (new_widget it))))
        go true e = k
        go false e = finds f it (found_cached id current f.focus_direction f.focus_widgets_cache e) k

    directed_keeps : (used : List Candidate) → ((f : Focus) → P f → P (with_cache f (updated used f.focus_widgets_cache))) → (f : Focus) (w : Option FocusWidget) → P f → P (directed f w used)
    directed_keeps used update f None k = k
    directed_keeps used update f (Some w) k = found _ w.id (rect_in (updated used f.focus_widgets_cache) w.id) (update f k)

    gone : (f : Focus) (w : Option FocusWidget) (used : List Candidate) → P f → P (disappeared f w used)
    gone f None used k = k
    gone f (Some w) used k = either P (had_focus_last_frame f w.id && not (has_id used w.id)) (m.drop f k) k

    -- what end_pass does before the modal layer
    pub ended : (used : List Candidate) → ((f : Focus) → P f → P (with_cache f (updated used f.focus_widgets_cache))) → (f : Focus) → P f
        → (let g = cond (is_cardinal f.focus_direction) (directed f f.focused_widget used) f in P (disappeared g g.focused_widget used))
    ended used update f k =
        let g = cond (is_cardinal f.focus_direction) (directed f f.focused_widget used) f in
        gone g g.focused_widget used (either P (is_cardinal f.focus_direction) (directed_keeps used update f f.focused_widget k) k)

  -- ---- the rules of interested_in_focus
  pub ruled_keeps : (id : ℕ) → ((f : Focus) → P f → P (with_widget f (Some (new_widget id)))) → Hands P → (f : Focus) → P f → P (ruled f id)
  ruled_keeps id on (to_last, wait_last) f k =
      either P (f.give_to_next && not (had_focus_last_frame f id)) (m.give _ false (on f k))
      (either P (is (focused f) id)
      (either P (eqb f.focus_direction next) (m.turn _ no_direction (m.give _ true (m.drop f k))) (either P (eqb f.focus_direction previous) (m.turn _ no_direction (wait_last f k)) k))
      (either P (eqb f.focus_direction next && (is_none f.focused_widget && not f.give_to_next)) (m.turn _ no_direction (on f k))
      (either P (eqb f.focus_direction previous && (is_none f.focused_widget && not f.give_to_next)) (m.turn _ no_direction (to_last f k)) k)))

  -- ---- surrender_focus, set_focus_lock_filter
  pub letgo_keeps : (f : Focus) (id : ℕ) → P f → P (surrender_focus f id)
  unfolding surrender_focus
  letgo_keeps f id k = either P (is (focused f) id) (m.drop f k) k

  pub filter_keeps : (f : Focus) (id : ℕ) (filter : EventFilter) → P f → P (set_focus_lock_filter f id filter)
  unfolding set_focus_lock_filter
  filter_keeps f id filter k = go (had_focus_last_frame f id) (is (focused f) id) refl
    where
      go : (b c : Bool) → is (focused f) id ≡ c → P (cond (b && c) (with_widget f (Some (record { id = id; filter = filter }))) f)
      go false c e = k
      go true false e = k
      go true true e = m.filter f id filter e k
