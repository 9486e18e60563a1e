-- The begin of a pass that has no event, a Tab or a Shift+Tab, and the end of a pass with no arrow, on the fields of the focus. Assumes nothing.
use Rattle.std.specs.Prelude.{Option, None, Some}
use Prim.Native.Nat.{ℕ}
use mathlib.Core.Path.{◌≡◌, refl, ap, ◌∙◌}
use mathlib.Core.Bool.{Bool, true, false, cond, not, ◌&&◌, ◌||◌, and-false, false≢true}
use mathlib.Core.List.{List, [], ◌∷◌}
use lib.Dec.{eqb}
use borrow.Author.Tests.{eqb-true, eq-eqb, not-true}
use Rattle.input.specs.declared.Event.{Event}
use Rattle.input.specs.declared.Event.TheVariants.{Key, AccessKitFocus, Pointer, Zoom, Other}
use Rattle.input.specs.declared.EventFilter.{EventFilter}
use Rattle.input.specs.EventFilter.{matches_key}
use Rattle.input.specs.FocusDirection.{previous, next, no_direction, is_cardinal, navigation_of}
use Rattle.input.specs.Modifiers.{any_of, shift_only, shift, alt, ctrl, mac_cmd, command}
use Rattle.search.specs.declared.Candidate.{Candidate}
use Rattle.focus_rules.specs.declared.Nav.{Nav}
use Rattle.focus_rules.specs.declared.Heard.{Heard}
use Rattle.focus_rules.specs.declared.FocusWidget.{FocusWidget}
use Rattle.focus_rules.specs.Rules.{no_layer, focus_on, with_frames, with_direction, with_modals, reset_focus, filter_in, filter_of, started_of, nothing_heard, heard_of, begun_of, interested_of, found_of, dropped_of, ended_of}
use Rattle.focus_rules.specs.Page.{wanted_all, last_of}
use Rattle.focus_rules.proofs.Page.{yes, no}
use Rattle.focus_cache.specs.Cache.{has_id}
use Rattle.focus_pass.specs.Pass.{heard_all, is_granted, nav_begun}
use Rattle.focus_end.specs.End.{found_in, nav_ended}
use Rattle.ring.specs.Count.{is_tab, is_shift_tab}
use Rattle.ring.proofs.Places.{both}

-- ---- the keys, where the filter leaves Tab to the focus
or_any : (a b c d : Bool) → c ≡ true → (a || (b || (c || d))) ≡ true
or_any true b c d e = refl
or_any false true c d e = refl
or_any false false c d e = ap (λ (t : Bool). t || d) e

shift_any : (m : ℕ) → shift_only m ≡ true → any_of m ≡ true
unfolding any_of shift_only
shift_any m h = or_any (alt m) (ctrl m) (shift m) (mac_cmd m || command m) (both (shift m) (not (alt m || command m)) h).0

abbrev heard_to : ℕ → Heard
heard_to direction = record { escaped = 0; direction = direction; asked = 0 }

module _ (filter : EventFilter) (off : filter.tab ≡ false) where
  key_tab : (e : Event) → is_tab e ≡ true → heard_of filter nothing_heard e ≡ heard_to next
  unfolding is_tab matches_key navigation_of
  key_tab (Key key pressed repeat modifiers) h =
      let (k, r) = both (eqb key 5) (pressed && not (any_of modifiers)) h in
      let (p, a) = both pressed (not (any_of modifiers)) r in
      rw (eqb-true key 5 k, off, p, not-true (any_of modifiers) a)
  key_tab (AccessKitFocus id) h = absurd (false≢true h)
  key_tab (Pointer x y) h = absurd (false≢true h)
  key_tab (Zoom factor) h = absurd (false≢true h)
  key_tab Other h = absurd (false≢true h)

  key_shift_tab : (e : Event) → is_shift_tab e ≡ true → heard_of filter nothing_heard e ≡ heard_to previous
  unfolding is_shift_tab matches_key navigation_of
  key_shift_tab (Key key pressed repeat modifiers) h =
      let (k, r) = both (eqb key 5) (pressed && shift_only modifiers) h in
      let (p, s) = both pressed (shift_only modifiers) r in
      rw (eqb-true key 5 k, off, p, shift_any modifiers s, s)
  key_shift_tab (AccessKitFocus id) h = absurd (false≢true h)
  key_shift_tab (Pointer x y) h = absurd (false≢true h)
  key_shift_tab (Zoom factor) h = absurd (false≢true h)
  key_shift_tab Other h = absurd (false≢true h)

-- ---- the begin
abbrev pub aged : Nav → ℕ → Nav
aged n direction = with_direction (with_frames n n.focused n.id_previous_frame) direction

module _ (n : Nav) (held : List Candidate) where
  begun_to : (events : List Event) (direction : ℕ) → heard_all (filter_of (started_of n)) nothing_heard events ≡ heard_to direction → nav_begun n held events ≡ with_direction (started_of n) direction
  unfolding nav_begun begun_of is_granted
  begun_to events direction e = ap (λ (h : Heard). begun_of (started_of n) h (is_granted held h.asked)) e

  pub begun_quiet : nav_begun n held [] ≡ started_of n
  unfolding heard_all started_of
  begun_quiet = begun_to [] no_direction refl

  -- no id was set for this frame
  module _ (z : n.id_next_frame ≡ 0) where
    plain : started_of n ≡ aged n no_direction
    unfolding started_of
    plain = ap (λ (k : Nav). reset_focus k) (yes (eq-eqb _ _ z) _ _)

    pub begun_still : nav_begun n held [] ≡ aged n no_direction
    begun_still = begun_quiet ∙ plain

    module _ (off : n.filter.tab ≡ false) (e : Event) where
      still_off : (filter_of (started_of n)).tab ≡ false
      unfolding filter_of
      still_off = ap (λ (k : Nav). (filter_of k).tab) plain ∙ go (eqb n.focused 0)
        where
          go : (b : Bool) → (filter_in (cond {A = Option FocusWidget} b None (Some (record { id = n.focused; filter = n.filter })))).tab ≡ false
          go true = refl
          go false = off

      begun_key : (direction : ℕ) → heard_of (filter_of (started_of n)) nothing_heard e ≡ heard_to direction → nav_begun n held (e ∷ []) ≡ aged n direction
      unfolding heard_all
      begun_key direction h = begun_to (e ∷ []) direction h ∙ ap (λ (k : Nav). with_direction k direction) plain

      pub begun_tab : is_tab e ≡ true → nav_begun n held (e ∷ []) ≡ aged n next
      begun_tab h = begun_key next (key_tab (filter_of (started_of n)) still_off e h)

      pub begun_shift_tab : is_shift_tab e ≡ true → nav_begun n held (e ∷ []) ≡ aged n previous
      begun_shift_tab h = begun_key previous (key_shift_tab (filter_of (started_of n)) still_off e h)

-- ---- the end, where there was no arrow
module _ (n : Nav) (held used : List Candidate) where
  pub end_keeps : n.focus_direction ≡ no_direction → dropped_of n (has_id used n.focused) ≡ n → nav_ended n held used ≡ with_modals n n.top_modal_layer_current_frame no_layer
  unfolding nav_ended is_cardinal ended_of
  end_keeps d k =
      ap (λ (m : Nav). ended_of m (has_id used m.focused)) (no (ap is_cardinal d) (found_of n (found_in n held used)) n)
      ∙ ap (λ (m : Nav). with_modals m n.top_modal_layer_current_frame no_layer) k

  pub not_dropped : has_id used n.focused ≡ true → dropped_of n (has_id used n.focused) ≡ n
  not_dropped h = no (ap (λ (t : Bool). eqb n.id_previous_frame n.focused && not t) h ∙ and-false (eqb n.id_previous_frame n.focused)) _ _

-- ---- the last interested id: the end leaves it, with or without an arrow
module _ (n : Nav) (held used : List Candidate) where
  abbrev Keeps : Nav → Type 0
  Keeps m = m.last_interested ≡ n.last_interested

  either_keeps : (b : Bool) (x y : Nav) → Keeps x → Keeps y → Keeps (cond b x y)
  either_keeps true x y p q = p
  either_keeps false x y p q = q

  abbrev searched : Nav
  searched = cond (is_cardinal n.focus_direction) (found_of n (found_in n held used)) n

  search_keeps : Keeps searched
  unfolding found_of
  search_keeps = either_keeps (is_cardinal n.focus_direction) _ n (either_keeps (eqb (found_in n held used) 0) n (focus_on n (found_in n held used)) refl refl) refl

  pub end_last : Keeps (nav_ended n held used)
  unfolding nav_ended ended_of
  end_last = either_keeps (eqb searched.id_previous_frame searched.focused && not (has_id used searched.focused)) (focus_on searched 0) searched search_keeps search_keeps

-- ---- and the page sets it
pub page_last : (n : Nav) (ids : List ℕ) → (wanted_all n ids).last_interested ≡ last_of n.last_interested ids
unfolding wanted_all last_of interested_of
page_last n [] = refl
page_last n (x ∷ xs) = page_last (interested_of n x) xs
