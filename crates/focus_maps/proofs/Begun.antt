-- The begin of a pass: the fields that hear the events one by one mean what egui's loop makes of its own. Assumes nothing.
use mathlib.Core.Path.{◌≡◌, refl, sym, ap, ◌∙◌}
use mathlib.Core.Bool.{Bool, true, false, cond, not, ◌&&◌}
use mathlib.Core.List.{List, [], ◌∷◌}
use Rattle.std.specs.Prelude.{Option, None, Some}
use Prim.Native.Nat.{ℕ}
use native.Mathlib.Omega.{arith}
use lib.Dec.{eqb, ltb}
use lib.ListN.{length}
use Rattle.refusal.specs.Refusal.{bad_list, lowest}
use Rattle.refusal.specs.Limits.{events as eventsLimit}
use Rattle.refusal.proofs.Laws.{both_none}
use Rattle.input.specs.declared.Event.{Event}
use Rattle.input.specs.declared.Event.TheVariants.{Key, AccessKitFocus, Pointer, Zoom, Other}
use Rattle.input.specs.declared.EventFilter.{EventFilter}
use Rattle.input.specs.declared.Navigation.{Navigation}
use Rattle.input.specs.EventFilter.{matches_key}
use Rattle.input.specs.Event.{event_refusal}
use Rattle.input.specs.FocusDirection.{navigation_of, no_direction}
use Rattle.search.specs.declared.Candidate.{Candidate}
use Rattle.focus_rules.specs.declared.Nav.{Nav}
use Rattle.focus_rules.specs.declared.Heard.{Heard}
use Rattle.focus_rules.specs.Rules.{focus_on, with_direction, with_frames, with_give, with_next, reset_focus, started_of, filter_in, filter_of, nothing_heard, turned_by, heard_of, begun_of}
use Rattle.focus_cache.specs.Cache.{has_id}
use Rattle.focus_pass.specs.Pass.{begin_refusal, worst_of, heard_all, is_granted, nav_begun}
use Rattle.focus_maps.specs.Egui as Egui
use Rattle.focus_maps.specs.Calls.{option_of, meaning}
use Rattle.focus_maps.proofs.Means.{choose, id_taken, focused_means, on_means}

-- ---- nothing is refused of any event
accepted_worst : (events : List Event) → begin_refusal events ≡ 0 → worst_of 0 events ≡ 0
unfolding begin_refusal
accepted_worst events e = go (ltb eventsLimit (length events)) e
  where
    go : (t : Bool) → cond t bad_list (worst_of 0 events) ≡ 0 → worst_of 0 events ≡ 0
    go true e = absurd (omega arith)
    go false e = e

worst_none : (n : ℕ) (events : List Event) → worst_of n events ≡ 0 → n ≡ 0
unfolding worst_of
worst_none n [] h = h
worst_none n (e ∷ events) h = (both_none n (event_refusal e) (worst_none (lowest n (event_refusal e)) events h)).0

-- ---- before the events
started_means : (n : Nav) (c : List Candidate) → meaning (started_of n) c ≡ Egui.with_direction (Egui.handed_over (Egui.with_frames (meaning n c) (Egui.focused (meaning n c)) (meaning n c).id_previous_frame) (option_of n.id_next_frame)) no_direction
unfolding started_of
started_means n c = rw (focused_means n) (go (eqb n.id_next_frame 0) refl)
  where
    aged : Nav
    aged = with_frames n n.focused n.id_previous_frame

    go : (b : Bool) → eqb n.id_next_frame 0 ≡ b → meaning (reset_focus (cond b aged (focus_on (with_next aged 0) n.id_next_frame))) c ≡ Egui.with_direction (Egui.handed_over (meaning aged c) (cond b None (Some n.id_next_frame))) no_direction
    go true e = refl
    go false e = rw e

-- ---- the events
module _ (start : Nav) (c : List Candidate) (filter : EventFilter) where
  abbrev moved : Heard → Nav
  moved h = with_direction (cond (eqb h.escaped 0) start (focus_on start 0)) h.direction

  -- what comes after depends only on the fields so far and the id asked for
  module _ (k : Egui.Focus → Option ℕ → Egui.Focus) where
    turned : (h : Heard) (t : Navigation) → k (Egui.moved (meaning (moved h) c) t) (option_of h.asked) ≡ k (meaning (moved (turned_by h t)) c) (option_of (turned_by h t).asked)
    turned h Navigation.Unchanged = refl
    turned h (Navigation.Direction d) = refl
    turned h Navigation.Escape = go (eqb h.escaped 0)
      where
        go : (b : Bool) → k (Egui.reset_focus (Egui.with_widget (meaning (with_direction (cond b start (focus_on start 0)) h.direction) c) None)) (option_of h.asked) ≡ k (meaning (reset_focus (focus_on start 0)) c) (option_of h.asked)
        go true = refl
        go false = refl

    heard : (h : Heard) (e : Event) → event_refusal e ≡ 0 → k (Egui.navigated filter (meaning (moved h) c) e) (Egui.requested_by (option_of h.asked) e) ≡ k (meaning (moved (heard_of filter h e)) c) (option_of (heard_of filter h e).asked)
    heard h (Key key pressed repeat modifiers) r = go (not (matches_key filter key) && pressed)
      where
        t : Navigation
        t = navigation_of key modifiers

        go : (b : Bool) → k (cond b (Egui.moved (meaning (moved h) c) t) (meaning (moved h) c)) (option_of h.asked) ≡ k (meaning (moved (cond b (turned_by h t) h)) c) (option_of (cond b (turned_by h t) h).asked)
        go true = turned h t
        go false = refl
    heard h (AccessKitFocus id) r = rw (id_taken id r)
    heard h (Pointer x y) r = refl
    heard h (Zoom factor) r = refl
    heard h Other r = refl

  heard_all_lem : (h : Heard) (n : ℕ) (events : List Event) → worst_of n events ≡ 0 → Egui.events_heard filter (meaning (moved h) c) (option_of h.asked) events
      ≡ meaning (begun_of start (heard_all filter h events) (is_granted c (heard_all filter h events).asked)) c
  unfolding worst_of Egui.events_heard heard_all begun_of is_granted
  heard_all_lem h n [] r = go (eqb h.asked 0) refl
    where
      go : (b : Bool) → eqb h.asked 0 ≡ b → Egui.newly_focused (meaning (moved h) c) (cond b None (Some h.asked)) ≡ meaning (cond (not b && has_id c h.asked) (reset_focus (with_give (focus_on (moved h) h.asked) false)) (moved h)) c
      go true e = refl
      go false e = sym (choose {b = has_id c h.asked} refl c _ _ _ _ (ap (λ (m : Egui.Focus). Egui.reset_focus (Egui.with_give m false)) (on_means (moved h) c h.asked e)) refl)
  heard_all_lem h n (e ∷ events) r =
      heard (λ m asked. Egui.events_heard filter m asked events) h e (both_none n (event_refusal e) (worst_none (lowest n (event_refusal e)) events r)).1
      ∙ heard_all_lem (heard_of filter h e) (lowest n (event_refusal e)) events r

pub begin_means : (n : Nav) (c : List Candidate) (events : List Event) → begin_refusal events ≡ 0 → meaning (nav_begun n c events) c ≡ Egui.begin_pass (meaning n c) events
unfolding nav_begun Egui.begin_pass filter_of started_of
begin_means n c events r =
    sym (heard_all_lem (started_of n) c (filter_of (started_of n)) nothing_heard 0 events (accepted_worst events r))
    ∙ ap (λ (m : Egui.Focus). Egui.events_heard (filter_in m.focused_widget) m None events) (started_means n c)
