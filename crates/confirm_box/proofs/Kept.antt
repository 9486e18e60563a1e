-- Every call leaves an id kept out that is, but for three; and one that is ignored is not focused before some. Assumes nothing.
use Rattle.std.specs.Prelude.{ℕ, Bool, true, false, cond, ◌&&◌, ◌≡◌, Option, None, Some, List, take, eqb}
use mathlib.Core.Bool.{and-true}
use mathlib.Core.Path.{refl, sym, ap, ◌∙◌, subst}
use mathlib.Core.Bool.{true≢false}
use borrow.Author.Tests.{not-true, eqb-true}
use Rattle.input.specs.declared.Event.{Event}
use Rattle.search.specs.declared.Candidate.{Candidate}
use Rattle.focus_cache.specs.Cache.{has_id, enlisted, without}
use Rattle.focus_rules.specs.Rules.{id_or_nothing}
use Rattle.focus_pass.specs.Pass.{ignore_of}
use Rattle.focus.specs.Focus as ByValue
use Rattle.focus_maps.specs.Egui.{Focus, is, focused, with_widget, with_frames, with_cache, handed_over, begin_pass, interested_in_focus, end_pass, surrender_focus, ignore_focus}
use Rattle.focus_maps.proofs.Means.{focused_means}
use Rattle.memory_rules.specs.declared.Memory.{Memory}
use Rattle.memory_rules.specs.State.{nav_of}
use Rattle.memory_rules.specs.Memory.{is_allowed, ignored_of}
use Rattle.memory_rules.specs.Calls.{Call, IgnoreFocus, done_by}
use Rattle.confirm_box.specs.KeptOut.{is_focused, waits, was_last, is_cached, kept_out, asks_for, is_let_through, lets_in, may_bring, may_focus, run, none_is}
use Rattle.confirm_box.proofs.Egui.{both, widget_is, is_same, other_id, not_enlisted, not_without, itself_without, not_updated}
use Rattle.confirm_box.proofs.Methods.{Moves, Finds, Hands, all_heard, ended, ruled_keeps, letgo_keeps}
use Rattle.confirm_box.proofs.Calls.{focus_in, focus_after, leaves, Methods, keeps, unless_refused, throughout}

-- 0 is no id
nothing_is : (id p : ℕ) → p ≡ 0 → is (id_or_nothing id) p ≡ false
nothing_is id p z = rw z (go (eqb id 0) refl)
  where
    go : (b : Bool) → eqb id 0 ≡ b → is (cond b None (Some id)) 0 ≡ false
    go true e = refl
    go false e = e

-- a call that is let through and does not name p is for another
pub another : (p id : ℕ) (allowed : Bool) → allowed ≡ true → (eqb id p && allowed) ≡ false → eqb id p ≡ false
another p id allowed e h = sym (rw e (and-true (eqb id p))) ∙ h

module _ (p : ℕ) where
  -- ---- p is neither focused nor cached; nor the id last interested, nor the id of the next frame
  abbrev pub Unfocused : Focus → Type 0
  Unfocused f = (is (focused f) p ≡ false) × (has_id f.focus_widgets_cache p ≡ false)

  abbrev pub KeptOut : Focus → Type 0
  KeptOut f = Unfocused f × (is f.last_interested p ≡ false) × (is f.id_next_frame p ≡ false)

  pub unfocused_moves : Moves Unfocused
  unfocused_moves = record { turn = λ f d k. k; give = λ f on k. k; drop = λ f k. (refl, k.1); filter = λ f id filter e k. (is_same (focused f) id p e k.0, k.1) }

  pub unfocused_finds : Finds Unfocused
  unfocused_finds f id e k = (other_id p f.focus_widgets_cache id k.1 e, k.1)

  kept_moves : Moves KeptOut
  kept_moves = record { turn = λ f d k. k; give = λ f on k. k; drop = λ f k. ((refl, k.0.1), k.1, k.2); filter = λ f id filter e k. ((is_same (focused f) id p e k.0.0, k.0.1), k.1, k.2) }

  kept_finds : Finds KeptOut
  kept_finds f id e k = (unfocused_finds f id e k.0, k.1, k.2)

  kept_hands : Hands KeptOut
  kept_hands = (λ f k. ((widget_is f.last_interested p ∙ k.1, k.0.1), k.1, k.2), λ f k. (k.0, k.1, k.1))

  -- ---- begin and end
  handed : (f : Focus) (o : Option ℕ) → is o p ≡ false → KeptOut f → KeptOut (handed_over f o)
  handed f None h k = k
  handed f (Some id) h k = ((h, k.0.1), k.1, refl)

  pub begin_kept : (events : List Event) (f : Focus) → KeptOut f → KeptOut (begin_pass f events)
  unfolding begin_pass
  begin_kept events f k = all_heard KeptOut kept_moves kept_finds events _ _ None (handed (with_frames f (focused f) f.id_previous_frame) f.id_next_frame k.2 k)

  pub end_unfocused : (used : List Candidate) (f : Focus) → Unfocused f → Unfocused (end_pass f used)
  unfolding end_pass
  end_unfocused used f u = ended Unfocused unfocused_moves unfocused_finds used (λ g v. (v.0, not_updated p used g.focus_widgets_cache v.1)) f u

  end_kept : (used : List Candidate) (f : Focus) → KeptOut f → KeptOut (end_pass f used)
  unfolding end_pass
  end_kept used f k = ended KeptOut kept_moves kept_finds used (λ g v. ((v.0.0, not_updated p used g.focus_widgets_cache v.0.1), v.1, v.2)) f k

  -- ---- interest for another id, ignore of any
  interest_kept : (id : ℕ) → eqb id p ≡ false → (f : Focus) → KeptOut f → KeptOut (interested_in_focus f id)
  unfolding interested_in_focus
  interest_kept id n f k =
      let r = ruled_keeps KeptOut kept_moves id (λ g v. ((n, v.0.1), v.1, v.2)) kept_hands (with_cache f (enlisted f.focus_widgets_cache id)) ((k.0.0, not_enlisted p f.focus_widgets_cache id n k.0.1), k.1, k.2) in
      (r.0, n, r.2)

  pub ignore_unfocused : (id : ℕ) (f : Focus) → Unfocused f → Unfocused (ignore_focus f id)
  unfolding ignore_focus
  ignore_unfocused id f u = letgo_keeps Unfocused unfocused_moves (with_cache f (without f.focus_widgets_cache id)) id (u.0, not_without p f.focus_widgets_cache id u.1)

  ignore_kept : (id : ℕ) (f : Focus) → KeptOut f → KeptOut (ignore_focus f id)
  unfolding ignore_focus
  ignore_kept id f k = letgo_keeps KeptOut kept_moves (with_cache f (without f.focus_widgets_cache id)) id ((k.0.0, not_without p f.focus_widgets_cache id k.0.1), k.1, k.2)

  -- p itself, ignored
  pub ignore_itself : (f : Focus) → Unfocused (ignore_focus f p)
  unfolding ignore_focus surrender_focus
  ignore_itself f = go (is (focused f) p) refl
    where
      g : Focus
      g = with_cache f (without f.focus_widgets_cache p)

      go : (b : Bool) → is (focused f) p ≡ b → Unfocused (cond b (with_widget g None) g)
      go true e = (refl, itself_without p f.focus_widgets_cache)
      go false e = (e, itself_without p f.focus_widgets_cache)

  -- ---- the definition
  pub in_words : (m : Memory) → kept_out m p ≡ true → KeptOut (focus_in m)
  unfolding kept_out
  in_words m h =
      let (a, r) = both _ _ h in
      let (b, s) = both _ _ r in
      let (c, d) = both _ _ s in
      ((ap (λ (o : Option ℕ). is o p) (focused_means (nav_of m)) ∙ not-true (is_focused m p) a, not-true (is_cached m p) d), not-true (was_last m p) c, not-true (waits m p) b)

  pub is_kept : (m : Memory) → KeptOut (focus_in m) → kept_out m p ≡ true
  unfolding kept_out
  is_kept m (u, l, n) = rw (← focused_means (nav_of m), u.0, u.1, l, n)

  pub not_focused : (m : Memory) → Unfocused (focus_in m) → is_focused m p ≡ false
  not_focused m u = rw (← focused_means (nav_of m)) u.0

  pub kept_unfocused : (m : Memory) → kept_out m p ≡ true → is_focused m p ≡ false
  kept_unfocused m k = not_focused m (in_words m k).0

  -- ---- every call that is taken
  abbrev pub asked : Memory → Call → Bool
  asked m call = asks_for p call && is_let_through m call

  module _ (m : Memory) where
    kept_methods : Methods m KeptOut (λ call. asked m call ≡ false)
    kept_methods = record {
      begin = λ events ok. begin_kept events;
      want = λ id layer ok allowed. interest_kept id (another p id (is_allowed m layer) allowed ok);
      end = λ used ok. end_kept used;
      ask = λ id ok f k. ((another p id true refl ok, k.0.1), k.1, k.2);
      ask_next = λ id ok f k. (k.0, k.1, another p id true refl ok);
      ignore = ignore_kept;
      set = λ layer ok f k. k;
    }

    unfocused_methods : Methods m Unfocused (λ call. may_bring p m call ≡ false)
    unfocused_methods = record {
      begin = λ events ok. absurd (true≢false ok);
      want = λ id layer ok allowed. absurd (true≢false (sym allowed ∙ ok));
      end = λ used ok. end_unfocused used;
      ask = λ id ok f k. (ok, k.1);
      ask_next = λ id ok f k. k;
      ignore = ignore_unfocused;
      set = λ layer ok f k. k;
    }

    -- refused or not
    pub call_kept : (call : Call) → kept_out m p ≡ true → lets_in p m call ≡ false → kept_out (done_by call m).memory p ≡ true
    unfolding lets_in
    call_kept call h ok = unless_refused (λ k. kept_out k p ≡ true) m call (λ t. is_kept (done_by call m).memory (keeps m KeptOut _ kept_moves kept_methods call (rw t at ok) (in_words m h))) h

    unfocused_call : (call : Call) → may_focus p m call ≡ false → Unfocused (focus_in m) → Unfocused (focus_in (done_by call m).memory)
    unfolding may_focus
    unfocused_call call ok u = unless_refused (λ k. Unfocused (focus_in k)) m call (λ t. keeps m Unfocused _ unfocused_moves unfocused_methods call (rw t at ok) u) u

  -- ---- ignored
  pub list_kept : (m : Memory) (calls : List Call) → kept_out m p ≡ true → none_is (lets_in p) m calls ≡ true → (n : ℕ) → (kept_out (run m (take n calls)) p ≡ true) × (is_focused (run m (take n calls)) p ≡ false)
  list_kept m calls k h n =
      let kept = throughout (λ k. kept_out k p ≡ true) (lets_in p) (λ k call ok h. call_kept k call h ok) calls m k h n in
      (kept, kept_unfocused (run m (take n calls)) kept)

  pub ignored : (m : Memory) → eqb p 0 ≡ false → Unfocused (focus_in (done_by (IgnoreFocus p) m).memory)
  unfolding done_by focus_after ignored_of ByValue.ignored_of ignore_of
  ignored m h = subst Unfocused (sym (leaves m (IgnoreFocus p)).1) (rw h (ignore_itself (focus_in m)))

  pub ignored_stays : (m : Memory) (calls : List Call) → none_is (may_focus p) (done_by (IgnoreFocus p) m).memory calls ≡ true → (n : ℕ) → is_focused (run (done_by (IgnoreFocus p) m).memory (take n calls)) p ≡ false
  ignored_stays m calls h n = go (eqb p 0) refl
    where
      first : Memory
      first = (done_by (IgnoreFocus p) m).memory

      go : (b : Bool) → eqb p 0 ≡ b → is_focused (run first (take n calls)) p ≡ false
      go true z = nothing_is (nav_of (run first (take n calls))).focused p (eqb-true p 0 z)
      go false z = not_focused (run first (take n calls)) (throughout (λ k. Unfocused (focus_in k)) (may_focus p) unfocused_call calls first (ignored m z) h n)
