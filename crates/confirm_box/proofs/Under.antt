-- While its modal layer is set in every pass, a box keeps a modal layer of its Order or a higher one in force, and so turns interest calls of lower layers away. Assumes nothing.
use Rattle.std.specs.Prelude.{ℕ, zero, suc, Bool, true, false, cond, not, ◌&&◌, ◌||◌, ◌≡◌, Option, None, Some, List, [], ◌∷◌, take, eqb, ltb, leb}
use mathlib.Core.Path.{refl, sym, ◌∙◌, subst}
use mathlib.Core.Bool.{false≢true, or-false, and-false}
use native.Mathlib.Omega.{arith}
use borrow.Author.Tests.{not-true, ne_eqb}
use Rattle.std.proofs.lemmas.Bool.{leb-true, le-leb, ltb-true}
use Rattle.std.specs.List.{list_all}
use Rattle.refusal.specs.Refusal.{kept}
use Rattle.refusal.specs.Limits.{used as usedLimit}
use Rattle.input.specs.declared.Event.{Event}
use Rattle.layers.specs.declared.LayerId.{LayerId}
use Rattle.layers.specs.Layers.{layer_refusal}
use Rattle.search.specs.declared.Candidate.{Candidate}
use Rattle.used.specs.Used.{used_refusal}
use Rattle.focus_end.specs.End.{end_of}
use Rattle.focus_cache.specs.Cache.{enlisted}
use Rattle.focus_rules.specs.Rules.{layer_or_nothing}
use Rattle.focus_maps.specs.Egui.{Focus, focused, with_frames, with_cache, handed_over, begin_pass, interested_in_focus, end_pass, set_modal_layer, ignore_focus}
use Rattle.memory_rules.specs.declared.Memory.{Memory}
use Rattle.memory_rules.specs.State.{nav_of}
use Rattle.memory_rules.specs.Memory.{is_allowed, stays_modal, is_below, ended_of, modal_set}
use Rattle.memory_rules.specs.Calls.{Call, Interest, End, SetModalLayer, done_by}
use Rattle.confirm_box.specs.KeptOut.{is_focused, is_taken, asks_for, is_let_through, kept_out, lets_in, none_is, run}
use Rattle.confirm_box.specs.Modal.{is_modal_of, in_force, is_set, ends_pass, now_after, is_lower, set_in_every_pass, asks_from_below, now_through, asks_by_rule, has_ended, keeps_under}
use Rattle.confirm_box.proofs.Egui.{both}
use Rattle.confirm_box.proofs.Methods.{Moves, all_heard, ended, ruled_keeps, letgo_keeps}
use Rattle.confirm_box.proofs.Calls.{focus_in, focus_after, leaves, Methods, keeps}
use Rattle.confirm_box.proofs.Kept.{call_kept, kept_unfocused}
use Rattle.confirm_box.proofs.Modal.{under_away, lower_below, below_lower, not_below_lower}

suc_some : (r : ℕ) → eqb (suc r) 0 ≡ false
suc_some r = ne_eqb (suc r) 0 (λ e. omega arith)

-- a modal layer of this Order or a higher one
abbrev pub at_least : ℕ → Option LayerId → Bool
at_least order None = false
at_least order (Some modal) = leb order modal.order

pub modal_means : (order : ℕ) (modal : LayerId) → at_least order (layer_or_nothing modal) ≡ is_modal_of order modal
modal_means order modal = go (eqb modal.id 0)
  where
    go : (b : Bool) → at_least order (cond b None (Some modal)) ≡ (not b && leb order modal.order)
    go true = refl
    go false = refl

-- ---- a layer of a lower Order than the modal layer in force
lower_away : (order : ℕ) (m : Memory) (layer : LayerId) → in_force order m ≡ true → ltb layer.order order ≡ true → is_allowed m layer ≡ false
lower_away order m layer h k =
    let modal = (nav_of m).top_modal_layer in
    let (a, b) = both (not (eqb modal.id 0)) (leb order modal.order) h in
    under_away m layer (rw (not-true (eqb modal.id 0) a) (lower_below m layer modal (omega (arith, leb-true order modal.order b, ltb-true layer.order order k))))

-- ---- what the flags say of the focus
module _ (order : ℕ) where
  abbrev pub Flags : Bool → Bool → Focus → Type 0
  Flags last now f = (last ≡ true → at_least order f.top_modal_layer ≡ true) × (now ≡ true → at_least order f.top_modal_layer_current_frame ≡ true)

  module _ (last now : Bool) where
    flag_moves : Moves (Flags last now)
    flag_moves = record { turn = λ f d k. k; give = λ f on k. k; drop = λ f k. k; filter = λ f id filter e k. k }

    handed : (f : Focus) (o : Option ℕ) → Flags last now f → Flags last now (handed_over f o)
    handed f None k = k
    handed f (Some id) k = k

    begin_flags : (events : List Event) (f : Focus) → Flags last now f → Flags last now (begin_pass f events)
    unfolding begin_pass
    begin_flags events f k = all_heard (Flags last now) flag_moves (λ g id e v. v) events _ _ None (handed (with_frames f (focused f) f.id_previous_frame) f.id_next_frame k)

    interest_flags : (id : ℕ) (f : Focus) → Flags last now f → Flags last now (interested_in_focus f id)
    unfolding interested_in_focus
    interest_flags id f k = ruled_keeps (Flags last now) flag_moves id (λ g v. v) (λ g v. v, λ g v. v) (with_cache f (enlisted f.focus_widgets_cache id)) k

    ignore_flags : (id : ℕ) (f : Focus) → Flags last now f → Flags last now (ignore_focus f id)
    unfolding ignore_focus
    ignore_flags id f k = letgo_keeps (Flags last now) flag_moves _ id k

    end_flags : (used : List Candidate) (f : Focus) → Flags last now f → Flags now false (end_pass f used)
    unfolding end_pass
    end_flags used f k = let l = ended (Flags last now) flag_moves (λ g id e v. v) used (λ g v. v) f k in (l.1, λ e. absurd (false≢true e))

-- ---- set_modal_layer: of two the higher stays, so that one of the Order or a higher one stays set
module _ (order : ℕ) (m : Memory) (layer : LayerId) (last now : Bool) (k : Flags order last now (focus_in m)) where
  abbrev current : LayerId
  current = (nav_of m).top_modal_layer_current_frame

  abbrev f : Focus
  f = focus_in m

  -- such a layer was set, or is now
  abbrev now_or : Bool → Bool
  now_or t = leb order layer.order || t

  reached : now ≡ true → is_modal_of order current ≡ true
  reached e = sym (modal_means order current) ∙ k.1 e

  -- one that stays is not lower than the new one
  stays : stays_modal m layer ≡ true → now_or now ≡ true → at_least order f.top_modal_layer_current_frame ≡ true
  stays b = go now refl
    where
      go : (t : Bool) → now ≡ t → now_or t ≡ true → at_least order f.top_modal_layer_current_frame ≡ true
      go true e g = k.1 e
      go false e g =
          let (x, y) = both (not (eqb current.id 0)) (is_below m layer current) b in
          modal_means order current ∙ rw (not-true (eqb current.id 0) x) (le-leb order current.order (omega (arith, below_lower m layer current y, leb-true order layer.order (sym (or-false (leb order layer.order)) ∙ g))))

  -- and one that goes is not higher
  goes : stays_modal m layer ≡ false → now_or now ≡ true → leb order layer.order ≡ true
  goes b = go now refl
    where
      go : (t : Bool) → now ≡ t → now_or t ≡ true → leb order layer.order ≡ true
      go true e g =
          let (x, y) = both (not (eqb current.id 0)) (leb order current.order) (reached e) in
          le-leb order layer.order (omega (arith, leb-true order current.order y, not_below_lower m layer current (rw (not-true (eqb current.id 0) x) at b)))
      go false e g = sym (or-false (leb order layer.order)) ∙ g

  set_accepted : (b : Bool) → stays_modal m layer ≡ b → Flags order last (now_or now) (cond b f (set_modal_layer f layer))
  set_accepted true b = (k.0, stays b)
  set_accepted false b = (k.0, goes b)

  set_flags : (r : ℕ) → Flags order last ((eqb r 0 && leb order layer.order) || now) (kept r f (cond (stays_modal m layer) f (set_modal_layer f layer)))
  set_flags zero = set_accepted (stays_modal m layer) refl
  set_flags (suc r) = rw (suc_some r) k

  pub set_after : Flags order last ((is_taken m (SetModalLayer layer) && leb order layer.order) || now) (focus_in (done_by (SetModalLayer layer) m).memory)
  unfolding done_by modal_set focus_after
  set_after = subst (Flags order last ((is_taken m (SetModalLayer layer) && leb order layer.order) || now)) (sym (leaves m (SetModalLayer layer)).1) (set_flags (layer_refusal layer))

-- ---- the calls but for end and set_modal_layer
unfoldable pub is_plain : Call → Bool
is_plain (End used) = false
is_plain (SetModalLayer layer) = false
is_plain call = true

module _ (order : ℕ) (m : Memory) (last now : Bool) where
  flag_methods : Methods m (Flags order last now) (λ call. is_plain call ≡ true)
  unfolding is_plain
  flag_methods = record {
    begin = λ events ok. begin_flags order last now events;
    want = λ id layer ok allowed. interest_flags order last now id;
    end = λ used ok. absurd (false≢true ok);
    ask = λ id ok f k. k;
    ask_next = λ id ok f k. k;
    ignore = ignore_flags order last now;
    set = λ layer ok. absurd (false≢true ok);
  }

  pub plain : (call : Call) → is_plain call ≡ true → Flags order last now (focus_in m) → Flags order last now (focus_in (done_by call m).memory)
  plain call ok k = keeps m (Flags order last now) _ (flag_moves order last now) flag_methods call ok k

-- ---- every call leaves what the flags after it say
module _ (order : ℕ) (m : Memory) (last now : Bool) (k : Flags order last now (focus_in m)) where
  -- an end that is refused ends no pass
  end_flags_after : (used : List Candidate) → Flags order (cond (is_taken m (End used)) now last) (cond (is_taken m (End used)) false now) (focus_in (done_by (End used) m).memory)
  unfolding done_by ended_of end_of focus_after
  end_flags_after used = subst (Flags order (cond (is_taken m (End used)) now last) (cond (is_taken m (End used)) false now)) (sym (leaves m (End used)).1) (go (used_refusal usedLimit used))
    where
      go : (r : ℕ) → Flags order (cond (eqb r 0) now last) (cond (eqb r 0) false now) (kept r (focus_in m) (end_pass (focus_in m) used))
      go zero = end_flags order last now used (focus_in m) k
      go (suc r) = rw (suc_some r) k

  pub flags_after : (call : Call) → Flags order (cond (ends_pass m call) now last) (now_after order m now call) (focus_in (done_by call m).memory)
  unfolding is_plain
  flags_after (End used) = end_flags_after used
  flags_after (SetModalLayer layer) = set_after order m layer last now k
  flags_after call = plain order m last now call refl k

  -- an interest call of a lower Order is turned away
  want_turned : (p id : ℕ) (layer : LayerId) → (last && ltb layer.order order) ≡ true → lets_in p m (Interest id layer) ≡ false
  unfolding lets_in
  want_turned p id layer e =
      let (l, o) = both _ _ e in
      let away = lower_away order m layer (sym (modal_means order (nav_of m).top_modal_layer) ∙ k.0 l) o in
      rw (away, and-false (eqb id p)) (and-false (is_taken m (Interest id layer)))

  lets_nobody : (p : ℕ) (call : Call) → (is_lower order last call || not (lets_in p m call)) ≡ true → lets_in p m call ≡ false
  lets_nobody p (Interest id layer) h = go (last && ltb layer.order order) refl h
    where
      go : (b : Bool) → (last && ltb layer.order order) ≡ b → (b || not (lets_in p m (Interest id layer))) ≡ true → lets_in p m (Interest id layer) ≡ false
      go true e h = want_turned p id layer e
      go false e h = not-true (lets_in p m (Interest id layer)) h
  lets_nobody p call h = not-true (lets_in p m call) h

module _ (order p : ℕ) where
  -- ---- lists of calls
  abbrev pub Stays : Memory → Type 0
  Stays m = (kept_out m p ≡ true) × (is_focused m p ≡ false)

  pub under_kept : (calls : List Call) (m : Memory) (last now : Bool) → kept_out m p ≡ true → Flags order last now (focus_in m) → keeps_under order p last now m calls ≡ true
      → (n : ℕ) → Stays (run m (take n calls))
  unfolding run keeps_under
  under_kept calls m last now k f h zero = (k, kept_unfocused p m k)
  under_kept [] m last now k f h (suc n) = (k, kept_unfocused p m k)
  under_kept (call ∷ calls) m last now k f h (suc n) =
      let (a, b) = both _ _ h in
      let kept = call_kept p m call k (lets_nobody order m last now f p call a) in
      under_kept calls (done_by call m).memory (cond (ends_pass m call) now last) (now_after order m now call) kept (flags_after order m last now f call) b n

  pub box_kept : (m : Memory) (calls : List Call) → kept_out m p ≡ true → keeps_under order p (in_force order m) (is_set order m) m calls ≡ true → (n : ℕ) → Stays (run m (take n calls))
  box_kept m calls k h = under_kept calls m (in_force order m) (is_set order m) k (λ e. modal_means order (nav_of m).top_modal_layer ∙ e, λ e. modal_means order (nav_of m).top_modal_layer_current_frame ∙ e) h

  -- ---- in short
  below_lets_nobody : (a l t g : Bool) → (not a || l) ≡ true → (l || not (t && (a && g))) ≡ true
  below_lets_nobody a true t g h = refl
  below_lets_nobody true false t g h = absurd (false≢true h)
  below_lets_nobody false false t g h = rw (and-false t)

  stays_in_force : (e now : Bool) → (not e || now) ≡ true → cond e now true ≡ true
  stays_in_force true now h = h
  stays_in_force false now h = refl

  short_keeps : (calls : List Call) (m : Memory) (now : Bool) → set_in_every_pass order now m calls ≡ true → list_all (asks_from_below order p) calls ≡ true → keeps_under order p true now m calls ≡ true
  unfolding set_in_every_pass keeps_under lets_in
  short_keeps [] m now h k = refl
  short_keeps (call ∷ calls) m now h k =
      let (a, b) = both (not (ends_pass m call) || now) (set_in_every_pass order (now_after order m now call) (done_by call m).memory calls) h in
      let (c, d) = both (asks_from_below order p call) (list_all (asks_from_below order p) calls) k in
      rw (below_lets_nobody (asks_for p call) (is_lower order true call) (is_taken m call) (is_let_through m call) c, stays_in_force (ends_pass m call) now a) (short_keeps calls (done_by call m).memory (now_after order m now call) b d)

  pub short_kept : (m : Memory) (calls : List Call) → kept_out m p ≡ true → in_force order m ≡ true → set_in_every_pass order (is_set order m) m calls ≡ true → list_all (asks_from_below order p) calls ≡ true
      → (n : ℕ) → Stays (run m (take n calls))
  short_kept m calls k f h a = box_kept m calls k (rw f (short_keeps calls m (is_set order m) h a))

  -- ---- by the rule
  same_shown : (e now shown : Bool) → (not e || now) ≡ true → cond e now shown ≡ (shown || e)
  same_shown true now true h = h
  same_shown true now false h = h
  same_shown false now true h = refl
  same_shown false now false h = refl

  rule_keeps : (calls : List Call) (m : Memory) (shown now : Bool)
      → set_in_every_pass order now m calls ≡ true → asks_by_rule order p shown m calls ≡ true
      → keeps_under order p shown now m calls ≡ true
  unfolding set_in_every_pass asks_by_rule keeps_under lets_in
  rule_keeps [] m shown now h k = refl
  rule_keeps (call ∷ calls) m shown now h k =
      let (set, rest) = both (not (ends_pass m call) || now) _ h in
      let (asked, later) = both (not (asks_for p call) || is_lower order shown call) _ k in
      rw (
        below_lets_nobody (asks_for p call) (is_lower order shown call) (is_taken m call) (is_let_through m call) asked,
        same_shown (ends_pass m call) now shown set,
      )
      (rule_keeps calls (done_by call m).memory (shown || ends_pass m call) (now_after order m now call) rest later)

  pub rule_kept : (calls : List Call) (m : Memory) (now : Bool)
      → kept_out m p ≡ true → Flags order false now (focus_in m)
      → set_in_every_pass order now m calls ≡ true → asks_by_rule order p false m calls ≡ true
      → (n : ℕ) → Stays (run m (take n calls))
  rule_kept calls m now k f h a = under_kept calls m false now k f (rule_keeps calls m false now h a)

-- ---- what is set before each end that is taken is in force after the first of them
in_force_now : (order : ℕ) (m : Memory) (last now : Bool) → Flags order last now (focus_in m)
    → (last || false) ≡ true → in_force order m ≡ true
in_force_now order m last now f e =
    sym (modal_means order (nav_of m).top_modal_layer) ∙ f.0 (sym (or-false last) ∙ e)

ended_shows : (last now e none : Bool) → (not e || now) ≡ true → (last || not (not e && none)) ≡ true → (cond e now last || not none) ≡ true
ended_shows last now true none h k = rw h refl
ended_shows last now false none h k = k

pub shown_in_force : (order : ℕ) (calls : List Call) (m : Memory) (last now : Bool)
    → Flags order last now (focus_in m) → set_in_every_pass order now m calls ≡ true
    → (n : ℕ) → (last || has_ended m (take n calls)) ≡ true → in_force order (run m (take n calls)) ≡ true
unfolding run none_is set_in_every_pass
shown_in_force order calls m last now f h zero e = in_force_now order m last now f e
shown_in_force order [] m last now f h (suc n) e = in_force_now order m last now f e
shown_in_force order (call ∷ calls) m last now f h (suc n) e =
    let (set, rest) = both (not (ends_pass m call) || now) _ h in
    shown_in_force order calls (done_by call m).memory (cond (ends_pass m call) now last)
    (now_after order m now call) (flags_after order m last now f call) rest n
    (ended_shows last now (ends_pass m call) (none_is ends_pass (done_by call m).memory (take n calls)) set e)

-- ---- a layer that is set by the end of a list
pub flags_through : (order : ℕ) (calls : List Call) (m : Memory) (last now : Bool)
    → Flags order last now (focus_in m) → Flags order false (now_through order now m calls) (focus_in (run m calls))
unfolding run now_through
flags_through order [] m last now f = (λ e. absurd (false≢true e), f.1)
flags_through order (call ∷ calls) m last now f =
    flags_through order calls (done_by call m).memory (cond (ends_pass m call) now last)
    (now_after order m now call) (flags_after order m last now f call)
