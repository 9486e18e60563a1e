-- The rule by which a box is opened keeps every field under it out, and sets the box's layer: where none of its calls is refused. Assumes nothing.
use Rattle.std.specs.Prelude.{ℕ, Bool, true, false, not, ◌||◌, ◌≡◌, ◌≤◌, Option, Some, List, [], ◌∷◌, take, eqb}
use mathlib.Core.Path.{refl, sym, ap, ◌∙◌, subst}
use mathlib.Core.Bool.{true≢false, false≢true, and-false}
use native.Mathlib.Omega.{arith}
use borrow.Author.Tests.{eqb-true}
use Rattle.std.proofs.lemmas.Bool.{le-leb}
use Rattle.std.specs.List.{list_all}
use Rattle.emath.specs.declared.Pos2.{Pos2}
use Rattle.layers.specs.declared.LayerId.{LayerId}
use Rattle.used.specs.Used.{elem}
use Rattle.focus_maps.specs.Egui.{Focus, is}
use Rattle.focus_rules.specs.Rules.{id_or_nothing}
use Rattle.memory_rules.specs.declared.Memory.{Memory}
use Rattle.memory_rules.specs.State.{nav_of}
use Rattle.memory_rules.specs.Memory.{is_allowed, layer_id_at}
use Rattle.memory_rules.specs.Calls.{Call, Interest, IgnoreFocus, RequestFocusNextFrame, SetModalLayer, done_by}
use Rattle.confirm_box.specs.KeptOut.{is_taken, kept_out, lets_in, run, none_is}
use Rattle.confirm_box.specs.Modal.{in_force, is_set, set_in_every_pass, now_through, asks_by_rule, has_ended, keeps_under}
use Rattle.confirm_box.specs.Rule.{Box, Opens, Spread, Spreads, opening, after_opening, keeps_to_rule, spread, ignoring, wanting, disturbs, is_refused}
use Rattle.confirm_box.proofs.Egui.{both, neither}
use Rattle.confirm_box.proofs.Hits.{hit_not_lower}
use Rattle.confirm_box.proofs.Calls.{focus_in, at_end}
use Rattle.confirm_box.proofs.Kept.{another, Unfocused, ignored}
use Rattle.confirm_box.proofs.Under.{Flags, Stays, at_least, modal_means, is_plain, plain, set_after, under_kept, rule_kept, shown_in_force, flags_through}
use Rattle.confirm_box.proofs.Steps.{Quiet, both_quiet, quiet_allowed, ignoring_quiet, run_append, none_first, none_split, each_keeps, set_quiet, next_taken, want_last, next_after, id_taken}
use Rattle.confirm_box.proofs.Out.{Passed, Out, call_passed, call_out, shut}

-- ---- lists of ids, and of calls that are taken
pub other_than : (ids : List ℕ) (id p : ℕ) → elem ids id ≡ true → elem ids p ≡ false → eqb id p ≡ false
other_than ids id p h k = go (eqb id p) refl
  where
    go : (b : Bool) → eqb id p ≡ b → b ≡ false
    go true e = absurd (true≢false (sym h ∙ ap (elem ids) (eqb-true id p e) ∙ k))
    go false e = refl

first_taken : (m : Memory) (call : Call) (calls : List Call) → none_is is_refused m (call ∷ calls) ≡ true → ((done_by call m).refusal ≡ 0) × (none_is is_refused (done_by call m).memory calls ≡ true)
first_taken m call calls h = let (a, b) = none_first is_refused m call calls h in (eqb-true (done_by call m).refusal 0 (go (is_taken m call) a), b)
  where
    go : (b : Bool) → not b ≡ false → b ≡ true
    go true h = refl
    go false h = absurd (true≢false h)

-- ids that are ignored, and taken, are not 0
some_id : (ids : List ℕ) (m : Memory) (p : ℕ) → none_is is_refused m (ignoring ids) ≡ true → elem ids p ≡ true → eqb p 0 ≡ false
unfolding elem
some_id [] m p h e = absurd (false≢true e)
some_id (id ∷ ids) m p h e = go (eqb id p) refl e (some_id ids after p (first_taken m (IgnoreFocus id) (ignoring ids) h).1)
  where
    after : Memory
    after = (done_by (IgnoreFocus id) m).memory

    go : (b : Bool) → eqb id p ≡ b → (b || elem ids p) ≡ true → (elem ids p ≡ true → eqb p 0 ≡ false) → eqb p 0 ≡ false
    go true q e more = rw (← eqb-true id p q) (id_taken m id (first_taken m (IgnoreFocus id) (ignoring ids) h).0)
    go false q e more = more e

-- ---- p, a field under the box
module _ (p : ℕ) where
  ignore_quiet : (m : Memory) (id : ℕ) → disturbs p m (IgnoreFocus id) ≡ false
  unfolding disturbs lets_in
  ignore_quiet m id = and-false (is_taken m (IgnoreFocus id))

  -- interest calls for other ids do not bring p back
  more_wanted : (layer : LayerId) (ids : List ℕ) (m : Memory) → elem ids p ≡ false → Passed p (focus_in m) → Passed p (focus_in (run m (wanting layer ids)))
  unfolding elem run disturbs lets_in
  more_wanted layer [] m h k = k
  more_wanted layer (id ∷ ids) m h k =
      let (n, ns) = neither (eqb id p) _ h in
      more_wanted layer ids (done_by (Interest id layer) m).memory ns (call_passed p m (Interest id layer) (rw n (and-false (is_taken m (Interest id layer)))) k)

  -- and the first that is taken makes another id the last interested
  wanting_passes : (layer : LayerId) (ids : List ℕ) (one : ℕ) (m : Memory) → elem ids one ≡ true → elem ids p ≡ false → is_allowed m layer ≡ true → none_is is_refused m (wanting layer ids) ≡ true
      → Passed p (focus_in (run m (wanting layer ids)))
  unfolding elem run
  wanting_passes layer [] one m some h allowed taken = absurd (false≢true some)
  wanting_passes layer (id ∷ ids) one m some h allowed taken =
      let (n, ns) = neither (eqb id p) _ h in
      more_wanted layer ids (done_by (Interest id layer) m).memory ns (ap (λ (o : Option ℕ). is o p) (want_last m id layer (first_taken m (Interest id layer) (wanting layer ids) taken).0 allowed) ∙ n)

  -- p is among the ignored
  ignoring_out : (ids : List ℕ) (m : Memory) → eqb p 0 ≡ false → elem ids p ≡ true → Passed p (focus_in m) → Out p (focus_in (run m (ignoring ids)))
  unfolding elem run
  ignoring_out [] m z h k = absurd (false≢true h)
  ignoring_out (id ∷ ids) m z h k = go (eqb id p) refl h (λ e. ignoring_out ids after z e passed)
    where
      after : Memory
      after = (done_by (IgnoreFocus id) m).memory

      passed : Passed p (focus_in after)
      passed = call_passed p m (IgnoreFocus id) (ignore_quiet m id) k

      here : id ≡ p → Unfocused p (focus_in after)
      here e = rw e (ignored p m z)

      go : (b : Bool) → eqb id p ≡ b → (b || elem ids p) ≡ true → (elem ids p ≡ true → Out p (focus_in (run after (ignoring ids)))) → Out p (focus_in (run after (ignoring ids)))
      go true e h more = each_keeps IgnoreFocus (λ n. Out p (focus_in n)) (λ id n o. call_out p n (IgnoreFocus id) (ignore_quiet n id) o) ids after (here (eqb-true id p e), passed)
      go false e h more = more h

second : (x y : Bool) → x ≡ false → (x || y) ≡ true → y ≡ true
second true y h k = absurd (true≢false h)
second false y h k = k

each_of : (P : ℕ → Bool) (ids : List ℕ) (p : ℕ) → list_all P ids ≡ true → elem ids p ≡ true → P p ≡ true
unfolding elem
each_of P [] p h e = absurd (false≢true e)
each_of P (id ∷ ids) p h e = go (eqb id p) refl e (each_of P ids p (both (P id) (list_all P ids) h).1)
  where
    go : (b : Bool) → eqb id p ≡ b → (b || elem ids p) ≡ true → (elem ids p ≡ true → P p ≡ true) → P p ≡ true
    go true q e more = rw (← eqb-true id p q) (both (P id) (list_all P ids) h).0
    go false q e more = more e

-- ---- the whole rule
module _ (m : Memory) (b : Box) (o : Opens m b) where
  -- after the ids that are freed, the modal layer, the box's interest calls, and the ids under it
  abbrev freed : Memory
  freed = run m (ignoring b.freed)

  abbrev set : Memory
  set = (done_by (SetModalLayer b.layer) freed).memory

  abbrev wanted : Memory
  wanted = run set (wanting b.layer b.fields)

  abbrev gone : Memory
  gone = run wanted (ignoring b.under)

  abbrev opened : Memory
  opened = (done_by (RequestFocusNextFrame b.focus) gone).memory

  opened_is : run m (opening b) ≡ opened
  unfolding opening run
  opened_is =
      run_append (ignoring b.freed) _ m
      ∙ run_append (wanting b.layer b.fields) _ set
      ∙ run_append (ignoring b.under) _ wanted

  -- none is refused
  abbrev Taken : Memory → List Call → Type 0
  Taken k calls = none_is is_refused k calls ≡ true

  all_taken : ((done_by (SetModalLayer b.layer) freed).refusal ≡ 0) × Taken set (wanting b.layer b.fields) × Taken wanted (ignoring b.under) × ((done_by (RequestFocusNextFrame b.focus) gone).refusal ≡ 0)
  unfolding opening
  all_taken =
      let (a, r) = none_split is_refused (ignoring b.freed) _ m o.taken in
      let (c, s) = first_taken freed (SetModalLayer b.layer) _ r in
      let (d, t) = none_split is_refused (wanting b.layer b.fields) _ set s in
      let (e, u) = none_split is_refused (ignoring b.under) _ wanted t in
      (c, d, e, (first_taken gone (RequestFocusNextFrame b.focus) [] u).0)

  freed_quiet : Quiet m freed
  freed_quiet = ignoring_quiet b.freed m

  set_allowed : is_allowed set b.layer ≡ true
  set_allowed = quiet_allowed m set b.layer (both_quiet m freed set freed_quiet (set_quiet freed b.layer)) ∙ o.let_through

  -- ---- the focus waits for the next begin
  opened_waits : id_or_nothing (nav_of opened).id_next_frame ≡ Some b.focus
  opened_waits = ap (λ (f : Focus). f.id_next_frame) (next_after gone b.focus all_taken.3)

  -- ---- the box's layer is set
  abbrev Set : Memory → Type 0
  Set k = Flags b.layer.order (in_force b.layer.order m) true (focus_in k)

  plain_set : (k : Memory) (call : Call) → is_plain call ≡ true → Set k → Set (done_by call k).memory
  plain_set k call h f = plain b.layer.order k (in_force b.layer.order m) true call h f

  first_set : Set set
  first_set = subst (λ (t : Bool). Flags b.layer.order (in_force b.layer.order m) t (focus_in set)) (rw (all_taken.0, le-leb b.layer.order b.layer.order (omega arith))) (set_after b.layer.order freed b.layer (in_force b.layer.order m) false before)
    where
      before : Flags b.layer.order (in_force b.layer.order m) false (focus_in freed)
      before = (λ e. ap (at_least b.layer.order) freed_quiet.modal ∙ modal_means b.layer.order (nav_of m).top_modal_layer ∙ e, λ e. absurd (false≢true e))

  pub opened_set : Set (run m (opening b))
  unfolding is_plain
  opened_set =
      let wants = each_keeps (λ id. Interest id b.layer) Set (λ id k f. plain_set k (Interest id b.layer) refl f) b.fields set first_set in
      let ignores = each_keeps IgnoreFocus Set (λ id k f. plain_set k (IgnoreFocus id) refl f) b.under wanted wants in
      rw opened_is (plain_set gone (RequestFocusNextFrame b.focus) refl ignores)

  -- nothing need be in force before the first end that is taken
  set_now : Flags b.layer.order false true (focus_in (after_opening m b))
  set_now = (λ e. absurd (false≢true e), opened_set.1)

  -- ---- a field under it
  module _ (p : ℕ) (under : elem b.under p ≡ true) (other : elem b.fields p ≡ false) where
    opened_kept : kept_out (run m (opening b)) p ≡ true
    opened_kept =
        let passed = wanting_passes p b.layer b.fields b.focus set o.focus other set_allowed all_taken.1 in
        rw opened_is (shut p gone b.focus (other_than b.fields b.focus p o.focus other) all_taken.3 (ignoring_out p b.under wanted (some_id b.under wanted p all_taken.2 under) under passed))

    pub opened_stays : (calls : List Call) → keeps_under b.layer.order p (in_force b.layer.order m) true (run m (opening b)) calls ≡ true → (n : ℕ) → Stays b.layer.order p (run (run m (opening b)) (take n calls))
    opened_stays calls h n = under_kept b.layer.order p calls (run m (opening b)) (in_force b.layer.order m) true opened_kept opened_set h n

    -- by the rule
    asked_by_rule : (calls : List Call) → keeps_to_rule b (after_opening m b) calls ≡ true
        → asks_by_rule b.layer.order p false (after_opening m b) calls ≡ true
    asked_by_rule calls h =
        let (set, asked) = both _ _ h in
        second (elem b.fields p) _ other (each_of (λ (q : ℕ). elem b.fields q || asks_by_rule b.layer.order q false (after_opening m b) calls) b.under p asked under)

    pub ruled_stays : (calls : List Call) → keeps_to_rule b (after_opening m b) calls ≡ true
        → (n : ℕ) → Stays b.layer.order p (run (after_opening m b) (take n calls))
    ruled_stays calls h n =
        let (set, asked) = both _ _ h in
        rule_kept b.layer.order p calls (after_opening m b) true opened_kept set_now set (asked_by_rule calls h) n

  -- touches, from the first end that is taken on
  pub ruled_hits : (calls : List Call) → keeps_to_rule b (after_opening m b) calls ≡ true
      → (n : ℕ) (pos : Pos2) (layer : LayerId) → has_ended (after_opening m b) (take n calls) ≡ true
      → layer_id_at (run (after_opening m b) (take n calls)) pos ≡ Some layer → b.layer.order ≤ layer.order
  ruled_hits calls h n pos layer e =
      let (set, asked) = both _ _ h in
      hit_not_lower b.layer.order (run (after_opening m b) (take n calls))
      (shown_in_force b.layer.order calls (after_opening m b) false true set_now set n e) pos layer

pub opens : (m : Memory) (b : Box) → Opens m b
    → ((p : ℕ) → elem b.under p ≡ true → elem b.fields p ≡ false → kept_out (run m (opening b)) p ≡ true) × (id_or_nothing (nav_of (run m (opening b))).id_next_frame ≡ Some b.focus)
opens m b o = (opened_kept m b o, rw (opened_is m b o) (opened_waits m b o))

-- ---- the rule for one field, with other calls between its own
module _ (m : Memory) (p : ℕ) (s : Spread) (o : Spreads m p s) where
  abbrev asked : Memory
  asked = (done_by (Interest s.id s.layer) m).memory

  abbrev between : Memory
  between = run asked s.between

  abbrev dropped : Memory
  dropped = (done_by (IgnoreFocus p) between).memory

  abbrev after : Memory
  after = run dropped s.after

  spread_is : run m (spread p s) ≡ (done_by (RequestFocusNextFrame s.focus) after).memory
  unfolding spread run
  spread_is = run_append s.between _ asked ∙ run_append s.after _ dropped

  pub spread_kept : kept_out (run m (spread p s)) p ≡ true
  unfolding spread disturbs lets_in
  spread_kept =
      let (i, r) = none_first (disturbs p) m (Interest s.id s.layer) _ o.quiet in
      let (a, t) = none_split (disturbs p) s.between _ asked r in
      let (d, u) = none_first (disturbs p) between (IgnoreFocus p) _ t in
      let (c, v) = none_split (disturbs p) s.after _ dropped u in
      let (e, w) = none_first (disturbs p) after (RequestFocusNextFrame s.focus) [] v in
      let taken = next_taken after s.focus o.ids.1 in
      let first : Passed p (focus_in asked) = ap (λ (x : Option ℕ). is x p) (want_last m s.id s.layer (eqb-true _ 0 o.taken) o.let_through) ∙ another p s.id (is_allowed m s.layer) o.let_through (rw o.taken at i) in
      let passed = at_end (λ k. Passed p (focus_in k)) (disturbs p) (call_passed p) s.between asked first a in
      let out = at_end (λ k. Out p (focus_in k)) (disturbs p) (call_out p) s.after dropped (ignored p between o.ids.0, call_passed p between (IgnoreFocus p) d passed) c in
      rw spread_is (shut p after s.focus (another p s.focus true refl (rw taken at e)) taken out)

  -- ---- and the rule after it, where these calls or those before them set the box's layer
  module _ (order : ℕ) where
    abbrev now : Bool
    now = now_through order (is_set order m) m (spread p s)

    spread_set : Flags order false now (focus_in (run m (spread p s)))
    spread_set = flags_through order (spread p s) m false (is_set order m)
        (λ e. absurd (false≢true e), λ e. modal_means order (nav_of m).top_modal_layer_current_frame ∙ e)

    pub spread_stays : (calls : List Call) → set_in_every_pass order now (run m (spread p s)) calls ≡ true
        → asks_by_rule order p false (run m (spread p s)) calls ≡ true
        → (n : ℕ) → Stays order p (run (run m (spread p s)) (take n calls))
    spread_stays calls h a n = rule_kept order p calls (run m (spread p s)) now spread_kept spread_set h a n

    pub spread_hits : (calls : List Call) → set_in_every_pass order now (run m (spread p s)) calls ≡ true
        → (n : ℕ) (pos : Pos2) (layer : LayerId) → has_ended (run m (spread p s)) (take n calls) ≡ true
        → layer_id_at (run (run m (spread p s)) (take n calls)) pos ≡ Some layer → order ≤ layer.order
    spread_hits calls h n pos layer e =
        hit_not_lower order (run (run m (spread p s)) (take n calls))
        (shown_in_force order calls (run m (spread p s)) false now spread_set h n e) pos layer
