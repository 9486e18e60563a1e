-- The calls of the rule one by one, and lists of calls: when each is taken, and what it leaves of the focus and of what decides who is let through. Assumes nothing.
use Rattle.std.specs.Prelude.{ℕ, zero, suc, Bool, true, false, cond, not, ◌&&◌, ◌||◌, ◌≡◌, ◌≤◌, Option, None, Some, List, [], ◌∷◌, ◌++◌, map, eqb, length}
use mathlib.Core.Path.{refl, sym, ap, ◌∙◌, subst}
use mathlib.Core.Bool.{and-true}
use borrow.Author.Tests.{not-true, le-ltb}
use Rattle.refusal.specs.Refusal.{lowest, kept, none}
use Rattle.layers.specs.declared.LayerId.{LayerId}
use Rattle.layers.specs.Layers.{layer_refusal}
use Rattle.layer_rows.specs.Rows.{held_rows}
use Rattle.layer_queries.specs.Queries.{compared_by}
use Rattle.search.specs.declared.Candidate.{Candidate}
use Rattle.areas.specs.declared.Areas.{Areas}
use Rattle.focus_cache.specs.Cache.{enlisted, without}
use Rattle.focus_pass.specs.Pass.{ignore_of}
use Rattle.focus.specs.Focus as ByValue
use Rattle.focus_maps.specs.Egui.{Focus, with_last, with_cache, interested_in_focus, ignore_focus, request_focus_next_frame, set_modal_layer}
use Rattle.focus_maps.specs.Calls as Focus
use Rattle.focus_maps.proofs.Means.{id_taken as some_id}
use Rattle.focus_maps.proofs.Holds.{refused}
use Rattle.memory_rules.specs.declared.Memory.{Memory}
use Rattle.memory_rules.specs.State.{areas_of, focus_of, nav_of, with_focus}
use Rattle.memory_rules.specs.Memory.{is_above, is_allowed, stays_modal, interested_of, ignored_of, requested_next, modal_set}
use Rattle.memory_rules.specs.Calls.{Call, Interest, IgnoreFocus, RequestFocusNextFrame, SetModalLayer, done_by}
use Rattle.confirm_box.specs.KeptOut.{run, none_is}
use Rattle.confirm_box.specs.Rule.{ignoring, cached_in, room, is_refused}
use Rattle.confirm_box.proofs.Egui.{both}
use Rattle.confirm_box.proofs.Methods.{Moves, ruled_keeps, letgo_keeps}
use Rattle.confirm_box.proofs.Calls.{focus_in, focus_after, leaves}

-- ---- lists of calls
pub run_append : (xs ys : List Call) (m : Memory) → run m (xs ++ ys) ≡ run (run m xs) ys
unfolding run
run_append [] ys m = refl
run_append (x ∷ xs) ys m = run_append xs ys (done_by x m).memory

pub none_first : (such : Memory → Call → Bool) (m : Memory) (call : Call) (calls : List Call) → none_is such m (call ∷ calls) ≡ true → (such m call ≡ false) × (none_is such (done_by call m).memory calls ≡ true)
unfolding none_is
none_first such m call calls h = let (a, b) = both (not (such m call)) (none_is such (done_by call m).memory calls) h in (not-true (such m call) a, b)

pub none_append : (such : Memory → Call → Bool) (xs ys : List Call) (m : Memory) → none_is such m xs ≡ true → none_is such (run m xs) ys ≡ true → none_is such m (xs ++ ys) ≡ true
unfolding run none_is
none_append such [] ys m h k = k
none_append such (x ∷ xs) ys m h k = let (a, b) = both (not (such m x)) _ h in rw a (none_append such xs ys (done_by x m).memory b k)

pub none_split : (such : Memory → Call → Bool) (xs ys : List Call) (m : Memory) → none_is such m (xs ++ ys) ≡ true → (none_is such m xs ≡ true) × (none_is such (run m xs) ys ≡ true)
unfolding run none_is
none_split such [] ys m h = (refl, h)
none_split such (x ∷ xs) ys m h = let (a, b) = both (not (such m x)) _ h in let (c, d) = none_split such xs ys (done_by x m).memory b in (rw (a, c), d)

-- what each call of a list about ids keeps, the list keeps
pub each_keeps : (call : ℕ → Call) (I : Memory → Type 0) → ((id : ℕ) (m : Memory) → I m → I (done_by (call id) m).memory) → (ids : List ℕ) (m : Memory) → I m → I (run m (map call ids))
unfolding run
each_keeps call I step [] m k = k
each_keeps call I step (id ∷ ids) m k = each_keeps call I step ids (done_by (call id) m).memory (step id m k)

-- ---- the fields of the focus that ignore and interest leave alone
abbrev pub Rest : Focus → Focus → Type 0
Rest f g = (g.focus_widgets_cache ≡ f.focus_widgets_cache) × (g.last_interested ≡ f.last_interested) × (g.top_modal_layer ≡ f.top_modal_layer)

rest_moves : (f : Focus) → Moves (Rest f)
rest_moves f = record { turn = λ g d k. k; give = λ g on k. k; drop = λ g k. k; filter = λ g id filter e k. k }

ignore_rest : (f : Focus) (id : ℕ) → Rest (with_cache f (without f.focus_widgets_cache id)) (ignore_focus f id)
unfolding ignore_focus
ignore_rest f id = letgo_keeps (Rest g) (rest_moves g) g id (refl, refl, refl)
  where
    g : Focus
    g = with_cache f (without f.focus_widgets_cache id)

interest_rest : (f : Focus) (id : ℕ) → Rest (with_last (with_cache f (enlisted f.focus_widgets_cache id)) id) (interested_in_focus f id)
unfolding interested_in_focus
interest_rest f id = let r = ruled_keeps (Rest g) (rest_moves g) id (λ h k. k) (λ h k. k, λ h k. k) g (refl, refl, refl) in (r.0, refl, r.2)
  where
    g : Focus
    g = with_cache f (enlisted f.focus_widgets_cache id)

-- ---- who is let through: by the areas and the modal layer in force
allowed_in : Areas → Option LayerId → LayerId → Bool
allowed_in a None layer = true
allowed_in a (Some modal) layer = not (eqb (compared_by (held_rows a.placed a.rows) layer modal) 0)

allowed_means : (m : Memory) (layer : LayerId) → is_allowed m layer ≡ allowed_in (areas_of m) (focus_in m).top_modal_layer layer
unfolding is_allowed is_above allowed_in
allowed_means m layer = go (eqb modal.id 0)
  where
    modal : LayerId
    modal = (nav_of m).top_modal_layer

    below : Bool
    below = eqb (compared_by (held_rows (areas_of m).placed (areas_of m).rows) layer modal) 0

    go : (b : Bool) → ((b || not below) && true) ≡ allowed_in (areas_of m) (cond b None (Some modal)) layer
    go true = refl
    go false = and-true (not below)

-- a call that leaves this, and the room of the cache
pub record Quiet (m after : Memory) : Type 0 where
  pub areas : areas_of after ≡ areas_of m
  pub modal : (focus_in after).top_modal_layer ≡ (focus_in m).top_modal_layer
  pub room : room after ≡ room m

pub nothing_quiet : (m : Memory) → Quiet m m
nothing_quiet m = record { areas = refl; modal = refl; room = refl }

pub both_quiet : (m n k : Memory) → Quiet m n → Quiet n k → Quiet m k
both_quiet m n k p q = record { areas = q.areas ∙ p.areas; modal = q.modal ∙ p.modal; room = q.room ∙ p.room }

pub quiet_allowed : (m after : Memory) (layer : LayerId) → Quiet m after → is_allowed after layer ≡ is_allowed m layer
quiet_allowed m after layer q = allowed_means after layer ∙ rw (q.areas, q.modal) (sym (allowed_means m layer))

-- ---- a call on the focus alone
module _ (m : Memory) where
  areas_kept : (r : ℕ) (after : Memory) → areas_of after ≡ areas_of m → areas_of (kept r m after) ≡ areas_of m
  areas_kept zero after e = e
  areas_kept (suc r) after e = refl

  -- a field that the call leaves alone, refused or not
  field_kept : {B : Type 0} (field : Focus → B) (r : ℕ) (f g : Focus) → field g ≡ field f → field (kept r f g) ≡ field f
  field_kept field zero f g e = e
  field_kept field (suc r) f g e = refl

  module _ (call : Call) where
    stays : {B : Type 0} (field : Focus → B) → field (focus_after call m (focus_in m)) ≡ field (focus_in m) → field (focus_in (done_by call m).memory) ≡ field (focus_in m)
    stays field e = ap field (leaves m call).1 ∙ field_kept field (done_by call m).refusal (focus_in m) _ e

    quiet : areas_of (done_by call m).memory ≡ areas_of m → (focus_after call m (focus_in m)).top_modal_layer ≡ (focus_in m).top_modal_layer → Quiet m (done_by call m).memory
    quiet a t = record { areas = a; modal = stays (λ f. f.top_modal_layer) t; room = (leaves m call).0 }

    took : (done_by call m).refusal ≡ 0 → focus_in (done_by call m).memory ≡ focus_after call m (focus_in m)
    took h = (leaves m call).1 ∙ ap (λ (r : ℕ). kept r (focus_in m) (focus_after call m (focus_in m))) h

    pub taken : (done_by call m).refusal ≡ 0 → is_refused m call ≡ false
    taken h = rw h

  -- ---- set_modal_layer
  module _ (layer : LayerId) where
    pub set_taken : layer_refusal layer ≡ 0 → (done_by (SetModalLayer layer) m).refusal ≡ 0
    unfolding done_by modal_set
    set_taken h = h

    pub set_cache : cached_in (done_by (SetModalLayer layer) m).memory ≡ cached_in m
    unfolding focus_after
    set_cache = stays (SetModalLayer layer) (λ f. f.focus_widgets_cache) (go (stays_modal m layer))
      where
        go : (b : Bool) → (cond b (focus_in m) (set_modal_layer (focus_in m) layer)).focus_widgets_cache ≡ cached_in m
        go true = refl
        go false = refl

    pub set_quiet : Quiet m (done_by (SetModalLayer layer) m).memory
    unfolding done_by modal_set focus_after
    set_quiet = quiet (SetModalLayer layer) (areas_kept _ _ (go (stays_modal m layer))) (modal (stays_modal m layer))
      where
        go : (b : Bool) → areas_of (cond b m (with_focus m (ByValue.modal_set (focus_of m) layer).focus)) ≡ areas_of m
        go true = refl
        go false = refl

        modal : (b : Bool) → (cond b (focus_in m) (set_modal_layer (focus_in m) layer)).top_modal_layer ≡ (focus_in m).top_modal_layer
        modal true = refl
        modal false = refl

  -- ---- the calls about an id
  module _ (id : ℕ) where
    id_none : eqb id 0 ≡ false → ◌≡◌ {A = ℕ} (cond (eqb id 0) 1 0) 0
    id_none h = rw h

    pub ignore_taken : eqb id 0 ≡ false → (done_by (IgnoreFocus id) m).refusal ≡ 0
    unfolding done_by ignored_of ByValue.ignored_of ignore_of
    ignore_taken h = id_none h

    pub ignore_quiet : Quiet m (done_by (IgnoreFocus id) m).memory
    unfolding done_by ignored_of focus_after
    ignore_quiet = quiet (IgnoreFocus id) (areas_kept _ _ refl) (ignore_rest (focus_in m) id).2

    pub ignore_cache : eqb id 0 ≡ false → cached_in (done_by (IgnoreFocus id) m).memory ≡ without (cached_in m) id
    unfolding focus_after
    ignore_cache h = ap (λ (f : Focus). f.focus_widgets_cache) (took (IgnoreFocus id) (ignore_taken h)) ∙ (ignore_rest (focus_in m) id).0

    pub next_taken : eqb id 0 ≡ false → (done_by (RequestFocusNextFrame id) m).refusal ≡ 0
    unfolding done_by requested_next ByValue.requested_next
    next_taken h = id_none h

    pub next_after : (done_by (RequestFocusNextFrame id) m).refusal ≡ 0 → focus_in (done_by (RequestFocusNextFrame id) m).memory ≡ request_focus_next_frame (focus_in m) id
    unfolding focus_after
    next_after h = took (RequestFocusNextFrame id) h

  -- ---- an interest call
  module _ (id : ℕ) (layer : LayerId) where
    abbrev wanted : Bool → Focus
    wanted b = cond b (interested_in_focus (focus_in m) id) (focus_in m)

    -- taken where there is a place for its id
    pub want_taken : eqb id 0 ≡ false → layer_refusal layer ≡ 0 → length (enlisted (cached_in m) id) ≤ room m → (done_by (Interest id layer) m).refusal ≡ 0
    unfolding done_by interested_of lowest
    want_taken h l place = rw (h, l) (go (is_allowed m layer))
      where
        go : (b : Bool) → ◌≡◌ {A = ℕ} (cond b (ByValue.interested_of (focus_of m) id).refusal none) 0
        go true = refused (focus_of m) (Focus.Interest id) ∙ rw (h, le-ltb (room m) (length (enlisted (cached_in m) id)) place)
        go false = refl

    pub want_quiet : Quiet m (done_by (Interest id layer) m).memory
    unfolding done_by interested_of focus_after
    want_quiet = quiet (Interest id layer) (areas_kept _ _ (go (is_allowed m layer))) (modal (is_allowed m layer))
      where
        go : (b : Bool) → areas_of (cond b (with_focus m (ByValue.interested_of (focus_of m) id).focus) m) ≡ areas_of m
        go true = refl
        go false = refl

        modal : (b : Bool) → (wanted b).top_modal_layer ≡ (focus_in m).top_modal_layer
        modal true = (interest_rest (focus_in m) id).2
        modal false = refl

    module _ (t : (done_by (Interest id layer) m).refusal ≡ 0) where
      want_after : focus_in (done_by (Interest id layer) m).memory ≡ wanted (is_allowed m layer)
      unfolding focus_after
      want_after = took (Interest id layer) t

      pub want_last : is_allowed m layer ≡ true → (focus_in (done_by (Interest id layer) m).memory).last_interested ≡ Some id
      want_last allowed = ap (λ (f : Focus). f.last_interested) want_after ∙ rw allowed (interest_rest (focus_in m) id).1

      -- its id has a place, or the call was turned away
      pub want_cache : (P : List Candidate → Type 0) → P (enlisted (cached_in m) id) → P (cached_in m) → P (cached_in (done_by (Interest id layer) m).memory)
      want_cache P p q = subst (λ (f : Focus). P f.focus_widgets_cache) (sym want_after) (go (is_allowed m layer))
        where
          go : (b : Bool) → P (wanted b).focus_widgets_cache
          go true = rw (interest_rest (focus_in m) id).0 p
          go false = q

-- an ignore that is taken is of an id
pub id_taken : (m : Memory) (id : ℕ) → (done_by (IgnoreFocus id) m).refusal ≡ 0 → eqb id 0 ≡ false
unfolding done_by ignored_of ByValue.ignored_of ignore_of
id_taken m id h = some_id id h

pub ignoring_quiet : (ids : List ℕ) (m : Memory) → Quiet m (run m (ignoring ids))
unfolding run
ignoring_quiet [] m = nothing_quiet m
ignoring_quiet (id ∷ ids) m = let after = (done_by (IgnoreFocus id) m).memory in both_quiet m after (run after (ignoring ids)) (ignore_quiet m id) (ignoring_quiet ids after)
