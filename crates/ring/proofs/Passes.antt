-- What the accepted calls of one pass do to the fields of the focus. Assumes nothing.
use Prim.Native.Nat.{ℕ, zero, suc}
use mathlib.Core.Path.{◌≡◌, refl, sym, ap, ◌∙◌}
use mathlib.Core.Bool.{Bool, true, false, cond}
use mathlib.Core.List.{List, [], ◌∷◌, ◌++◌, map, append_assoc}
use native.Mathlib.Omega.{arith}
use borrow.Author.Tests.{not-false, not-true}
use Rattle.refusal.specs.Refusal.{none, lowest, id_refusal, kept}
use Rattle.refusal.proofs.Laws.{both_none}
use Rattle.input.specs.declared.Event.{Event}
use Rattle.layers.specs.declared.LayerId.{LayerId}
use Rattle.layers.specs.Layers.{layer_refusal}
use Rattle.search.specs.declared.Candidate.{Candidate}
use Rattle.focus_rules.specs.declared.Nav.{Nav}
use Rattle.focus_rules.specs.Rules.{changed_to, interested_of}
use Rattle.focus_rules.specs.Page.{wanted_all, NoneOf}
use Rattle.focus_pass.specs.Pass.{begin_of, nav_begun, interest_of, interest_refusal}
use Rattle.focus_end.specs.End.{end_of, nav_ended}
use Rattle.focus.specs.Focus.{held_of}
use Rattle.focus.specs.Focus as Focus
use Rattle.memory_rules.specs.declared.Memory.{Memory}
use Rattle.memory_rules.specs.State.{focus_of, nav_of}
use Rattle.memory_rules.specs.Memory.{is_allowed}
use Rattle.memory_rules.specs.Memory as Memory
use Rattle.ring.specs.Lists.{done_by}
use Rattle.ring.specs.Count.{turned_by}
use Rattle.ring.specs.Ring.{Step, Began, Wanted, Ended, Want, Pass, wanted, registered, steps_of}
use Rattle.ring.proofs.Steps.{after, Takes, Reaches}

abbrev held : Memory → List Candidate
held m = held_of (focus_of m)

-- ---- where nothing is refused
taken : {A : Type 0} (k : ℕ) (x y : A) → k ≡ 0 → kept k x y ≡ y
taken k x y e = rw e

changed : (k : ℕ) (n next : Nav) → (changed_to k n next).refusal ≡ 0 → (changed_to k n next).nav ≡ next
changed zero n next e = refl
changed (suc k) n next e = absurd (omega arith)

some_id : (id : ℕ) → id_refusal id ≡ 0 → id ≡ 0 → ⊥
some_id id e z = let h : ◌≡◌ {A = ℕ} 1 0 = sym (ap (λ (k : ℕ). id_refusal k) z) ∙ e in omega arith

-- ---- the begin and the end
began : (m : Memory) (events : List Event) → Takes m (Began events) → nav_of (after m (Began events)) ≡ nav_begun (nav_of m) (held m) events
unfolding done_by Memory.begun_of begin_of
began m events (e, s) = rw e

ended : (m : Memory) (used : List Candidate) → Takes m (Ended used) → nav_of (after m (Ended used)) ≡ nav_ended (nav_of m) (held m) used
unfolding done_by Memory.ended_of end_of
ended m used (e, s) = rw e

-- ---- an interest call
abbrev is_away : Step → Bool
is_away (Began events) = false
is_away (Wanted id layer away) = away
is_away (Ended used) = false

turned_away_lem : (m : Memory) (id : ℕ) (layer : LayerId) → Takes m (Wanted id layer true) → nav_of (after m (Wanted id layer true)) ≡ nav_of m
unfolding done_by Memory.interested_of
turned_away_lem m id layer (e, s) = rw (e, not-true (is_allowed m layer) (ap is_away s))

let_through : (m : Memory) (id : ℕ) (layer : LayerId) → Takes m (Wanted id layer false) → (nav_of (after m (Wanted id layer false)) ≡ interested_of (nav_of m) id) × (id ≡ 0 → ⊥)
unfolding done_by Memory.interested_of Focus.interested_of interest_of interest_refusal
let_through m id layer (e, s) =
    let allowed : is_allowed m layer ≡ true = not-false _ (ap is_away s) in
    let (ids, room) = both_none (lowest (id_refusal id) (layer_refusal layer)) (cond (is_allowed m layer) (Focus.interested_of (focus_of m) id).refusal none) e in
    (rw (e, allowed) (taken _ _ _ (rw allowed at room)), some_id id (both_none (id_refusal id) (layer_refusal layer) ids).0)

-- ---- the interest calls of a pass: those that are turned away change nothing
module _ (n : ℕ) (end : Memory) (last : ℕ) where
  record Heard (m : Memory) (p : ℕ) (ids : List ℕ) (steps : List Step) : Type 0 where
    next : Memory
    left : nav_of next ≡ wanted_all (nav_of m) ids
    some : NoneOf ids 0
    more : Reaches n end last next p steps

  heard : (m : Memory) (p : ℕ) (wants : List Want) (steps : List Step) → Reaches n end last m p (map wanted wants ++ steps) → Heard m p (registered wants) steps
  unfolding Reaches registered wanted_all NoneOf
  heard m p [] steps r = record { next = m; left = refl; some = tt; more = r }
  heard m p (w ∷ wants) steps (t, r) = go w.turned_away t (heard (after m (wanted w)) p wants steps r)
    where
      go : (away : Bool) → Takes m (Wanted w.id w.layer away) → Heard (after m (wanted w)) p (registered wants) steps → Heard m p (cond away (registered wants) (w.id ∷ registered wants)) steps
      go true t h = record { next = h.next; left = h.left ∙ ap (λ (k : Nav). wanted_all k (registered wants)) (turned_away_lem m w.id w.layer t); some = h.some; more = h.more }
      go false t h =
          let (e, z) = let_through m w.id w.layer t in
          record { next = h.next; left = h.left ∙ ap (λ (k : Nav). wanted_all k (registered wants)) e; some = (z, h.some); more = h.more }

  -- ---- a whole pass
  pub record Passed (m : Memory) (p : ℕ) (pass : Pass) (steps : List Step) : Type 0 where
    pub next : Memory
    pub at_begin : List Candidate
    pub at_end : List Candidate
    pub left : nav_of next ≡ nav_ended (wanted_all (nav_begun (nav_of m) at_begin pass.events) (registered pass.wants)) at_end pass.used
    pub some : NoneOf (registered pass.wants) 0
    pub more : Reaches n end last next (turned_by n pass.events p) steps

  pub passed : (m : Memory) (p : ℕ) (pass : Pass) (steps : List Step) → Reaches n end last m p (steps_of pass ++ steps) → Passed m p pass steps
  unfolding Reaches steps_of
  passed m p pass steps (b, r) = go (heard (after m (Began pass.events)) (turned_by n pass.events p) pass.wants (Ended pass.used ∷ steps) (rw (append_assoc (map wanted pass.wants) (Ended pass.used ∷ []) steps) at r))
    where
      go : Heard (after m (Began pass.events)) (turned_by n pass.events p) (registered pass.wants) (Ended pass.used ∷ steps) → Passed m p pass steps
      go h = record {
        next = after h.next (Ended pass.used);
        at_begin = held m;
        at_end = held h.next;
        left = ended h.next pass.used h.more.0 ∙ ap (λ (k : Nav). nav_ended k (held h.next) pass.used) (h.left ∙ ap (λ (k : Nav). wanted_all k (registered pass.wants)) (began m pass.events b));
        some = h.some;
        more = h.more.1;
      }
