-- The ring: over a list of passes the focus stands where the count is, and at the end it rests there. Assumes nothing.
use Prim.Native.Nat.{ℕ, ◌<◌}
use mathlib.Core.Path.{◌≡◌, refl, sym, ap, subst, ◌∙◌}
use mathlib.Core.Bool.{Bool, true, false, cond, ◌&&◌, ◌||◌, true≢false, false≢true}
use mathlib.Core.List.{List, [], ◌∷◌}
use native.Mathlib.Omega.{arith}
use lib.ListN.{length, get_or}
use borrow.Author.Tests.{ne_eqb}
use Rattle.input.specs.declared.Event.{Event}
use Rattle.stacking.specs.Lists.{each}
use Rattle.search.specs.declared.Candidate.{Candidate}
use Rattle.focus_rules.specs.declared.Nav.{Nav}
use Rattle.std.specs.Prelude.{Option, None, Some}
use Rattle.focus_rules.specs.Rules.{id_or_nothing}
use Rattle.focus_rules.specs.Page.{wanted_all, NoneOf}
use Rattle.focus_pass.specs.Pass.{nav_begun}
use Rattle.focus_end.specs.End.{nav_ended}
use Rattle.memory_rules.specs.declared.Memory.{Memory}
use Rattle.memory_rules.specs.State.{nav_of}
use Rattle.ring.specs.Lists.{Call, run, made}
use Rattle.ring.specs.Count.{is_tab, is_shift_tab, last, turned_by, counted, place_of, count_of}
use Rattle.ring.specs.Ring.{Step, Pass, steps_of, all_used, Registers, AllRegister, is_quiet, is_press, starts_quiet, are_presses, Distinct, Start, Rests, Rounds, Turns}
use Rattle.ring.proofs.Steps.{Reaches, reaches}
use Rattle.ring.proofs.Passes.{Passed, passed}
use Rattle.ring.proofs.Places.{both, by_test, not_there, none_of, not_elem, elem_at, found, last_field, forward_inside, back_inside}
use Rattle.ring.proofs.Edges.{end_last, page_last}
use Rattle.ring.proofs.Turns.{field, Resting, Standing, rests, pass_of, quiet, tabbed, shift_tabbed}

-- ---- every pass leaves the last field as the last interested id
left_last : (fields : List ℕ) → 0 < length fields → (n : Nav) (at_end used : List Candidate) → (nav_ended (wanted_all n fields) at_end used).last_interested ≡ field fields (last (length fields))
left_last fields l n at_end used = end_last (wanted_all n fields) at_end used ∙ page_last n fields ∙ last_field n.last_interested fields l

-- a pass that registers the fields
page_left : {fields : List ℕ} {n q p : ℕ} {end m : Memory} {pass : Pass} {steps : List Step} → Registers fields pass → (x : Passed n end q m p pass steps)
    → nav_of x.next ≡ pass_of fields (nav_of m) x.at_begin x.at_end pass.used pass.events
page_left {m = m} {pass = pass} a x = x.left ∙ ap (λ (ids : List ℕ). nav_ended (wanted_all (nav_begun (nav_of m) x.at_begin pass.events) ids) x.at_end pass.used) a.0

-- ---- one pass
-- the focus stands at the place, and where the next pass is not quiet it rests there
record Ready (fields : List ℕ) (p : ℕ) (n : Nav) (isNextQuiet : Bool) : Type 0 where
  inside : p < length fields
  stands : Standing fields p n
  at_rest_lem : isNextQuiet ≡ false → Resting fields p n
  last_one : n.last_interested ≡ field fields (last (length fields))

module _ (fields : List ℕ) (distinct : Distinct fields) (some : NoneOf fields 0) where
  abbrev size : ℕ
  size = length fields

  -- the key, where the focus rests
  pressed : (n : Nav) (p : ℕ) (at_begin at_end used : List Candidate) → all_used used fields ≡ true → (e : Event) → (is_tab e || is_shift_tab e) ≡ true → p < size → Resting fields p n
      → n.last_interested ≡ field fields (last size) → (turned_by size (e ∷ []) p < size) × Standing fields (turned_by size (e ∷ []) p) (pass_of fields n at_begin at_end used (e ∷ []))
  unfolding turned_by
  pressed n p at_begin at_end used all e h l r k =
      by_test There (is_tab e) _ _ (λ s. (forward_inside size p l, tabbed fields distinct some n at_begin at_end used all p l e r s))
      (λ s. by_test There (is_shift_tab e) _ _ (λ t. (back_inside size p l, shift_tabbed fields distinct some n at_begin at_end used all p l e r k t)) (λ t. absurd (false≢true (sym (λ i. s i || t i) ∙ h))))
    where
      There : ℕ → Type 0
      There q = (q < size) × Standing fields q (pass_of fields n at_begin at_end used (e ∷ []))

  turn : (n : Nav) (p : ℕ) (at_begin at_end used : List Candidate) → all_used used fields ≡ true → (events : List Event) (later : Bool) → (is_quiet events || (is_press events && later)) ≡ true
      → Ready fields p n (is_quiet events) → Ready fields (turned_by size events p) (pass_of fields n at_begin at_end used events) later
  unfolding turned_by
  turn n p at_begin at_end used all [] later h r =
      let rest : Resting fields p (pass_of fields n at_begin at_end used []) = quiet fields distinct some n at_begin at_end used all p r.inside r.stands in
      record { inside = r.inside; stands = rests rest; at_rest_lem = λ q. rest; last_one = left_last fields (let l = r.inside in omega arith) (nav_begun n at_begin []) at_end used }
  turn n p at_begin at_end used all (e ∷ []) later h r =
      let (key, q) = both (is_tab e || is_shift_tab e) later h in
      let (l, s) = pressed n p at_begin at_end used all e key r.inside (r.at_rest_lem refl) r.last_one in
      record { inside = l; stands = s; at_rest_lem = λ k. absurd (true≢false (sym q ∙ k)); last_one = left_last fields (let l = r.inside in omega arith) (nav_begun n at_begin (e ∷ [])) at_end used }
  turn n p at_begin at_end used all (e ∷ d ∷ events) later h r = absurd (false≢true h)

  -- ---- a list of passes
  walk : (passes : List Pass) (m : Memory) (p : ℕ) (end : Memory) (q : ℕ) → AllRegister fields passes → are_presses passes ≡ true → Ready fields p (nav_of m) (starts_quiet passes)
      → Reaches size end q m p (each steps_of passes) → Ready fields q (nav_of end) false
  unfolding AllRegister are_presses each Reaches
  walk [] m p end q a h r (e, f) = subst (λ (k : ℕ). Ready fields k (nav_of end) false) f (subst (λ (k : Memory). Ready fields p (nav_of k) false) e r)
  walk (pass ∷ passes) m p end q (a, later) h r s =
      let x : Passed size end q m p pass (each steps_of passes) = passed size end q m p pass (each steps_of passes) s in
      let (key, keys) = both (is_quiet pass.events || (is_press pass.events && starts_quiet passes)) (are_presses passes) h in
      walk passes x.next (turned_by size pass.events p) end q later keys
      (subst (λ (k : Nav). Ready fields (turned_by size pass.events p) k (starts_quiet passes)) (sym (page_left a x))
      (turn (nav_of m) p x.at_begin x.at_end pass.used a.1 pass.events (starts_quiet passes) key r))
      x.more

-- ---- a start is all that is needed
pub start_rests : (fields : List ℕ) (m : Memory) → Start fields m → Rests fields m
unfolding each Reaches
start_rests fields m s = go (passed 0 (run s.before s.calls) (counted 0 0 (made s.before s.calls)) s.before 0 s.pass [] (rw s.whole at (reaches 0 s.before 0 s.calls)))
  where
    go : Passed 0 (run s.before s.calls) (counted 0 0 (made s.before s.calls)) s.before 0 s.pass [] → Rests fields m
    go x =
        let (l, f) = found fields (nav_of m).focused s.idle.focused in
        record {
          some = not_elem fields 0 (subst (λ (ids : List ℕ). NoneOf ids 0) s.registers.0 x.some);
          idle = s.idle;
          last_interested =
              ap (λ (k : Memory). (nav_of k).last_interested) (sym (x.more.0 ∙ s.left))
              ∙ ap (λ (k : Nav). k.last_interested) (page_left s.registers x)
              ∙ left_last fields (omega arith) _ x.at_end s.pass.used
              ∙ sym (last_field 0 fields (omega arith));
        }

module _ (fields : List ℕ) (m : Memory) (calls : List Call) (passes : List Pass) (distinct : Distinct fields) (rests_there : Rests fields m) (rounds : Rounds fields m calls passes) where
  abbrev after : Nav
  after = nav_of (run m calls)

  abbrev place : ℕ
  place = place_of fields (nav_of m).focused

  abbrev end : ℕ
  end = counted (length fields) place (made m calls)

  some : NoneOf fields 0
  some = none_of fields 0 rests_there.some

  ready : Ready fields place (nav_of m) (starts_quiet passes)
  ready =
      let i = rests_there.idle in
      let (l, f) = found fields (nav_of m).focused i.focused in
      let rest : Resting fields place (nav_of m) = (sym f, i.tab_off, i.no_give, i.no_next) in
      record { inside = l; stands = rests rest; at_rest_lem = λ q. rest; last_one = rests_there.last_interested ∙ last_field 0 fields (omega arith) }

  at_end : Ready fields end after false
  at_end = walk fields distinct some passes m place (run m calls) end rounds.register rounds.presses ready (rw rounds.whole at (reaches (length fields) m place calls))

  -- it rests at the place that is counted
  at_place : Resting fields end after
  at_place = at_end.at_rest_lem refl

  counts : id_or_nothing after.focused ≡ Some (get_or fields end 0)
  counts = ap (λ (id : ℕ). id_or_nothing id) at_place.0 ∙ ap (λ (b : Bool). cond {A = Option ℕ} b None (Some (get_or fields end 0))) (ne_eqb (get_or fields end 0) 0 (not_there fields 0 end some at_end.inside))

  rests_again : Rests fields (run m calls)
  rests_again = record {
    some = rests_there.some;
    idle = record {
      focused = rw at_place.0 (elem_at fields end at_end.inside);
      tab_off = at_place.1;
      no_next = at_place.3;
      no_give = at_place.2;
    };
    last_interested = at_end.last_one ∙ sym (last_field 0 fields (let l = at_end.inside in omega arith));
  }

  pub ring_from : (id_or_nothing after.focused ≡ Some (count_of fields (nav_of m).focused (made m calls))) × Rests fields (run m calls)
  unfolding count_of
  ring_from = (counts, rests_again)

pub ring : (fields : List ℕ) (m : Memory) (calls : List Call) (passes : List Pass) → Turns fields m calls passes → id_or_nothing (nav_of (run m calls)).focused ≡ Some (count_of fields (nav_of m).focused (made m calls))
ring fields m calls passes t = (ring_from fields m calls passes t.distinct (start_rests fields m t.start) t.rounds).0
