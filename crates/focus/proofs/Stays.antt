-- A call that is refused leaves the record as it was: x is what the core answered. Assumes nothing.
use mathlib.Core.Path.{◌≡◌, refl, ap, ◌∙◌}
use mathlib.Core.Bool.{Bool, true, false, cond}
use mathlib.Core.List.{List}
use lib.Dec.{ltb}
use Prim.Native.Nat.{ℕ, zero, suc, ◌<◌, ◌≤◌}
use native.Mathlib.Omega.{arith}
use lib.Ieee.{Float}
use Rattle.std.specs.Prelude.{Result, Ok, Err}
use Rattle.refusal.specs.declared.Refusal.{Refusal}
use Rattle.refusal.specs.Refusal.{number_of, number_in, bad_list, none, kept}
use Rattle.refusal.specs.Limits.{used as usedLimit, events as most_events}
use Rattle.refusal.proofs.Laws.{positive}
use Rattle.search.specs.declared.Candidate.{Candidate}
use Rattle.focus_rules.specs.declared.Nav.{Nav}
use Rattle.focus_cache.specs.Cache.{Cache, cache_in, cache_on, room_in, enlisted}
use Rattle.focus_pass.specs.Pass.{begin_of, interest_of}
use Rattle.focus_end.specs.End.{end_of, cache_ended}
use Rattle.focus.specs.declared.Focus.{Focus}
use Rattle.focus.specs.declared.Events.{Events}
use Rattle.focus.specs.declared.Used.{Used}
use Rattle.focus.specs.Focus.{Done, cache_of, held_of, focus_with, events_of, used_of, begun_of, interested_of, ended_with, ended_of}
use Rattle.focus.proofs.Counted.{lent_used, too_many_left, too_many_used_left}

module _ {A : Type 0} (f : Focus) (x : Result A Refusal) (r : Refusal) (q : x ≡ Err r) where
  -- more than the record has is what `lent` refuses
  refused_past : (b : Bool) → number_in x ≡ cond b bad_list none → b ≡ true
  refused_past true h = refl
  refused_past false h = let p = positive r in let z : number_of r ≡ 0 = rw q at h in absurd (omega arith)

  pub many_events_left : (e : Events) → number_in x ≡ cond (ltb most_events e.count) bad_list none → f ≡ (begun_of f e).focus
  many_events_left e h = too_many_left f e (refused_past _ h)

  pub many_used_left : (u : Used) → number_in x ≡ cond (ltb usedLimit u.count) bad_list none → f ≡ (ended_of f u).focus
  many_used_left u h = too_many_used_left f u (refused_past _ h)

  module _ (n : ℕ) (e : number_in x ≡ n) where
    as_was : {B : Type 0} (before after : B) → before ≡ kept n before after
    as_was before after = go n (rw (← e, q) (positive r))
      where
        go : (k : ℕ) → 0 < k → before ≡ kept k before after
        go zero h = absurd (omega arith)
        go (suc k) h = refl

    begin_stays : (nav : Nav) (slot : ℕ) → f ≡ focus_with (kept n f.nav nav) (cache_of f) f.count (kept n f.slot slot)
    begin_stays nav slot = λ i. focus_with (as_was f.nav nav i) (cache_of f) f.count (as_was f.slot slot i)

    -- the tables were lent to the call
    module _ (c after : Cache) (k : c ≡ kept n (cache_of f) after) (nav : Nav) (count : ℕ) where
      stays : (slot : ℕ) → focus_with f.nav c f.count f.slot ≡ focus_with (kept n f.nav nav) (kept n (cache_of f) after) (kept n f.count count) (kept n f.slot slot)
      stays slot = λ i. focus_with (as_was f.nav nav i) (k i) (as_was f.count count i) (as_was f.slot slot i)

      slot_stays : focus_with f.nav c f.count f.slot ≡ focus_with (kept n f.nav nav) (kept n (cache_of f) after) (kept n f.count count) f.slot
      slot_stays = λ i. focus_with (as_was f.nav nav i) (k i) (as_was f.count count i) f.slot

  pub begin_left : (e : Events) → number_in x ≡ (begin_of f.nav (held_of f) (events_of e)).refusal → f ≡ (begun_of f e).focus
  unfolding begun_of begin_of
  begin_left e h = begin_stays _ h _ _

  module _ (ids : List ℕ) (rects : List Float) where
    pub interest_left : (id : ℕ) → number_in x ≡ (interest_of f.nav (room_in f.ids f.rects) (held_of f) f.count f.slot id).refusal
        → cache_in ids rects ≡ kept (interest_of f.nav (room_in f.ids f.rects) (held_of f) f.count f.slot id).refusal (cache_of f) (cache_on (cache_of f) (enlisted (held_of f) id))
        → focus_with f.nav (cache_in ids rects) f.count f.slot ≡ (interested_of f id).focus
    unfolding interested_of interest_of
    interest_left id h k = stays _ h _ _ k _ _ _

    pub end_left : (u : Used) (entries : List Candidate) → entries ≡ used_of u → ended_with f (used_of u) ≡ ended_of f u
        → number_in x ≡ (end_of usedLimit f.nav (held_of f) f.count entries).refusal
        → cache_in ids rects ≡ kept (end_of usedLimit f.nav (held_of f) f.count entries).refusal (cache_of f) (cache_on (cache_of f) (cache_ended f.nav (held_of f) entries))
        → focus_with f.nav (cache_in ids rects) f.count f.slot ≡ (ended_of f u).focus
    unfolding end_of
    end_left u entries p l h k = slot_stays _ h _ _ k _ _ ∙ ap (λ e. (ended_with f e).focus) p ∙ ap (λ (d : Done). d.focus) l

module _ {A : Type 0} (x : Result A Refusal) (v : A) (q : x ≡ Ok v) where
  taken_fits : (b : Bool) → number_in x ≡ cond b bad_list none → b ≡ false
  taken_fits false h = refl
  taken_fits true h = let z : 0 ≡ bad_list = rw q at h in absurd (omega arith)

  pub used_lent : (f : Focus) (u : Used) → number_in x ≡ cond (ltb usedLimit u.count) bad_list none → ended_with f (used_of u) ≡ ended_of f u
  used_lent f u h = lent_used f u (taken_fits _ h)
