-- The events or used entries of an array with a count are those of the part that is lent; a count past its end is too many. Assumes nothing.
use mathlib.Core.Path.{◌≡◌, refl, ap}
use mathlib.Core.List.{List, ◌∷◌}
use mathlib.Core.Bool.{true, false}
use Prim.Native.Nat.{ℕ, zero, suc, ◌+◌, ◌*◌, ◌/◌, ◌%◌, ◌≤◌, ◌<◌}
use native.Mathlib.Omega.{arith}
use lib.Dec.{eqb, ltb}
use lib.ListN.{length, get_or, take}
use lib.Seq.{get_or-take, length-take-le}
use borrow.Author.Tests.{eq-eqb, lt-ltb, le-ltb}
use Rattle.refusal.specs.Refusal.{bad_list}
use Rattle.focus_pass.specs.Events.{missing, event_at, events_from, count_in, events_in}
use Rattle.focus_pass.specs.Pass.{begin_refusal, begin_of}
use Rattle.focus.specs.declared.Focus.{Focus}
use Rattle.focus.specs.declared.Events.{Events}
use Rattle.focus.specs.declared.Used.{Used}
use Rattle.focus.specs.Focus.{events_of, used_of, begun_of, ended_with, ended_of}

count_length : (words : List ℕ) (i n : ℕ) → length (events_from words i n) ≡ n
unfolding events_from
count_length words i zero = refl
count_length words i (suc n) = ap suc (count_length words (suc i) n)

module _ (words : List ℕ) (n : ℕ) where
  event_lent : (i : ℕ) → i < n → event_at (take (4 * n) words) (4 * i) ≡ event_at words (4 * i)
  unfolding event_at
  event_lent i h =
      let same : (o d : ℕ) → o < 4 → get_or (take (4 * n) words) (4 * i + o) d ≡ get_or words (4 * i + o) d = λ o d k. get_or-take (4 * n) words (4 * i + o) d (omega (arith, h, k)) in
      let first : get_or (take (4 * n) words) (4 * i) 0 ≡ get_or words (4 * i) 0 = get_or-take (4 * n) words (4 * i) 0 (omega arith) in
      rw (first, same 1 missing (omega arith), same 1 0 (omega arith), same 2 0 (omega arith), same 3 missing (omega arith))

  from_lent : (i k : ℕ) → i + k ≤ n → events_from (take (4 * n) words) i k ≡ events_from words i k
  unfolding events_from
  from_lent i zero h = refl
  from_lent i (suc k) h = λ j. event_lent i (omega arith) j ∷ from_lent (suc i) k (omega arith) j

  lent : 4 * n ≤ length words → events_in (take (4 * n) words) ≡ events_from words 0 n
  unfolding events_in count_in
  lent h =
      let l = length-take-le (4 * n) words h in
      let whole : eqb (length (take (4 * n) words) % 4) 0 ≡ true = eq-eqb (length (take (4 * n) words) % 4) 0 (omega (arith, l)) in
      let count : length (take (4 * n) words) / 4 + 0 ≡ n = omega (arith, l) in
      rw (whole, count) (from_lent 0 n (omega arith))

module _ (f : Focus) (e : Events) where
  pub too_many : 64 < e.count → bad_list ≡ (begun_of f e).refusal
  unfolding begun_of begin_of begin_refusal
  too_many h = rw (count_length e.words 0 e.count, lt-ltb 64 e.count h)

  pub too_many_left : ltb 64 e.count ≡ true → f ≡ (begun_of f e).focus
  unfolding begun_of begin_of begin_refusal
  too_many_left h = rw (count_length e.words 0 e.count, h)

pub lent_events : (e : Events) → length e.words ≡ 256 → e.count ≤ 64 → events_in (take (4 * e.count) e.words) ≡ events_of e
lent_events e l h = lent e.words e.count (omega arith)

module _ (f : Focus) (u : Used) where
  pub too_many_used : 256 < u.count → bad_list ≡ (ended_of f u).refusal
  unfolding ended_of
  too_many_used h = rw (lt-ltb 256 u.count h)

  pub too_many_used_left : ltb 256 u.count ≡ true → f ≡ (ended_of f u).focus
  unfolding ended_of
  too_many_used_left h = rw h

  -- as many as `lent` lends
  pub lent_used : ltb 256 u.count ≡ false → ended_with f (used_of u) ≡ ended_of f u
  unfolding ended_of
  lent_used h = rw h

  pub few_used : u.count ≤ 256 → ended_with f (used_of u) ≡ ended_of f u
  unfolding ended_of
  few_used h = rw (le-ltb 256 u.count h)
