-- A line that is a call: what the call by `&mut` has left is the line's step. A list that is too long is refused whatever it holds. Assumes nothing.
use Rattle.std.proofs.Common.{◌≡◌, ℕ, ◌<◌, ◌≤◌, Bool, true, false, cond, ltb, List, length, Result, refl, sym, ap, ◌∙◌, arith}
use borrow.Author.Tests.{lt-ltb, ltb-true, ltb-false}
use Rattle.refusal.specs.declared.Refusal.{Refusal}
use Rattle.refusal.specs.Refusal.{none, bad_list, number_of, number_in}
use Rattle.refusal.proofs.Laws.{positive}
use Rattle.input.specs.declared.Event.{Event}
use Rattle.search.specs.declared.Candidate.{Candidate}
use Rattle.focus_pass.specs.Pass.{begin_refusal, begin_of}
use Rattle.used.specs.Used.{used_refusal}
use Rattle.focus_end.specs.End.{end_of}
use Rattle.focus.specs.declared.Events.{Events}
use Rattle.focus.specs.declared.Used.{Used}
use Rattle.focus.specs.Focus.{events_of, used_of}
use Rattle.memory_rules.specs.declared.Memory.{Memory}
use Rattle.memory_rules.specs.State.{Done}
use Rattle.memory_rules.specs.Memory.{begun_of, ended_of}
use Rattle.memory_rules.specs.Calls.{Call, Begin, End, done_by}
use Rattle.memory_mut.specs.Left.{left}
use Rattle.requests.specs.Asked.{HoldsEvents, HoldsUsed}
use Rattle.session.specs.declared.runner.Answer.{Answer}
use Rattle.session.specs.declared.runner.Answer.TheVariants.{No}
use Rattle.session.specs.Session.{Step, answer_by, called}

pub called_by : (before : Memory) (call : Call) (m : Memory) (r : Result (Unit {0}) Refusal) (a : Answer) → left m r ≡ done_by call before → a ≡ answer_by (number_in r) → ◌≡◌ {A = Step} (record { memory = m; answer = a }) (called before call)
called_by before call m r a d e = λ i. record { memory = (d i).memory; answer = (e ∙ ap (λ (x : Done). answer_by x.refusal) d) i }

-- a call that is refused by 5 before it is made
bad : (before : Memory) (call : Call) (n : ℕ) → done_by call before ≡ record { memory = before; refusal = bad_list } → n ≡ bad_list → ◌≡◌ {A = Step} (record { memory = before; answer = No n }) (called before call)
bad before call n d e = let s = sym d in λ i. record { memory = (s i).memory; answer = (ap No e ∙ ap (λ (x : Done). answer_by x.refusal) s) i }

-- ---- by what a list that is lent is refused
few : (count limit : ℕ) → none ≡ cond (ltb limit count) bad_list none → count ≤ limit
few count limit h = go (ltb limit count) refl h
  where
    go : (t : Bool) → ltb limit count ≡ t → none ≡ cond t bad_list none → count ≤ limit
    go true e h = absurd (omega (arith, h))
    go false e h = ltb-false limit count e

many : (count limit : ℕ) (r : Refusal) → number_of r ≡ cond (ltb limit count) bad_list none → (limit < count) × (number_of r ≡ bad_list)
many count limit r h = go (ltb limit count) refl h
  where
    go : (t : Bool) → ltb limit count ≡ t → number_of r ≡ cond t bad_list none → (limit < count) × (number_of r ≡ bad_list)
    go true e h = (ltb-true limit count e, h)
    go false e h = absurd (omega (arith, h, positive r))

module _ (before : Memory) (held : Events) (es : List Event) (h : HoldsEvents held es) where
  pub events_lent : none ≡ cond (ltb 64 held.count) bad_list none → (lent : List Event) → lent ≡ events_of held → (m : Memory) (r : Result (Unit {0}) Refusal) (a : Answer) → left m r ≡ begun_of before lent → a ≡ answer_by (number_in r) → ◌≡◌ {A = Step} (record { memory = m; answer = a }) (called before (Begin es))
  unfolding done_by
  events_lent f lent l m r a d e =
      let n = few held.count 64 f in
      called_by before (Begin es) m r a (d ∙ ap (begun_of before) (l ∙ h.is (omega (arith, n, h.count)))) e

  too_long : 64 < length es → done_by (Begin es) before ≡ record { memory = before; refusal = bad_list }
  unfolding done_by begun_of begin_of begin_refusal
  too_long k = rw (lt-ltb 64 (length es) k) refl

  pub events_refused : (r : Refusal) (n : ℕ) → number_of r ≡ cond (ltb 64 held.count) bad_list none → n ≡ number_of r → ◌≡◌ {A = Step} (record { memory = before; answer = No n }) (called before (Begin es))
  events_refused r n p q =
      let w = many held.count 64 r p in
      bad before (Begin es) n (too_long (omega (arith, w.0, h.count))) (q ∙ w.1)

module _ (before : Memory) (held : Used) (us : List Candidate) (h : HoldsUsed held us) where
  pub used_lent : none ≡ cond (ltb 256 held.count) bad_list none → (lent : List Candidate) → lent ≡ used_of held → (m : Memory) (r : Result (Unit {0}) Refusal) (a : Answer) → left m r ≡ ended_of before lent → a ≡ answer_by (number_in r) → ◌≡◌ {A = Step} (record { memory = m; answer = a }) (called before (End us))
  unfolding done_by
  used_lent f lent l m r a d e =
      let n = few held.count 256 f in
      called_by before (End us) m r a (d ∙ ap (ended_of before) (l ∙ h.is (omega (arith, n, h.count)))) e

  too_many : 256 < length us → done_by (End us) before ≡ record { memory = before; refusal = bad_list }
  unfolding done_by ended_of end_of used_refusal
  too_many k = rw (lt-ltb 256 (length us) k) refl

  pub used_refused : (r : Refusal) (n : ℕ) → number_of r ≡ cond (ltb 256 held.count) bad_list none → n ≡ number_of r → ◌≡◌ {A = Step} (record { memory = before; answer = No n }) (called before (End us))
  used_refused r n p q =
      let w = many held.count 256 r p in
      bad before (End us) n (too_many (omega (arith, w.0, h.count))) (q ∙ w.1)
