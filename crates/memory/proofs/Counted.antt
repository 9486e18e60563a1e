-- The lists that begin and end a pass, each an array with a count: a count past the array's end is too many, and else the list is that of the part that is lent. Assumes nothing.
use mathlib.Core.Path.{◌≡◌, refl, ap, ◌∙◌}
use mathlib.Core.Bool.{Bool, true, false, cond}
use Prim.Native.Nat.{ℕ, ◌<◌}
use native.Mathlib.Omega.{arith}
use lib.Dec.{ltb}
use lib.ListN.{length-replicate}
use borrow.Author.Tests.{lt-ltb, ltb-true}
use Rattle.std.specs.Prelude.{Err}
use Rattle.refusal.specs.declared.Refusal.{Refusal}
use Rattle.refusal.specs.Refusal.{none, bad_list, number_of}
use Rattle.refusal.proofs.Laws.{positive}
use Rattle.used.specs.Used.{used_refusal}
use Rattle.focus_end.specs.End.{end_of}
use Rattle.focus.specs.declared.Events.{Events}
use Rattle.focus.specs.declared.Used.{Used}
use Rattle.focus.specs.Focus.{events_of, used_of}
use Rattle.focus.specs.Focus.{begun_of as focusBegun}
use Rattle.focus.proofs.Counted.{too_many}
use Rattle.memory_rules.specs.declared.Memory.{Memory}
use Rattle.memory_rules.specs.State.{Done, done, focus_of}
use Rattle.memory_rules.specs.Memory.{begun_of, ended_of, no_entry, used_in}
use Rattle.memory_rules.proofs.Refused.{leaves}

-- a refusal that is told where a count passes its limit
told : {A : Type 0} (r : Refusal) (limit count : ℕ) → number_of r ≡ cond (ltb limit count) bad_list none → (limit < count → number_of r ≡ bad_list → A) → A
told {A = A} r limit count p k = go (ltb limit count) (ltb-true limit count) p
  where
    go : (t : Bool) → (t ≡ true → limit < count) → number_of r ≡ cond t bad_list none → A
    go true f p = k (f refl) p
    go false f p = absurd (let q = positive r in omega arith)

pub events_told : (m : Memory) (e : Events) (r : Refusal) → number_of r ≡ cond (ltb 64 e.count) bad_list none → done m (Err r) ≡ begun_of m (events_of e)
unfolding begun_of focusBegun
events_told m e r p = told r 64 e.count p (λ h q. leaves r _ (q ∙ too_many (focus_of m) e h) m _)

abbrev left : Memory → ℕ → Done
left m n = record { memory = m; refusal = n }

module _ (m : Memory) (u : Used) where
  too_many_used : 256 < u.count → ◌≡◌ {A = Done} (record { memory = m; refusal = bad_list }) (ended_of m (used_in u))
  unfolding ended_of end_of used_refusal
  too_many_used h = rw (lt-ltb 256 u.count h, length-replicate u.count no_entry, lt-ltb 256 u.count h)

  pub used_told : (r : Refusal) → number_of r ≡ cond (ltb 256 u.count) bad_list none → done m (Err r) ≡ ended_of m (used_in u)
  used_told r p = told r 256 u.count p (λ h q. ap (λ (n : ℕ). left m n) q ∙ too_many_used h)

  pub used_taken : none ≡ cond (ltb 256 u.count) bad_list none → ended_of m (used_of u) ≡ ended_of m (used_in u)
  used_taken h = go (ltb 256 u.count) refl h
    where
      go : (t : Bool) → ltb 256 u.count ≡ t → none ≡ cond t bad_list none → ended_of m (used_of u) ≡ ended_of m (used_in u)
      go true e h = absurd (omega arith)
      go false e h = rw e
