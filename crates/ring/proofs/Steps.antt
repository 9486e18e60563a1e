-- Only the accepted calls of a list count: each changes the state and moves the count, and a refused one does neither. Assumes nothing.
use Prim.Native.Nat.{ℕ, zero, suc}
use mathlib.Core.Path.{◌≡◌, refl, subst}
use mathlib.Core.Bool.{Bool, true, false, not, cond}
use mathlib.Core.List.{List, [], ◌∷◌}
use lib.Dec.{eqb}
use borrow.Author.Tests.{eqb-true, eqb-false}
use Rattle.memory_rules.specs.declared.Memory.{Memory}
use Rattle.memory_rules.specs.State.{done_with}
use Rattle.memory_rules.specs.Memory.{begun_of, interested_of, ended_of}
use Rattle.ring.specs.Lists.{Call, Begin, Interest, End, done_by, run, is_refused, made}
use Rattle.ring.specs.Count.{moved_by, counted}
use Rattle.ring.specs.Ring.{Step, Began, Wanted, Ended, step_of, accepted}

-- ---- a step as its call
abbrev pub call_of : Step → Call
call_of (Began events) = Begin events
call_of (Wanted id layer away) = Interest id layer
call_of (Ended used) = End used

abbrev pub after : Memory → Step → Memory
after m s = (done_by (call_of s) m).memory

-- the state accepts the step, and where it is an interest call turns it away or not as the step says
abbrev pub Takes : Memory → Step → Type 0
Takes m s = ((done_by (call_of s) m).refusal ≡ 0) × (step_of m (call_of s) ≡ s)

-- ---- from a state and a place, by accepted steps, to a state and a place on a ring of n
module _ (n : ℕ) (end : Memory) (last : ℕ) where
  unfoldable pub Reaches : Memory → ℕ → List Step → Type 0
  Reaches m p [] = (m ≡ end) × (p ≡ last)
  Reaches m p (s ∷ steps) = Takes m s × Reaches (after m s) (moved_by n (call_of s) p) steps

  one_more_lem : (c : Call) (m : Memory) (p : ℕ) (steps : List Step) → (done_by c m).refusal ≡ 0 → Reaches (done_by c m).memory (moved_by n c p) steps → Reaches m p (step_of m c ∷ steps)
  unfolding Reaches
  one_more_lem (Begin events) m p steps e r = ((e, refl), r)
  one_more_lem (Interest id layer) m p steps e r = ((e, refl), r)
  one_more_lem (End used) m p steps e r = ((e, refl), r)

-- ---- a refused call changes nothing
stays : (k : ℕ) (m next : Memory) → (k ≡ 0 → ⊥) → (done_with k m next).memory ≡ m
stays zero m next h = absurd (h refl)
stays (suc k) m next h = refl

refused : (c : Call) (m : Memory) → ((done_by c m).refusal ≡ 0 → ⊥) → (done_by c m).memory ≡ m
unfolding done_by begun_of interested_of ended_of
refused (Begin events) m = stays _ _ _
refused (Interest id layer) m = stays _ _ _
refused (End used) m = stays _ _ _

pub reaches : (n : ℕ) (m : Memory) (p : ℕ) (calls : List Call) → Reaches n (run m calls) (counted n p (made m calls)) m p (accepted m calls)
unfolding Reaches run counted made accepted is_refused
reaches n m p [] = (refl, refl)
reaches n m p (c ∷ calls) = go (eqb (done_by c m).refusal 0) refl (λ q. reaches n (done_by c m).memory q calls)
  where
    next : Memory
    next = (done_by c m).memory

    rest : List Step
    rest = accepted next calls

    go : (b : Bool) → eqb (done_by c m).refusal 0 ≡ b → ((q : ℕ) → Reaches n (run next calls) (counted n q (made next calls)) next q rest)
        → Reaches n (run next calls) (counted n (cond (not b) p (moved_by n c p)) (made next calls)) m p (cond (not b) rest (step_of m c ∷ rest))
    go true e r = one_more_lem _ _ _ c m p rest (eqb-true _ 0 e) (r (moved_by n c p))
    go false e r = subst (λ (k : Memory). Reaches n (run next calls) (counted n p (made next calls)) k p rest) (refused c m (eqb-false _ 0 e)) (r p)
