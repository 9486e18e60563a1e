-- Two lists of whole passes are one, the second from the state that the first left. Assumes nothing.
use mathlib.Core.Path.{◌≡◌, refl, sym, ap, ◌∙◌}
use mathlib.Core.Bool.{Bool, true, false, cond, ◌&&◌, ◌||◌, false≢true}
use mathlib.Core.List.{List, [], ◌∷◌, ◌++◌}
use Prim.Native.Nat.{ℕ}
use Rattle.stacking.specs.Lists.{each}
use Rattle.stacking.proofs.Lists.{each_append}
use Rattle.memory_rules.specs.declared.Memory.{Memory}
use Rattle.ring.specs.Lists.{Call, done_by, run, is_refused}
use Rattle.ring.specs.Ring.{Step, Pass, step_of, steps_of, accepted, AllRegister, is_quiet, is_press, starts_quiet, are_presses, Rounds}
use Rattle.ring.proofs.Places.{both}

accepted_append : (xs ys : List Call) (m : Memory)
    → accepted m (xs ++ ys) ≡ accepted m xs ++ accepted (run m xs) ys
unfolding accepted run
accepted_append [] ys m = refl
accepted_append (x ∷ xs) ys m =
    let next : Memory = (done_by x m).memory in
    rw (accepted_append xs ys next) (kept (is_refused m x) (accepted next xs) (accepted (run next xs) ys))
  where
    kept : (b : Bool) (rest more : List Step)
        → cond b (rest ++ more) (step_of m x ∷ (rest ++ more)) ≡ cond b rest (step_of m x ∷ rest) ++ more
    kept true rest more = refl
    kept false rest more = refl

registers_append : (fields : List ℕ) (ps qs : List Pass)
    → AllRegister fields ps → AllRegister fields qs → AllRegister fields (ps ++ qs)
unfolding AllRegister
registers_append fields [] qs h k = k
registers_append fields (p ∷ ps) qs (a, h) k = (a, registers_append fields ps qs h k)

-- the pass after a press is one of the same list
presses_append : (ps qs : List Pass)
    → are_presses ps ≡ true → are_presses qs ≡ true → are_presses (ps ++ qs) ≡ true
unfolding are_presses
presses_append [] qs h k = k
presses_append (p ∷ ps) qs h k =
    let (a, b) = both (is_quiet p.events || (is_press p.events && starts_quiet ps)) (are_presses ps) h in
    rw (more (is_quiet p.events) (is_press p.events) ps a, presses_append ps qs b k) refl
  where
    more : (q r : Bool) (ps : List Pass) → (q || (r && starts_quiet ps)) ≡ true
        → (q || (r && starts_quiet (ps ++ qs))) ≡ true
    more true r ps h = refl
    more false true (s ∷ ps) h = h
    more false true [] h = absurd (false≢true h)
    more false false ps h = absurd (false≢true h)

pub joined : (fields : List ℕ) (m : Memory) (calls rest : List Call) (passes more : List Pass)
    → Rounds fields m calls passes → Rounds fields (run m calls) rest more
    → Rounds fields m (calls ++ rest) (passes ++ more)
joined fields m calls rest passes more a b = record {
  whole =
      accepted_append calls rest m
      ∙ ap (λ (steps : List Step). steps ++ accepted (run m calls) rest) a.whole
      ∙ ap (λ (steps : List Step). each steps_of passes ++ steps) b.whole
      ∙ sym (each_append steps_of passes more);
  register = registers_append fields passes more a.register b.register;
  presses = presses_append passes more a.presses b.presses;
}
