-- The first line of a session, and what comes after it. Assumes nothing.
use Rattle.std.proofs.Common.{◌≡◌, ℕ, suc, ◌+◌, ◌-◌, ◌<◌, Bool, true, false, cond, eqb, List, [], ◌∷◌, length, take, drop, min, refl, ap, arith, length-take, length-drop}
use Rattle.std.proofs.lemmas.Grind.{common_steps}
use Rattle.text.specs.Read.{length_before, find_from}
use Rattle.session.specs.Session.{onto, lines_of}
use Rattle.session.specs.Runs.{Cuts}

-- a byte that is no line's end, in front of the others
front : (b : ℕ) (s : List ℕ) → (0 < length s → lines_of s ≡ take (length_before 10 s) s ∷ lines_of (drop (suc (length_before 10 s)) s)) → onto b (lines_of s) ≡ (b ∷ take (length_before 10 s) s) ∷ lines_of (drop (suc (length_before 10 s)) s)
unfolding lines_of length_before
front b [] h = refl
front b (c ∷ s) h = ap (onto b) (h (omega arith))

first_line : (s : List ℕ) → 0 < length s → lines_of s ≡ take (length_before 10 s) s ∷ lines_of (drop (suc (length_before 10 s)) s)
unfolding lines_of length_before
first_line [] h = absurd (omega arith)
first_line (b ∷ s) h = go (eqb b 10) (front b s (first_line s))
  where
    go : (t : Bool) → onto b (lines_of s) ≡ (b ∷ take (length_before 10 s) s) ∷ lines_of (drop (suc (length_before 10 s)) s)
        → cond t ([] ∷ lines_of s) (onto b (lines_of s)) ≡ take (cond t 0 (suc (length_before 10 s))) (b ∷ s) ∷ lines_of (drop (suc (cond t 0 (suc (length_before 10 s)))) (b ∷ s))
    go true e = refl
    go false e = e

pub lines_cut : (s : List ℕ) (n k : ℕ) → n ≡ find_from s 0 10 → k ≡ min (n + 1) (length s) → 0 < length s → Cuts s (take n s) (take (length s - k) (drop k s))
lines_cut s n k e m h =
    let p : n ≡ length_before 10 s = omega arith in
    let q : n + 1 ≡ suc (length_before 10 s) = omega arith in
    let d : take (length s - k) (drop k s) ≡ drop (n + 1) s = rw m (grind (arith, common_steps)) in
    record {
      lines = rw (d, q, p) (first_line s h);
      shorter = rw d (omega (arith, length-take n s, length-drop (n + 1) s));
      less = rw d (omega (arith, h, length-drop (n + 1) s));
    }
