-- One pass over the table that keeps the best so far: the code's, and with another rule the Rust's (lines 748 to 782 of memory/mod.rs). `find`'s contract does not
-- cite it. Definitions only.
use Rattle.std.specs.Prelude.{ℕ, Bool, false, cond, List, [], ◌∷◌}
use Rattle.std.specs.Float.{inf}
use Rattle.emath.specs.declared.Rect.{Rect}
use Rattle.emath.specs.Rect.{everything}
use Rattle.std.specs.Prelude.{Option, None, Some, Float}
use Rattle.search.specs.declared.Candidate.{Candidate}
use Rattle.search.specs.declared.Scored.{Scored}
use Rattle.search.specs.Search.{considered_of}

-- no candidate yet: id 0, which no candidate has
abbrev pub nothing_yet : Scored
nothing_yet = record { score = inf false; candidate = record { id = 0; rect = everything } }

-- ---- the walk, for any rule of who takes the place
unfoldable pub kept_of : (Scored → Scored → Bool) → Scored → Scored → Scored
kept_of takes best new = cond (takes new best) new best

abbrev pub taken_of : (Scored → Scored → Bool) → Scored → Candidate → Option Float → Scored
taken_of takes best c None = best
taken_of takes best c (Some x) = kept_of takes best (record { score = x; candidate = c })

unfoldable pub step_of : (Scored → Scored → Bool) → ℕ → Rect → ℕ → Scored → Candidate → Scored
step_of takes focused current direction best c = taken_of takes best c (considered_of focused current direction c)

unfoldable pub walk_of : (Scored → Scored → Bool) → ℕ → Rect → ℕ → Scored → List Candidate → Scored
walk_of takes focused current direction best [] = best
walk_of takes focused current direction best (c ∷ rest) = walk_of takes focused current direction (step_of takes focused current direction best c) rest
