-- find_widget_in_direction of memory/mod.rs: the best candidate of the cache (lines 748 to 782 of the Rust), with document 01's tie rule. Definitions only.
use Rattle.std.specs.Prelude.{ℕ, Bool, false, ◌&&◌, ◌||◌, not, cond, List, [], ◌∷◌, ltb, eqb, get_or, length, drop, Float}
use Rattle.std.specs.Float.{nan}
use Rattle.std.specs.Float.Ieee.{lt, eq}
use Rattle.emath.specs.declared.Rect.{Rect}
use Rattle.std.specs.Prelude.{Option, None, Some}
use Rattle.candidate.specs.Candidate.{to_candidate, judge_of}
use Rattle.search.specs.declared.Candidate.{Candidate}
use Rattle.search.specs.declared.Scored.{Scored}

-- ---- the cache: an id and four corner coordinates for each place, as far as both go; id 0 marks a free place
abbrev pub place_of : ℕ → List Float → Candidate
place_of id rects = record { id = id; rect = record { min = record { x = get_or rects 0 nan; y = get_or rects 1 nan }; max = record { x = get_or rects 2 nan; y = get_or rects 3 nan } } }

unfoldable pub table_of : List ℕ → List Float → List Candidate
table_of [] rects = []
table_of (id ∷ ids) rects = cond (ltb (length rects) 4) [] (place_of id rects ∷ table_of ids (drop 4 rects))

-- ---- the candidates in the cone, with their scores
abbrev pub is_candidate : ℕ → ℕ → Bool
is_candidate focused id = not (eqb id 0 || eqb id focused)

-- a free place and the focused id count as outside
unfoldable pub considered_of : ℕ → Rect → ℕ → Candidate → Option Float
considered_of focused current direction c = cond (is_candidate focused c.id) (judge_of (to_candidate c.rect current) direction) None

abbrev pub joined : Option Float → Candidate → List Scored → List Scored
joined None c rest = rest
joined (Some x) c rest = record { score = x; candidate = c } ∷ rest

unfoldable pub in_cone_of : ℕ → Rect → ℕ → List Candidate → List Scored
in_cone_of focused current direction [] = []
in_cone_of focused current direction (c ∷ rest) = joined (considered_of focused current direction c) c (in_cone_of focused current direction rest)

-- ---- the tie rule, for equal scores
unfoldable pub goes_first : Candidate → Candidate → Bool
goes_first a b = ltb a.id b.id

-- the smaller score, and of equal scores the one that goes first
unfoldable pub is_better : Scored → Scored → Bool
is_better a b = lt a.score b.score || (eq a.score b.score && goes_first a.candidate b.candidate)

-- ---- the one with none better
unfoldable pub is_beaten : (Scored → Scored → Bool) → List Scored → Scored → Bool
is_beaten better [] a = false
is_beaten better (b ∷ rest) a = better b a || is_beaten better rest a

unfoldable pub first_unbeaten : List Scored → List Scored → ℕ
first_unbeaten all [] = 0
first_unbeaten all (a ∷ rest) = cond (is_beaten is_better all a) (first_unbeaten all rest) a.candidate.id

-- the id of the candidate in the cone that none is better than, or 0 where none lies in the cone
unfoldable pub find_of : List Candidate → ℕ → Rect → ℕ → ℕ
find_of table focused current direction = let scored = in_cone_of focused current direction table in first_unbeaten scored scored
