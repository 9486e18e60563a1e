-- The Rust's own loop over the cache (lines 748 to 782 of memory/mod.rs): the walk in which `if score < best_score` alone decides, from infinity and no id on.
-- Definitions only.
use Rattle.std.specs.Prelude.{◌≡◌, ℕ, Bool, true, false, ◌&&◌, ◌||◌, eqb}
use mathlib.Core.List.{List, [], ◌∷◌, Memᴰ}
use Rattle.std.specs.Float.Ieee.{lt}
use Rattle.emath.specs.declared.Rect.{Rect}
use Rattle.search.specs.declared.Candidate.{Candidate}
use Rattle.search.specs.declared.Scored.{Scored}
use Rattle.search.specs.Search.{goes_first, is_beaten}
use Rattle.search.specs.Walk.{nothing_yet, walk_of}

unfoldable pub is_smaller : Scored → Scored → Bool
is_smaller a b = lt a.score b.score

unfoldable pub egui_finds : ℕ → Rect → ℕ → List Candidate → Scored
egui_finds focused current direction table = walk_of is_smaller focused current direction nothing_yet table

-- what is found is no candidate exactly where the cone is empty, and else one of the cone than which none there has a smaller score
abbrev pub IsLeast : List Scored → Scored → Type 0
IsLeast cone found =
    (found.candidate.id ≡ 0 → cone ≡ []) × (cone ≡ [] → found.candidate.id ≡ 0) × ((cone ≡ [] → ⊥) → Memᴰ found cone × (is_beaten is_smaller cone found ≡ false))

-- c goes first before every later place that is not free
unfoldable pub goes_before : Candidate → List Candidate → Bool
goes_before c [] = true
goes_before c (d ∷ rest) = (eqb d.id 0 || goes_first c d) && goes_before c rest

-- the places that are not free stand in the order of the tie rule
unfoldable pub in_tie_order : List Candidate → Bool
in_tie_order [] = true
in_tie_order (c ∷ rest) = (eqb c.id 0 || goes_before c rest) && in_tie_order rest
