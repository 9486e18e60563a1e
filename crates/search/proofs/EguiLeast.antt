-- The Rust's own loop finds a least score. Assumes nothing.
use mathlib.Core.Path.{◌≡◌, refl, sym, ap, subst}
use Prim.Native.Nat.{ℕ}
use mathlib.Core.Bool.{false}
use mathlib.Core.List.{List, [], ◌∷◌, Memᴰ}
use Rattle.emath.specs.declared.Rect.{Rect}
use Rattle.search.specs.declared.Candidate.{Candidate}
use Rattle.search.specs.declared.Scored.{Scored}
use Rattle.search.specs.Search.{in_cone_of, is_beaten}
use Rattle.search.specs.EguiWalk.{is_smaller, egui_finds, IsLeast}
use Rattle.search.proofs.Better.{smaller_orders}
use Rattle.search.proofs.Least.{AllGood, least_in, least_unbeaten}
use Rattle.search.proofs.Steps.{Starts, start_of, start_none, cone_good, walk_starts}

starts : (l : List Scored) → AllGood l → Starts is_smaller l
unfolding is_smaller
starts [] L = tt
starts (s ∷ rest) L = L.0.score_finite

kept : (l : List Scored) → AllGood l → IsLeast l (start_of is_smaller l)
kept l L = (start_none is_smaller l L, λ e. ap (λ (k : List Scored). (start_of is_smaller k).candidate.id) e, some l L)
  where
    some : (l : List Scored) → AllGood l → (l ≡ [] → ⊥) → Memᴰ (start_of is_smaller l) l × (is_beaten is_smaller l (start_of is_smaller l) ≡ false)
    some [] L n = absurd (n refl)
    some (s ∷ rest) L n = (least_in is_smaller s rest, least_unbeaten is_smaller smaller_orders s rest L.0 L.1)

pub finds_the_least : (table : List Candidate) (focused : ℕ) (current : Rect) (direction : ℕ) → IsLeast (in_cone_of focused current direction table) (egui_finds focused current direction table)
unfolding egui_finds
finds_the_least table focused current direction =
    let cone = in_cone_of focused current direction table in
    let good = cone_good focused current direction table in
    subst (IsLeast cone) (sym (walk_starts focused current direction is_smaller table (starts cone good))) (kept cone good)
