-- Focus::end_pass and find_widget_in_direction of memory/mod.rs (lines 635 to 653 and 708 to 783) over the fields of crate focus_rules, the entries of the cache and those that were used, with
-- document 01's refusals. Definitions only.
use Rattle.std.specs.Prelude.{ℕ, cond, Option, None, Some, List, [], ◌∷◌, eqb, length}
use Rattle.refusal.specs.Refusal.{kept}
use Rattle.input.specs.FocusDirection.{is_cardinal}
use Rattle.emath.specs.declared.Rect.{Rect}
use Rattle.search.specs.declared.Candidate.{Candidate}
use Rattle.search.specs.Search.{find_of}
use Rattle.focus_rules.specs.declared.Nav.{Nav}
use Rattle.focus_rules.specs.Rules.{found_of, ended_of}
use Rattle.focus_cache.specs.Cache.{has_id}
use Rattle.used.specs.Used.{used_refusal}

-- ---- the map's `get`
unfoldable pub rect_in : List Candidate → ℕ → Option Rect
rect_in [] id = None
rect_in (e ∷ entries) id = cond (eqb e.id id) (Some e.rect) (rect_in entries id)

-- ---- `retain`: an entry that is used takes its new rectangle, the others are left out
abbrev pub kept_with : Option Rect → ℕ → List Candidate → List Candidate
kept_with None id rest = rest
kept_with (Some rect) id rest = record { id = id; rect = rect } ∷ rest

unfoldable pub updated : List Candidate → List Candidate → List Candidate
updated used [] = []
updated used (e ∷ held) = kept_with (rect_in used e.id) e.id (updated used held)

-- ---- find_widget_in_direction, from the focused id's rectangle on: the id found, or 0
abbrev pub search_from : Option Rect → Nav → List Candidate → ℕ
search_from None nav cache = 0
search_from (Some current) nav cache = find_of cache nav.focused current nav.focus_direction

-- the cache, and what is found, where a widget is focused; where none is, the search leaves at once
unfoldable pub refreshed : Nav → List Candidate → List Candidate → List Candidate
refreshed nav held used = cond (eqb nav.focused 0) held (updated used held)

unfoldable pub found_in : Nav → List Candidate → List Candidate → ℕ
found_in nav held used = cond (eqb nav.focused 0) 0 (search_from (rect_in (updated used held) nav.focused) nav (updated used held))

-- ---- end_pass
unfoldable pub cache_ended : Nav → List Candidate → List Candidate → List Candidate
cache_ended nav held used = cond (is_cardinal nav.focus_direction) (refreshed nav held used) held

unfoldable pub nav_ended : Nav → List Candidate → List Candidate → Nav
nav_ended nav held used =
    let next = cond (is_cardinal nav.focus_direction) (found_of nav (found_in nav held used)) nav in
    ended_of next (has_id used next.focused)

-- what it comes to: by what number it is refused, 0 for none, the fields after it, and how many entries the cache holds
pub record Ended : Type 0 where
  pub refusal : ℕ
  pub nav : Nav
  pub count : ℕ

unfoldable pub end_of : ℕ → Nav → List Candidate → ℕ → List Candidate → Ended
end_of limit nav held count used =
    let refusal = used_refusal limit used in
    record { refusal = refusal; nav = kept refusal nav (nav_ended nav held used); count = kept refusal count (length (cache_ended nav held used)) }
