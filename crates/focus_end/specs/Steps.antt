-- What the parts of `end_pass` do, for their contracts; no public contract cites them. Definitions only.
use Rattle.std.specs.Prelude.{ℕ, suc, Option, None, Some, List, length}
use Rattle.emath.specs.declared.Rect.{Rect}
use Rattle.search.specs.declared.Candidate.{Candidate}
use Rattle.focus_rules.specs.declared.Nav.{Nav}
use Rattle.focus_cache.specs.Cache.{Cache, put_in}
use Rattle.focus_end.specs.declared.Searched.{Searched}
use Rattle.focus_end.specs.End.{refreshed, found_in}

-- one entry of `retain`: with its new rectangle, where there is one, it is put in place n
abbrev pub count_after : ℕ → Option Rect → ℕ
count_after n None = n
count_after n (Some rect) = suc n

abbrev pub kept_in : Cache → ℕ → ℕ → Option Rect → Cache
kept_in c n id None = c
kept_in c n id (Some rect) = put_in c n (record { id = id; rect = rect })

abbrev pub searched_of : Nav → List Candidate → List Candidate → Searched
searched_of nav held used = record { found = found_in nav held used; count = length (refreshed nav held used) }
