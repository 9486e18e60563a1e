-- Interest calls for the ids of a page, one after the other, as `focus_pass` answers each. Definitions only.
use Rattle.std.specs.Prelude.{ℕ, List, [], ◌∷◌, Float}
use Rattle.refusal.specs.Refusal.{number_in, lowest, kept}
use Rattle.focus_rules.specs.declared.Nav.{Nav}
use Rattle.focus_cache.specs.Cache.{Cache, cache_in, cache_on, room_in, held_in, enlisted}
use Rattle.focus_pass.specs.Pass.{interest_of}
use Rattle.board_page.specs.declared.Interested.{Interested}
use Rattle.board_page.specs.declared.SoFar.{SoFar}

-- the lowest refusal so far, the fields and tables after the calls so far
pub record Page : Type 0 where
  pub refusal : ℕ
  pub nav : Nav
  pub cache : Cache
  pub count : ℕ
  pub slot : ℕ

abbrev pub page_in : Interested → List ℕ → List Float → Page
page_in r ids rects = record { refusal = r.refusal; nav = r.nav; cache = cache_in ids rects; count = r.count; slot = r.slot }

abbrev pub page_after : SoFar → List ℕ → List Float → Page
page_after s ids rects = record { refusal = number_in s.checked; nav = s.last.nav; cache = cache_in ids rects; count = s.last.count; slot = s.last.slot }

unfoldable pub wanted : Page → ℕ → Page
wanted p id =
    let held = held_in p.count p.cache.ids p.cache.rects in
    let r = interest_of p.nav (room_in p.cache.ids p.cache.rects) held p.count p.slot id in
    record { refusal = lowest p.refusal r.refusal; nav = r.nav; cache = kept r.refusal p.cache (cache_on p.cache (enlisted held id)); count = r.count; slot = r.slot }

unfoldable pub wanted_all : Page → List ℕ → Page
wanted_all p [] = p
wanted_all p (id ∷ ids) = wanted_all (wanted p id) ids
