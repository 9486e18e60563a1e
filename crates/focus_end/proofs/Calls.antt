-- Each return of the calls, and each turn of `retain`. Assumes nothing.
use Rattle.std.specs.Prelude.{Option, None, Some}
use mathlib.Core.Path.{◌≡◌, refl, sym, ap, ◌∙◌}
use mathlib.Core.Bool.{Bool, true, false, cond}
use mathlib.Core.List.{List, [], ◌++◌, append-nil}
use Prim.Native.Nat.{ℕ, ◌+◌, ◌*◌, ◌<◌, ◌≤◌}
use native.Mathlib.Numerals.{add-one}
use native.Mathlib.Omega.{arith}
use lib.Dec.{eqb}
use lib.Ieee.{Float}
use lib.ListN.{length, get_or, take, drop, length-append, length-take}
use lib.Seq.{take_all, length-take-le}
use Rattle.std.specs.List.{list_any}
use Rattle.emath.specs.declared.Rect.{Rect}
use Rattle.tables.specs.Tables.{first_from, after}
use Rattle.tables.proofs.Finding.{after_at}
use Rattle.search.specs.declared.Candidate.{Candidate}
use Rattle.search.specs.Search.{table_of, find_of}
use Rattle.focus_rules.specs.declared.Nav.{Nav}
use Rattle.focus_rules.specs.declared.FocusWidget.{FocusWidget}
use Rattle.focus_rules.specs.Rules.{focused_widget}
use Rattle.focus_cache.specs.Cache.{Cache, cache_in, room_in, held_in, has_id, cache_on, put_in, rect_at}
use Rattle.focus_cache.proofs.Entries.{held_length, held_at, part_table, on_held, on_none, on_lengths, held_on, put_more, rest_ids, any_has}
use Rattle.used.specs.Used.{entries_in, repeated}
use Rattle.used.proofs.Entries.{entries_ids}
use Rattle.focus_end.specs.declared.Searched.{Searched}
use Rattle.focus_end.specs.End.{rect_in, kept_with, updated, search_from, refreshed, found_in}
use Rattle.focus_end.specs.Steps.{count_after, kept_in, searched_of}
use Rattle.focus_end.proofs.Entries.{table_at, table_none, used_at, used_none, updated_length, updated_more}

-- ---- an id among the used ones, and its rectangle in a table
pub among : (used : List ℕ) (corners : List Float) (id : ℕ) → list_any (λ x. eqb x id) used ≡ has_id (entries_in used corners) id
among used corners id = rw entries_ids at (any_has (entries_in used corners) id)

module _ (ids : List ℕ) (rects : List Float) (h : 4 * length ids ≤ length rects) (id : ℕ) (f : Option ℕ) (p : f ≡ first_from 0 (drop 0 ids) id) where
  pub rect_there : (k : ℕ) (rect : Rect) → f ≡ Some k → rect ≡ rect_at rects k → Some rect ≡ rect_in (table_of ids rects) id
  rect_there k rect q r = ap Some r ∙ sym (table_at ids rects h id k (sym p ∙ q))

  pub rect_absent : f ≡ None → None ≡ rect_in (table_of ids rects) id
  rect_absent q = sym (table_none ids rects h id (sym p ∙ q))

-- ---- one entry kept with its new rectangle, or left out
pub found_fits : (used : List ℕ) (from id : ℕ) (f : Option ℕ) → f ≡ after used from id → (k : ℕ) → f ≡ Some k → k < length used
found_fits used from id f p k q = (after_at used from id k (sym p ∙ q)).0

module _ (used : List ℕ) (corners : List Float) (from id : ℕ) (f : Option ℕ) (p : f ≡ after used from id) (n : ℕ) (was : Cache) where
  abbrev new : Option Rect
  new = rect_in (entries_in used corners) id

  pub keeps : repeated used ≡ false → 4 * length used ≤ length corners → (k : ℕ) (rect : Rect) (now : Cache) → f ≡ Some k → rect ≡ rect_at corners k → now ≡ put_in was n (record { id = id; rect = rect }) → (n + 1 ≡ count_after n new) × (now ≡ kept_in was n id new)
  keeps u b k rect now q r s = rw (used_at used corners from id k u b (sym p ∙ q)) (add-one n, s ∙ ap (λ (t : Rect). put_in was n (record { id = id; rect = t })) r)

  pub leaves_out : f ≡ None → (n ≡ count_after n new) × (was ≡ kept_in was n id new)
  leaves_out q = rw (used_none used corners from id (sym p ∙ q)) (refl, refl)

-- ---- `retain`: of the first i those that are used, n of them, stand on the first places
pub record Retained (was : Cache) (held used : List Candidate) (now : Cache) (n i : ℕ) : Type 0 where
  pub here : now ≡ cache_on was (updated used (take i held))
  pub count : n ≡ length (updated used (take i held))

module _ (count : ℕ) (was : Cache) (used : List Candidate) where
  abbrev all : List Candidate
  all = held_in count was.ids was.rects

  pub none_retained : Retained was all used was 0 0
  unfolding updated
  none_retained = record { here = sym (on_none was); count = refl }

  module _ (now : Cache) (n i : ℕ) (r : Retained was all used now n i) where
    abbrev left : List Candidate
    left = updated used (take i all)

    pub retained_lengths : (length now.ids ≡ length was.ids) × (length now.rects ≡ length was.rects)
    retained_lengths = rw r.here (on_lengths was left)

    pub all_retained : length all ≤ i → (n ≡ length (updated used all)) × (now ≡ cache_on was (updated used all))
    all_retained h = (rw (take_all i all h) at r.count, rw (take_all i all h) at r.here)

    pub few_left : n ≤ i
    few_left = omega (arith, r.count, updated_length used (take i all), length-take i all)

    module _ (h : i < length all) where
      abbrev id : ℕ
      id = get_or now.ids i 0

      abbrev entry : Candidate
      entry = record { id = id; rect = rect_at now.rects i }

      entry_id : (get_or all i entry).id ≡ id
      entry_id =
          ap (λ (e : Candidate). e.id) (held_at count was.ids was.rects i entry (omega (arith, held_length count was.ids was.rects)))
          ∙ rw r.here (sym (rest_ids was left i 0 (omega (arith, few_left, r.count))))

      one_more_lem : (t : Option Rect) → rect_in used id ≡ t → updated used (take (i + 1) all) ≡ left ++ kept_with t id []
      one_more_lem t e = updated_more used all i entry h ∙ ap (λ (k : ℕ). left ++ kept_with (rect_in used k) k []) entry_id ∙ ap (λ (t : Option Rect). left ++ kept_with t id []) e

      pub retain_more : (next : Cache) (m : ℕ) → m ≡ count_after n (rect_in used id) → next ≡ kept_in now n id (rect_in used id) → Retained was all used next m (i + 1)
      retain_more next m p q = go (rect_in used id) refl p q
        where
          go : (t : Option Rect) → rect_in used id ≡ t → m ≡ count_after n t → next ≡ kept_in now n id t → Retained was all used next m (i + 1)
          go None e p q = let s = one_more_lem None e ∙ append-nil left in record { here = rw s (q ∙ r.here); count = rw s (p ∙ r.count) }
          go (Some rect) e p q =
              let new : Candidate = record { id = id; rect = rect } in
              let b : n < room_in was.ids was.rects = omega (arith, few_left, held_length count was.ids was.rects) in
              record { here = rw (one_more_lem (Some rect) e) (q ∙ ap (λ (c : Cache). put_in c n new) r.here ∙ put_more was left n new r.count b); count = rw (one_more_lem (Some rect) e, length-append) (omega (arith, r.count)) }

-- ---- the search: no widget is focused, it is not cached, or one is found from its rectangle
module _ (nav : Nav) (w : Option FocusWidget) (p : w ≡ focused_widget nav) where
  none_focused : w ≡ None → eqb nav.focused 0 ≡ true
  none_focused q = go (eqb nav.focused 0) (sym p ∙ q)
    where
      go : (t : Bool) → cond {A = Option FocusWidget} t None (Some (record { id = nav.focused; filter = nav.filter })) ≡ None → t ≡ true
      go true h = refl
      go false h = let z : ◌≡◌ {A = ℕ} 0 1 = cc in absurd (omega arith)

  one_focused : (f : FocusWidget) → w ≡ Some f → (eqb nav.focused 0 ≡ false) × (f.id ≡ nav.focused)
  one_focused f q = go (eqb nav.focused 0) (sym p ∙ q)
    where
      go : (t : Bool) → cond {A = Option FocusWidget} t None (Some (record { id = nav.focused; filter = nav.filter })) ≡ Some f → (t ≡ false) × (f.id ≡ nav.focused)
      go true h = let z : ◌≡◌ {A = ℕ} 0 1 = cc in absurd (omega arith)
      go false h = (refl, cc)

module _ (count : ℕ) (ids : List ℕ) (rects : List Float) (used : List Candidate) where
  abbrev held : List Candidate
  held = held_in count ids rects

  abbrev before : Cache
  before = cache_in ids rects

  abbrev fresh : List Candidate
  fresh = updated used held

  abbrev Searches : Nav → ℕ → ℕ → Cache → Type 0
  Searches nav found n now = (◌≡◌ {A = Searched} (record { found = found; count = n }) (searched_of nav held used)) × (now ≡ cache_on before (refreshed nav held used))

  pub unfocused : (nav : Nav) (w : Option FocusWidget) (n : ℕ) → w ≡ focused_widget nav → w ≡ None → n ≡ length held → Searches nav 0 n before
  unfolding found_in refreshed
  unfocused nav w n p q e = rw (none_focused nav w p q) (ap (λ (k : ℕ). record { found = 0; count = k }) e, sym (on_held count ids rects))

  module _ (n : ℕ) (e : n ≡ length fresh) where
    pub fresh_few : (n ≤ length ids) × (4 * n ≤ length rects)
    fresh_few = let b = held_length count ids rects in let u = updated_length used held in (omega arith, omega arith)

    module _ (now : Cache) (p : now ≡ cache_on before fresh) where
      pub fresh_fits : (n ≤ length now.ids) × (4 * n ≤ length now.rects)
      fresh_fits = let (a, b) = on_lengths before fresh in rw (p, a, b) fresh_few

      pub fresh_part : (n ≡ length (take n now.ids)) × (4 * n ≡ length (take (4 * n) now.rects))
      fresh_part = (sym (length-take-le n now.ids fresh_fits.0), sym (length-take-le (4 * n) now.rects fresh_fits.1))

      abbrev part : List Candidate
      part = table_of (take n now.ids) (take (4 * n) now.rects)

      part_fresh : part ≡ fresh
      part_fresh = part_table n now.ids now.rects (omega (arith, fresh_fits)) ∙ rw (p, e) (held_on before fresh (omega (arith, fresh_few)))

      module _ (nav : Nav) (w : Option FocusWidget) (q : w ≡ focused_widget nav) (f : FocusWidget) (h : w ≡ Some f) (r : Option Rect) (s : r ≡ rect_in part f.id) where
        searched : (found : ℕ) → found ≡ search_from r nav fresh → Searches nav found n now
        unfolding found_in refreshed
        searched found z =
            let (b, k) = one_focused nav w q f h in
            let here : found ≡ search_from (rect_in fresh nav.focused) nav fresh = z ∙ ap (λ (t : Option Rect). search_from t nav fresh) (s ∙ (λ i. rect_in (part_fresh i) (k i))) in
            rw b ((λ i. record { found = here i; count = e i }), p)

        pub uncached : r ≡ None → Searches nav 0 n now
        uncached z = searched 0 (rw z)

        pub finds : (current : Rect) (found : ℕ) → r ≡ Some current → found ≡ find_of part f.id current nav.focus_direction → Searches nav found n now
        finds current found z y = searched found (y ∙ rw (z, part_fresh, (one_focused nav w q f h).1))
