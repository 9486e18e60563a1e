-- Each return of the calls, and each turn of `remove`. Assumes nothing.
use mathlib.Core.Path.{◌≡◌, refl, sym, ap, ◌∙◌}
use mathlib.Core.Bool.{Bool, false}
use mathlib.Core.List.{List, [], ◌∷◌, ◌++◌}
use Prim.Native.Nat.{ℕ, ◌+◌, min, ◌<◌, ◌≤◌}
use native.Mathlib.Numerals.{add-one}
use native.Mathlib.Omega.{arith}
use lib.Ieee.{Float}
use lib.ListN.{length, get_or, take, length-append, length-take}
use Rattle.std.specs.Prelude.{Option, None, Some}
use Rattle.std.specs.List.{list_any}
use lib.Dec.{eqb}
use lib.Seq.{take_all, length-take-le}
use borrow.Author.Tests.{lt-ltb, le-ltb}
use Rattle.refusal.specs.Refusal.{kept}
use Rattle.emath.specs.declared.Rect.{Rect}
use Rattle.emath.specs.Rect.{everything}
use Rattle.tables.specs.Tables.{after}
use Rattle.search.specs.declared.Candidate.{Candidate}
use Rattle.focus_cache.specs.declared.Enlisted.{Enlisted}
use Rattle.focus_cache.specs.Cache.{Cache, cache_in, room_in, held_in, ids_of, has_id, enlisted, without, cache_on, put_in, rect_at, full_refusal, slot_after, enlisted_of}
use Rattle.focus_cache.proofs.Entries.{held_length, held_ids, held_at, on_held, on_none, on_lengths, put_more, rest_ids, rest_rects, any_has, after_has, after_not, without_length, without_same, without_other}

-- ---- how many are held, and where
module _ (count : ℕ) (ids : List ℕ) (rects : List Float) where
  abbrev held : List Candidate
  held = held_in count ids rects

  pub held_is : (room n : ℕ) → room ≡ room_in ids rects → n ≡ min count room → n ≡ length (held_in count ids rects)
  held_is room n p q = q ∙ rw p (sym (held_length count ids rects))

  module _ (n : ℕ) (e : n ≡ length (held_in count ids rects)) where
    pub held_fits : n ≤ length ids
    held_fits = omega (arith, held_length count ids rects)

    pub held_part : n ≡ length (take n ids)
    held_part = sym (length-take-le n ids held_fits)

    pub part_ids : take n ids ≡ ids_of (held_in count ids rects)
    part_ids = rw (e, held_length count ids rects) (sym (held_ids count ids rects))

    pub contains_part : (id : ℕ) (t : Bool) → t ≡ list_any (λ x. eqb x id) (take n ids) → t ≡ has_id (held_in count ids rects) id
    contains_part id t p = p ∙ rw part_ids (any_has held id)

-- ---- the id has an entry, old or new, or is refused
module _ (count : ℕ) (ids : List ℕ) (rects : List Float) (slot id : ℕ) where
  abbrev entries : List Candidate
  entries = held_in count ids rects

  abbrev answer : Enlisted
  answer = enlisted_of (held_in count ids rects) slot id

  abbrev refused : ℕ
  refused = full_refusal (room_in ids rects) (held_in count ids rects) id

  abbrev after_it : Cache
  after_it = kept (full_refusal (room_in ids rects) (held_in count ids rects) id) (cache_in ids rects) (cache_on (cache_in ids rects) (enlisted (held_in count ids rects) id))

  module _ (n : ℕ) (e : n ≡ length (held_in count ids rects)) (f : Option ℕ) (p : f ≡ after (take n ids) slot id) where
    sought : after (ids_of entries) slot id ≡ f
    sought = rw (← part_ids count ids rects n e) (sym p)

    pub slot_fits : (k : ℕ) → f ≡ Some k → k < length ids
    slot_fits k q = omega (arith, held_fits count ids rects n e, (after_has entries id slot k (sought ∙ q)).0)

    module _ (k : ℕ) (q : f ≡ Some k) where
      pub old_taken : 0 ≡ refused
      unfolding full_refusal enlisted
      old_taken =
          let b = held_length count ids rects in
          rw ((after_has entries id slot k (sought ∙ q)).1, le-ltb (room_in ids rects) (length entries) (omega arith))

      pub old_answer : record { count = n; slot = k + 1 } ≡ answer
      unfolding enlisted_of enlisted slot_after
      old_answer = rw ((after_has entries id slot k (sought ∙ q)).1, sought, q, ← e, add-one)

      pub old_cache : cache_in ids rects ≡ after_it
      unfolding enlisted
      old_cache = rw (← old_taken, (after_has entries id slot k (sought ∙ q)).1) (sym (on_held count ids rects))

    module _ (q : f ≡ None) (room : ℕ) (r : room ≡ room_in ids rects) where
      abbrev new : Candidate
      new = record { id = id; rect = everything }

      not_held : has_id entries id ≡ false
      not_held = after_not entries id slot (sought ∙ q)

      one_longer : length (entries ++ (new ∷ [])) ≡ n + 1
      one_longer = simp length-append (omega arith)

      module _ (h : n < room) where
        pub new_taken : 0 ≡ refused
        unfolding full_refusal enlisted
        new_taken = rw (not_held, one_longer, le-ltb (room_in ids rects) (n + 1) (omega arith))

        pub new_answer : record { count = n + 1; slot = n + 1 } ≡ answer
        unfolding enlisted_of enlisted slot_after
        new_answer = rw (not_held, one_longer, sought, q, ← e, add-one)

        pub new_cache : (now : Cache) (rect : Rect) → rect ≡ everything → now ≡ put_in (cache_in ids rects) n (record { id = id; rect = rect }) → now ≡ after_it
        unfolding enlisted
        new_cache now rect a m = rw (← new_taken, not_held, m, a) (rw (on_held count ids rects) at (put_more (cache_in ids rects) entries n new e (omega arith)))

      module _ (h : room ≤ n) where
        pub full_told : 6 ≡ refused
        unfolding full_refusal enlisted
        full_told = rw (not_held, one_longer, lt-ltb (room_in ids rects) (n + 1) (omega arith))

        pub full_cache : cache_in ids rects ≡ after_it
        full_cache = rw (← full_told)

-- ---- the entries of an id taken out: of the first i those that are left, n of them, stand on the first places
pub record Removed (was : Cache) (held : List Candidate) (id : ℕ) (now : Cache) (n i : ℕ) : Type 0 where
  pub here : now ≡ cache_on was (without (take i held) id)
  pub count : n ≡ length (without (take i held) id)

module _ (count : ℕ) (was : Cache) (id : ℕ) where
  abbrev all : List Candidate
  all = held_in count was.ids was.rects

  pub none_removed : Removed was all id was 0 0
  unfolding without
  none_removed = record { here = sym (on_none was); count = refl }

  module _ (now : Cache) (n i : ℕ) (r : Removed was all id now n i) where
    abbrev left : List Candidate
    left = without (take i all) id

    pub removed_lengths : (length now.ids ≡ length was.ids) × (length now.rects ≡ length was.rects)
    removed_lengths = rw r.here (on_lengths was left)

    pub all_removed : length all ≤ i → (n ≡ length (without all id)) × (now ≡ cache_on was (without all id))
    all_removed h = (rw (take_all i all h) at r.count, rw (take_all i all h) at r.here)

    pub few_left : n ≤ i
    few_left = omega (arith, r.count, without_length (take i all) id, length-take i all)

    module _ (h : i < length all) where
      abbrev entry : Candidate
      entry = record { id = get_or now.ids i 0; rect = rect_at now.rects i }

      entry_was : get_or all i entry ≡ entry
      entry_was =
          held_at count was.ids was.rects i entry (omega (arith, held_length count was.ids was.rects))
          ∙ rw r.here (λ j. record { id = sym (rest_ids was left i 0 b) j; rect = sym (rest_rects was left i b) j })
        where
          b : length left ≤ i
          b = omega (arith, few_left, r.count)

      entry_id : (get_or all i entry).id ≡ get_or now.ids i 0
      entry_id = ap (λ (e : Candidate). e.id) entry_was

      pub remove_passed : get_or now.ids i 0 ≡ id → Removed was all id now n (i + 1)
      remove_passed q = let e = without_same all id i entry h (entry_id ∙ q) in record { here = rw e r.here; count = rw e r.count }

      pub remove_kept : (next : Cache) (rect : Rect) → (get_or now.ids i 0 ≡ id → ⊥) → rect ≡ rect_at now.rects i → next ≡ put_in now n (record { id = get_or now.ids i 0; rect = rect }) → Removed was all id next (n + 1) (i + 1)
      remove_kept next rect q k p =
          let e = without_other all id i entry h (λ z. q (sym entry_id ∙ z)) in
          let b : n < room_in was.ids was.rects = omega (arith, few_left, held_length count was.ids was.rects) in
          record { here = rw (e, entry_was) (p ∙ (λ j. put_in (r.here j) n (record { id = get_or now.ids i 0; rect = k j })) ∙ put_more was left n entry r.count b); count = rw (e, length-append) (omega (arith, r.count)) }
