-- The entries place by place, and what it means that they are taken. Assumes nothing.
use mathlib.Core.Path.{◌≡◌, refl, sym, ap, ◌∙◌}
use Prim.Native.Nat.{ℕ, zero, suc, ◌+◌, ◌*◌, ◌/◌, ◌<◌, ◌≤◌}
use native.Mathlib.Decide.{dec_lt}
use native.Mathlib.Nat.{not-suc-le-zero, le_of_suc-le-suc, zero-add}
use native.Mathlib.Numerals.{add-one}
use native.Mathlib.Omega.{arith}
use mathlib.Core.Bool.{Bool, true, false, cond, true≢false, not}
use mathlib.Core.List.{List, [], ◌∷◌}
use lib.Dec.{ltb}
use lib.Ieee.{Float}
use lib.ListN.{length, get_or, drop, drop_of_length-le}
use borrow.Author.Tests.{lt-ltb, le-ltb}
use Rattle.refusal.specs.Refusal.{none, bad_list, lowest, id_refusal}
use Rattle.refusal.proofs.Laws.{both_none}
use Rattle.grid.specs.Grid.{rect_refusal}
use Rattle.search.specs.declared.Candidate.{Candidate}
use Rattle.used.specs.Used.{rect_from, entries_from, entries_in, ids_of, repeated, entry_refusal, worst_of, used_refusal}
use Rattle.used.proofs.Corners.{corner_missing}
use Rattle.used.proofs.Twice.{twice}

-- ---- the entries from i on
module _ (corners : List Float) where
  abbrev entry : ℕ → ℕ → Candidate
  entry i id = record { id = id; rect = rect_from corners (4 * i) }

  from_ids : (i : ℕ) (ids : List ℕ) → ids_of (entries_from i ids corners) ≡ ids
  unfolding entries_from
  from_ids i [] = refl
  from_ids i (id ∷ ids) = ap (λ (l : List ℕ). id ∷ l) (from_ids (suc i) ids)

  from_length : (i : ℕ) (ids : List ℕ) → length (entries_from i ids corners) ≡ length ids
  unfolding entries_from
  from_length i [] = refl
  from_length i (id ∷ ids) = ap suc (from_length (suc i) ids)

  from_at : (i : ℕ) (ids : List ℕ) (k : ℕ) → k < length ids → drop k (entries_from i ids corners) ≡ entry (i + k) (get_or ids k 0) ∷ drop (suc k) (entries_from i ids corners)
  unfolding entries_from
  from_at i [] k h = absurd (not-suc-le-zero h)
  from_at i (id ∷ ids) zero h = let e : i ≡ i + 0 = omega arith in ap (λ (n : ℕ). entry n id ∷ entries_from (suc i) ids corners) e
  from_at i (id ∷ ids) (suc k) h = let e : i + suc k ≡ suc i + k = omega arith in rw e (from_at (suc i) ids k (le_of_suc-le-suc h))

module _ (ids : List ℕ) (corners : List Float) where
  pub entries_ids : ids_of (entries_in ids corners) ≡ ids
  unfolding entries_in
  entries_ids = from_ids corners 0 ids

  pub entries_length : length (entries_in ids corners) ≡ length ids
  unfolding entries_in
  entries_length = from_length corners 0 ids

  pub entries_at : (k : ℕ) → k < length ids → drop k (entries_in ids corners) ≡ record { id = get_or ids k 0; rect = rect_from corners (4 * k) } ∷ drop (k + 1) (entries_in ids corners)
  unfolding entries_in
  entries_at k h = from_at corners 0 ids k h ∙ (λ j. entry corners (zero-add k j) (get_or ids k 0) ∷ drop (sym (add-one k) j) (entries_in ids corners))

  -- ---- the lowest refusal, as its loop makes it; n is the lowest so far
  abbrev pub worst_from : ℕ → ℕ → ℕ
  worst_from n i = worst_of n (drop i (entries_in ids corners))

  pub worst_more : (n i : ℕ) → i < length ids → (a b e r : ℕ) → a ≡ id_refusal (get_or ids i 0) → b ≡ rect_refusal (rect_from corners (4 * i)) → e ≡ lowest a b → r ≡ lowest n e → worst_from r (i + 1) ≡ worst_from n i
  unfolding worst_of
  worst_more n i h a b e r p q s t = rw (entries_at i h, t, s, p, q)

  pub worst_done : (n i : ℕ) → length ids ≤ i → worst_from n i ≡ n
  unfolding worst_of
  worst_done n i h = ap (worst_of n) (drop_of_length-le (entries_in ids corners) {i = i} (rw entries_length h))

  -- ---- each way to the answer
  module _ (limit : ℕ) where
    pub too_many : limit < length ids → bad_list ≡ used_refusal limit (entries_in ids corners)
    unfolding used_refusal
    too_many h = rw (entries_length, lt-ltb limit (length ids) h)

    module _ (h : length ids ≤ limit) (t : Bool) (e : t ≡ repeated ids) (n : ℕ) (p : n ≡ worst_of none (entries_in ids corners)) where
      counted : (u : Bool) → t ≡ u → used_refusal limit (entries_in ids corners) ≡ lowest n (cond u bad_list none)
      unfolding used_refusal
      counted u f = rw (entries_length, le-ltb limit (length ids) h, entries_ids, ← p, ← e, f)

      pub both_told : (d : ℕ) → d ≡ cond (not t) none bad_list → (r : ℕ) → r ≡ lowest n d → r ≡ used_refusal limit (entries_in ids corners)
      both_told d a r q = q ∙ ap (lowest n) a ∙ go t refl
        where
          go : (u : Bool) → t ≡ u → lowest n (cond (not u) none bad_list) ≡ used_refusal limit (entries_in ids corners)
          go true f = sym (counted true f)
          go false f = sym (counted false f)

-- ---- what it means that the entries are taken
worst_none : (n : ℕ) (entries : List Candidate) → worst_of n entries ≡ 0 → n ≡ 0
unfolding worst_of
worst_none n [] h = h
worst_none n (e ∷ entries) h = (both_none n (entry_refusal e) (worst_none (lowest n (entry_refusal e)) entries h)).0

-- an entry that is taken has all its corners
from_whole : (corners : List Float) (i : ℕ) (ids : List ℕ) (n : ℕ) → worst_of n (entries_from i ids corners) ≡ 0 → 4 * i ≤ length corners → 4 * (i + length ids) ≤ length corners
unfolding entries_from worst_of
from_whole corners i [] n h l = omega arith
from_whole corners i (id ∷ ids) n h l = omega (arith, from_whole corners (suc i) ids (lowest n (entry_refusal e)) h (go (dec_lt i (length corners / 4))))
  where
    e : Candidate
    e = entry corners i id

    go : Dec (i < length corners / 4) → 4 * suc i ≤ length corners
    go (yes d) = omega arith
    go (no d) =
        let here = (both_none n (entry_refusal e) (worst_none (lowest n (entry_refusal e)) (entries_from (suc i) ids corners) h)).1 in
        let z : ◌≡◌ {A = ℕ} 3 0 = corner_missing corners i (omega arith) ∙ (both_none (id_refusal id) (rect_refusal e.rect) here).1 in
        absurd (omega arith)

taken : (s t : Bool) (n : ℕ) → cond s bad_list (lowest n (cond t bad_list none)) ≡ none → (n ≡ 0) × (t ≡ false)
taken true t n h = let z : ◌≡◌ {A = ℕ} 5 0 = h in absurd (omega arith)
taken false true n h = let z : ◌≡◌ {A = ℕ} 5 0 = (both_none n bad_list h).1 in absurd (omega arith)
taken false false n h = ((both_none n none h).0, refl)

module _ (limit : ℕ) (ids : List ℕ) (corners : List Float) (h : used_refusal limit (entries_in ids corners) ≡ none) where
  parts : (worst_of none (entries_in ids corners) ≡ 0) × (repeated (ids_of (entries_in ids corners)) ≡ false)
  unfolding used_refusal
  parts = taken (ltb limit (length (entries_in ids corners))) (repeated (ids_of (entries_in ids corners))) (worst_of none (entries_in ids corners)) h

  pub taken_unrepeated : repeated ids ≡ false
  taken_unrepeated = ap repeated (sym (entries_ids ids corners)) ∙ parts.1

  pub taken_whole : 4 * length ids ≤ length corners
  unfolding entries_in
  taken_whole = omega (arith, from_whole corners 0 ids none parts.0 (omega arith))

-- where no id stands twice, one id is at one place
pub unrepeated : (xs : List ℕ) → repeated xs ≡ false → (i j : ℕ) → i < length xs → j < length xs → get_or xs i 0 ≡ get_or xs j 0 → i ≡ j
unrepeated xs h i j k l e = go (dec_lt i j) (dec_lt j i)
  where
    go : Dec (i < j) → Dec (j < i) → i ≡ j
    go (yes p) d = absurd (true≢false (sym (twice xs i j p l e) ∙ h))
    go (no p) (yes q) = absurd (true≢false (sym (twice xs j i q k (sym e)) ∙ h))
    go (no p) (no q) = omega arith
