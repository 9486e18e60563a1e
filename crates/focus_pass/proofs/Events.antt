-- The events that numbers are, one at a time, and each turn of the loop over them. Assumes nothing.
use mathlib.Core.Path.{◌≡◌, refl, sym, ap, ◌∙◌}
use mathlib.Core.Bool.{Bool, true, false, cond}
use mathlib.Core.List.{List, [], ◌∷◌, ◌++◌, append-nil}
use Prim.Native.Nat.{ℕ, zero, suc, ◌+◌, ◌*◌, ◌/◌, ◌%◌, min, ◌<◌}
use native.Mathlib.Omega.{arith}
use lib.Dec.{eqb}
use lib.ListN.{length, get_or, take, drop, length-append, length-drop, drop_of_length-le}
use lib.Seq.{get_or-take, get_or-drop, take_all, take-append_seam, drop-append_seam}
use borrow.Author.Tests.{eqb-true, eqb-false}
use Rattle.refusal.specs.Refusal.{lowest}
use Rattle.input.specs.declared.Event.{Event}
use Rattle.input.specs.declared.EventFilter.{EventFilter}
use Rattle.input.specs.Event.{event_refusal}
use Rattle.focus_rules.specs.declared.Heard.{Heard}
use Rattle.focus_rules.specs.Rules.{heard_of}
use Rattle.focus_pass.specs.Events.{missing, event_at, events_from, count_in, events_in}
use Rattle.focus_pass.specs.Pass.{worst_of, heard_all}

module _ (words : List ℕ) where
  -- ---- how many
  count_up : count_in words ≡ (length words + 3) / 4
  unfolding count_in
  count_up = go (eqb (length words % 4) 0) refl
    where
      go : (b : Bool) → eqb (length words % 4) 0 ≡ b → length words / 4 + cond b 0 1 ≡ (length words + 3) / 4
      go true e = omega (arith, eqb-true (length words % 4) 0 e)
      go false e = omega (arith, eqb-false (length words % 4) 0 e)

  from_length : (i n : ℕ) → length (events_from words i n) ≡ n
  unfolding events_from
  from_length i zero = refl
  from_length i (suc n) = ap suc (from_length (suc i) n)

  pub events_length : length (events_in words) ≡ count_in words
  unfolding events_in
  events_length = from_length 0 (count_in words)

  -- ---- the first event, and those after it
  event_lent : event_at (take 4 words) 0 ≡ event_at words 0
  unfolding event_at
  event_lent =
      let same : (i d : ℕ) → i < 4 → get_or (take 4 words) i d ≡ get_or words i d = λ i d h. get_or-take 4 words i d h in
      rw (same 0 0 (omega arith), same 1 missing (omega arith), same 1 0 (omega arith), same 2 0 (omega arith), same 3 missing (omega arith))

  event_later : (i : ℕ) → event_at (drop 4 words) (4 * i) ≡ event_at words (4 * suc i)
  unfolding event_at
  event_later i =
      let same : (o d : ℕ) → get_or (drop 4 words) (4 * i + o) d ≡ get_or words (4 * suc i + o) d = λ o d. get_or-drop 4 words (4 * i + o) d ∙ ap (λ (k : ℕ). get_or words k d) (omega arith) in
      let first : get_or (drop 4 words) (4 * i) 0 ≡ get_or words (4 * suc i) 0 = get_or-drop 4 words (4 * i) 0 ∙ ap (λ (k : ℕ). get_or words k 0) (omega arith) in
      rw (first, same 1 missing, same 1 0, same 2 0, same 3 missing)

  from_later : (i n : ℕ) → events_from words (suc i) n ≡ events_from (drop 4 words) i n
  unfolding events_from
  from_later i zero = refl
  from_later i (suc n) = λ j. sym (event_later i) j ∷ from_later (suc i) n j

first_event : (words : List ℕ) → 0 < length words → events_in words ≡ event_at (take 4 words) 0 ∷ events_in (drop 4 words)
unfolding events_in events_from
first_event words h =
    let n : count_in words ≡ suc (count_in (drop 4 words)) = omega (arith, count_up words, count_up (drop 4 words), length-drop 4 words) in
    rw (n, event_lent words) (ap (λ (l : List Event). event_at words 0 ∷ l) (from_later words 0 (count_in (drop 4 words))))

-- the numbers of the first event, where the slice is cut after them
cut : (row rest : List ℕ) → length row ≡ min 4 (length (row ++ rest)) → (take 4 (row ++ rest) ≡ row) × (drop 4 (row ++ rest) ≡ rest)
cut row [] h = rw (append-nil row) (take_all 4 row (omega (arith, h, length-append row [])), drop_of_length-le row {i = 4} (omega (arith, h, length-append row [])))
cut row (y ∷ ys) h =
    let e : 4 ≡ length row = omega (arith, h, length-append row (y ∷ ys)) in
    rw e (take-append_seam row (y ∷ ys), drop-append_seam row (y ∷ ys))

-- ---- the loop: what the events that are left make of what was heard before them
module _ (words row rest : List ℕ) (w : words ≡ row ++ rest) (n : length row ≡ min 4 (length words)) (h : 0 < length words) (e : Event) (p : e ≡ event_at row 0) where
  first : events_in words ≡ e ∷ events_in rest
  first = let (a, b) = cut row rest (rw w at n) in rw (w, p) (rw (a, b) at (first_event (row ++ rest) (rw w at h)))

  pub worst_more : (k c m : ℕ) → c ≡ event_refusal e → m ≡ lowest k c → worst_of m (events_in rest) ≡ worst_of k (events_in words)
  unfolding worst_of
  worst_more k c m q r = rw (first, r, q)

  pub heard_more : (filter : EventFilter) (so_far next : Heard) → next ≡ heard_of filter so_far e → heard_all filter next (events_in rest) ≡ heard_all filter so_far (events_in words)
  unfolding heard_all
  heard_more filter so_far next r = rw (first, r)

module _ (words : List ℕ) (h : length words ≡ 0) where
  no_event : events_in words ≡ []
  unfolding events_in count_in events_from
  no_event = go words h
    where
      go : (words : List ℕ) → length words ≡ 0 → events_from words 0 (length words / 4 + cond (eqb (length words % 4) 0) 0 1) ≡ []
      go [] h = refl
      go (w ∷ words) h = absurd (omega arith)

  pub worst_all : (k : ℕ) → worst_of k (events_in words) ≡ k
  unfolding worst_of
  worst_all k = rw no_event

  pub heard_through : (filter : EventFilter) (so_far : Heard) → heard_all filter so_far (events_in words) ≡ so_far
  unfolding heard_all
  heard_through filter so_far = rw no_event
