-- The loop over whole events, rows of four numbers, and the event after them that is not whole. Assumes nothing.
use mathlib.Core.Path.{◌≡◌, refl, sym, ap, ◌∙◌}
use mathlib.Core.List.{List, [], append-nil}
use Prim.Native.Nat.{ℕ, zero, suc, ◌+◌, ◌-◌, ◌*◌, ◌/◌, ◌<◌, ◌≤◌}
use native.Mathlib.Omega.{arith}
use lib.ListN.{length, get_or, take, drop, length-drop}
use lib.Seq.{take_all}
use Rattle.std.proofs.lemmas.List.{take-append-drop, drop-drop, length-take, get_or_default}
use Rattle.std.specs.Simd.{first_chunks}
use Rattle.refusal.specs.Refusal.{none, lowest}
use Rattle.refusal.proofs.Laws.{none_left}
use Rattle.input.specs.declared.Event.{Event}
use Rattle.input.specs.declared.EventFilter.{EventFilter}
use Rattle.input.specs.Event.{event_refusal}
use Rattle.focus_rules.specs.declared.Heard.{Heard}
use Rattle.focus_rules.specs.Rules.{heard_of}
use Rattle.focus_pass.specs.Events.{missing, event_of, event_at, events_in}
use Rattle.focus_pass.specs.Pass.{worst_of, heard_all}
use Rattle.focus_pass.proofs.Events.{worst_more, heard_more, worst_all, heard_through}

-- row k of the first n rows
row_at : (n k : ℕ) (words : List ℕ) → k < n → get_or (first_chunks 4 n words) k [] ≡ take 4 (drop (4 * k) words)
row_at zero k words h = absurd (omega arith)
row_at (suc n) zero words h = refl
row_at (suc n) (suc k) words h =
    row_at n k (drop 4 words) (omega arith)
    ∙ ap (take 4) (drop-drop (4 * k) 4 words ∙ ap (λ (i : ℕ). drop i words) (omega arith))

-- the event of a row
abbrev pub event_in : List ℕ → Event
event_in row = event_of (get_or row 0 0) (get_or row 1 0) (get_or row 1 0) (get_or row 2 0) (get_or row 3 0)

whole_event : (row : List ℕ) → length row ≡ 4 → event_in row ≡ event_at row 0
unfolding event_at event_of
whole_event row h = rw (get_or_default row 1 0 missing (omega arith), get_or_default row 3 0 missing (omega arith))

-- ---- event k, which is whole
module _ (words : List ℕ) (rows : List (List ℕ)) (r : rows ≡ first_chunks 4 (length words / 4) words) (k : ℕ) (h : k < length words / 4) (e : Event) (p : e ≡ event_in (get_or rows k [])) where
  abbrev here : List ℕ
  here = drop (4 * k) words

  long : 4 ≤ length here
  long = omega (arith, length-drop (4 * k) words)

  here_event : e ≡ event_at (take 4 here) 0
  here_event = p ∙ ap event_in (ap (λ (rs : List (List ℕ)). get_or rs k []) r ∙ row_at (length words / 4) k words h) ∙ whole_event (take 4 here) (omega (arith, length-take 4 here, long))

  next : drop 4 here ≡ drop (4 * (k + 1)) words
  next = drop-drop 4 (4 * k) words ∙ ap (λ (i : ℕ). drop i words) (omega arith)

  pub whole_more : (n c m : ℕ) → c ≡ event_refusal e → m ≡ lowest n c → worst_of m (events_in (drop (4 * (k + 1)) words)) ≡ worst_of n (events_in here)
  whole_more n c m q r =
      rw (← next) (worst_more here (take 4 here) (drop 4 here) (sym (take-append-drop 4 here)) (length-take 4 here) (omega (arith, long)) e here_event n c m q r)

  pub whole_worst : (n c : ℕ) → worst_of none (events_in here) ≡ n → c ≡ event_refusal e → worst_of c (events_in (drop (4 * (k + 1)) words)) ≡ n
  whole_worst n c i q = whole_more none c c q (none_left none c refl) ∙ i

  -- refused: the events after it, in the slice that is left
  pub worst_left : (n c : ℕ) → worst_of none (events_in here) ≡ n → c ≡ event_refusal e → worst_of c (events_in (take (length words - 4 * (k + 1)) (drop (4 * (k + 1)) words))) ≡ n
  worst_left n c i q =
      ap (λ (l : List ℕ). worst_of c (events_in l)) (take_all (length words - 4 * (k + 1)) (drop (4 * (k + 1)) words) (omega (arith, length-drop (4 * (k + 1)) words))) ∙ whole_worst n c i q

  pub whole_heard : (filter : EventFilter) (so_far after : Heard) → after ≡ heard_of filter so_far e → heard_all filter after (events_in (drop (4 * (k + 1)) words)) ≡ heard_all filter so_far (events_in here)
  whole_heard filter so_far after q =
      rw (← next) (heard_more here (take 4 here) (drop 4 here) (sym (take-append-drop 4 here)) (length-take 4 here) (omega (arith, long)) e here_event filter so_far after q)

-- ---- the numbers that are left after the last whole event
module _ (words rest : List ℕ) (r : rest ≡ drop (length words / 4 * 4) words) (k : ℕ) (h : k ≡ length words / 4) where
  pub left : drop (4 * k) words ≡ rest
  left = ap (λ (i : ℕ). drop i words) (omega (arith, h)) ∙ sym r

  short : length rest < 4
  short = rw r (omega (arith, length-drop (length words / 4 * 4) words))

  module _ (s : 0 < length rest) (e : Event) (p : e ≡ event_at rest 0) where
    pub last_more : (n c m : ℕ) → c ≡ event_refusal e → m ≡ lowest n c → m ≡ worst_of n (events_in (drop (4 * k) words))
    last_more n c m q r =
        sym (worst_all [] refl m)
        ∙ worst_more rest rest [] (sym (append-nil rest)) (omega (arith, short)) s e p n c m q r
        ∙ ap (λ (l : List ℕ). worst_of n (events_in l)) (sym left)

    pub last_worst : (n c : ℕ) → worst_of none (events_in (drop (4 * k) words)) ≡ n → c ≡ event_refusal e → c ≡ n
    last_worst n c i q = last_more none c c q (none_left none c refl) ∙ i

    pub last_heard : (filter : EventFilter) (so_far after start : Heard) → heard_all filter so_far (events_in (drop (4 * k) words)) ≡ start → after ≡ heard_of filter so_far e → after ≡ start
    last_heard filter so_far after start i q =
        sym (heard_through [] refl filter after)
        ∙ heard_more rest rest [] (sym (append-nil rest)) (omega (arith, short)) s e p filter so_far after q
        ∙ rw left at i

  module _ (s : length rest ≡ 0) where
    pub none_worst : (m n : ℕ) → worst_of m (events_in (drop (4 * k) words)) ≡ n → m ≡ n
    none_worst m n i = sym (worst_all rest s m) ∙ rw left at i

    pub none_heard : (filter : EventFilter) (so_far start : Heard) → heard_all filter so_far (events_in (drop (4 * k) words)) ≡ start → so_far ≡ start
    none_heard filter so_far start i = sym (heard_through rest s filter so_far) ∙ rw left at i
