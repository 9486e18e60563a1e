-- What the arrays hold after the entries that were put into them, row by row. Assumes nothing.
use Rattle.std.proofs.Common.{◌≡◌, ℕ, suc, ◌+◌, ◌*◌, ◌<◌, ◌≤◌, true, false, List, [], ◌∷◌, ◌++◌, length, get_or, set, drop, map, refl, sym, ap, ◌∙◌, arith, length-append, append_assoc}
use Rattle.std.specs.Float.{nan}
use Rattle.std.specs.List.{flat_map}
use Rattle.std.proofs.lemmas.List.{length-map, map-append}
use Rattle.std.proofs.lemmas.List.Concat.{flat_map-cons}
use lib.Ieee.{Float}
use lib.Seq.{take-nil, take-append_seam}
use Rattle.tables.specs.Tables.{put_at, written_on}
use Rattle.tables.proofs.Written.{written_fits, one_more_lem}
use Rattle.focus_pass.specs.Events.{missing, event_at, events_from}
use Rattle.focus_pass.specs.Events.{event_of as event_by}
use Rattle.used.specs.Used.{rect_from, entries_from, entries_in}
use Rattle.focus.specs.declared.Events.{Events}
use Rattle.focus.specs.declared.Used.{Used}
use Rattle.forms.specs.declared.Entry.{Entry}
use Rattle.forms.specs.declared.Entry.TheVariants.{Key, Ask}
use Rattle.forms.specs.declared.Place.{Place}
use Rattle.requests.specs.Asked.{rect_of, candidate_of, event_of, words_of, corners_of, HoldsEvents, HoldsUsed, events_with, used_with}
use Rattle.requests.proofs.Rows.{row_get, rows_length, put_more}

words_four : (e : Entry) → length (words_of e) ≡ 4
words_four (Key k d m) = refl
words_four (Ask id) = refl

corners_four : (p : Place) → length (corners_of p) ≡ 4
corners_four p = refl

module _ {A : Type 0} where
  nothing_put : (out : List A) → out ≡ written_on out []
  unfolding written_on
  nothing_put out = rw (take-nil (length out)) refl

  -- the first of more rows stands before the others
  regrouped : {E : Type 0} (row : E → List A) (before : List A) (e : E) (es : List E) (rest : List A) → before ++ (flat_map row (e ∷ es) ++ rest) ≡ before ++ (row e ++ (flat_map row es ++ rest))
  regrouped row before e es rest = ap (λ (r : List A). before ++ (r ++ rest)) (flat_map-cons row e es) ∙ ap (λ (r : List A). before ++ r) (append_assoc (row e) (flat_map row es) rest)

  behind : (before row : List A) (i : ℕ) → length before ≡ 4 * i → length row ≡ 4 → length (before ++ row) ≡ 4 * suc i
  behind before row i b l = omega (arith, length-append before row)

-- ---- events
pub record EventsPut (before now : Events) (es : List Entry) : Type 0 where
  pub count : now.count ≡ length es
  pub words : now.words ≡ written_on before.words (flat_map words_of es)

pub events_are : (before now : Events) (es list : List Entry) → es ≡ list → EventsPut before now es → now ≡ events_with before list
events_are before now es list e put = (λ i. record { words = put.words i; count = put.count i }) ∙ ap (events_with before) e

pub no_events : (e : Events) → EventsPut e (record { words = e.words; count = 0 }) []
no_events e = record { count = refl; words = nothing_put e.words }

module _ (before now : Events) (es : List Entry) (size : length before.words ≡ 256) (put : EventsPut before now es) where
  pub one_event : (e : Entry) (i : ℕ) → length es ≡ i → (words : List ℕ) → words ≡ put_at now.words (4 * i) (words_of e) → EventsPut before (record { words = words; count = i + 1 }) (es ++ e ∷ [])
  one_event e i n words h = record {
    count = omega (arith, length-append es (e ∷ []));
    words = rw (h, put.words, ← n) (put_more words_of words_four before.words 64 es e size);
  }

row_made : (e : Entry) → event_by (get_or (words_of e) 0 0) (get_or (words_of e) 1 missing) (get_or (words_of e) 1 0) (get_or (words_of e) 2 0) (get_or (words_of e) 3 missing) ≡ event_of e
unfolding event_by
row_made (Key k true m) = refl
row_made (Key k false m) = refl
row_made (Ask id) = refl

event_row : (front : List ℕ) (e : Entry) (rest : List ℕ) (i : ℕ) → length front ≡ 4 * i → event_at (front ++ (words_of e ++ rest)) (4 * i) ≡ event_of e
unfolding event_at
event_row front e rest i h =
    let get : (o d : ℕ) → o < 4 → get_or (front ++ (words_of e ++ rest)) (4 * i + o) d ≡ get_or (words_of e) o d = λ o d l. row_get front (words_of e) rest i o d h (words_four e) l in
    let z : 4 * i ≡ 4 * i + 0 = omega arith in
    let first : get_or (front ++ (words_of e ++ rest)) (4 * i) 0 ≡ get_or (words_of e) 0 0 = ap (λ (k : ℕ). get_or (front ++ (words_of e ++ rest)) k 0) z ∙ get 0 0 (omega arith) in
    rw (first, get 1 missing (omega arith), get 1 0 (omega arith), get 2 0 (omega arith), get 3 missing (omega arith)) (row_made e)

event_rows : (front : List ℕ) (i : ℕ) (es : List Entry) (rest : List ℕ) → length front ≡ 4 * i → events_from (front ++ (flat_map words_of es ++ rest)) i (length es) ≡ map event_of es
unfolding events_from
event_rows front i [] rest h = refl
event_rows front i (e ∷ es) rest h =
    let more = flat_map words_of es ++ rest in
    let others = ap (λ (w : List ℕ). events_from w (suc i) (length es)) (sym (append_assoc front (words_of e) more)) ∙ event_rows (front ++ words_of e) (suc i) es rest (behind front (words_of e) i h (words_four e)) in
    ap (λ (w : List ℕ). events_from w i (suc (length es))) (regrouped words_of front e es rest) ∙ (λ j. event_row front e more i h j ∷ others j)

module _ (before now : Events) (es : List Entry) (size : length before.words ≡ 256) (put : EventsPut before now es) where
  pub events_held : HoldsEvents now (map event_of es)
  events_held = record {
    count = put.count ∙ sym (length-map es event_of);
    is = λ few.
        let fits : length (flat_map words_of es) ≤ length before.words = omega (arith, rows_length words_of words_four es, length-map es event_of) in
        rw (put.words, put.count, written_fits before.words (flat_map words_of es) fits) (event_rows [] 0 es (drop (length (flat_map words_of es)) before.words) refl);
  }

-- ---- used entries
abbrev ids_of : List Place → List ℕ
ids_of ps = map (λ (p : Place). p.id) ps

pub record UsedPut (before now : Used) (ps : List Place) : Type 0 where
  pub count : now.count ≡ length ps
  pub ids : now.ids ≡ written_on before.ids (ids_of ps)
  pub corners : now.corners ≡ written_on before.corners (flat_map corners_of ps)

pub used_are : (before now : Used) (ps list : List Place) → ps ≡ list → UsedPut before now ps → now ≡ used_with before list
used_are before now ps list e put = (λ i. record { ids = put.ids i; corners = put.corners i; count = put.count i }) ∙ ap (used_with before) e

pub no_used : (u : Used) → UsedPut u (record { ids = u.ids; corners = u.corners; count = 0 }) []
no_used u = record { count = refl; ids = nothing_put u.ids; corners = nothing_put u.corners }

module _ (before now : Used) (ps : List Place) (size : length before.corners ≡ 1024) (put : UsedPut before now ps) where
  pub one_used : (p : Place) (i : ℕ) → length ps ≡ i → (ids : List ℕ) (corners : List Float) → ids ≡ set now.ids i p.id → corners ≡ put_at now.corners (4 * i) (corners_of p) → UsedPut before (record { ids = ids; corners = corners; count = i + 1 }) (ps ++ p ∷ [])
  one_used p i n ids corners f h =
      let k : length (ids_of ps) ≡ i = length-map ps (λ (p : Place). p.id) ∙ n in
      record {
        count = omega (arith, length-append ps (p ∷ []));
        ids = rw (f, put.ids, ← k, map-append) (one_more_lem before.ids (ids_of ps) p.id);
        corners = rw (h, put.corners, ← n) (put_more corners_of corners_four before.corners 256 ps p size);
      }

rect_row : (front : List Float) (p : Place) (rest : List Float) (i : ℕ) → length front ≡ 4 * i → rect_from (front ++ (corners_of p ++ rest)) (4 * i) ≡ rect_of p
rect_row front p rest i h =
    let get : (o : ℕ) → o < 4 → get_or (front ++ (corners_of p ++ rest)) (4 * i + o) nan ≡ get_or (corners_of p) o nan = λ o l. row_get front (corners_of p) rest i o nan h refl l in
    let z : 4 * i ≡ 4 * i + 0 = omega arith in
    let first : get_or (front ++ (corners_of p ++ rest)) (4 * i) nan ≡ get_or (corners_of p) 0 nan = ap (λ (k : ℕ). get_or (front ++ (corners_of p ++ rest)) k nan) z ∙ get 0 (omega arith) in
    rw (first, get 1 (omega arith), get 2 (omega arith), get 3 (omega arith)) refl

rect_rows : (front : List Float) (i : ℕ) (ps : List Place) (rest : List Float) → length front ≡ 4 * i → entries_from i (ids_of ps) (front ++ (flat_map corners_of ps ++ rest)) ≡ map candidate_of ps
unfolding entries_from
rect_rows front i [] rest h = refl
rect_rows front i (p ∷ ps) rest h =
    let more = flat_map corners_of ps ++ rest in
    let others = ap (λ (w : List Float). entries_from (suc i) (ids_of ps) w) (sym (append_assoc front (corners_of p) more)) ∙ rect_rows (front ++ corners_of p) (suc i) ps rest (behind front (corners_of p) i h refl) in
    ap (λ (w : List Float). entries_from i (ids_of (p ∷ ps)) w) (regrouped corners_of front p ps rest) ∙ (λ j. record { id = p.id; rect = rect_row front p more i h j } ∷ others j)

module _ (before now : Used) (ps : List Place) (sizes : (length before.ids ≡ 256) × (length before.corners ≡ 1024)) (put : UsedPut before now ps) where
  pub used_held : HoldsUsed now (map candidate_of ps)
  unfolding entries_in
  used_held = record {
    count = put.count ∙ sym (length-map ps candidate_of);
    is = λ few.
        let n = length-map ps (λ (p : Place). p.id) in
        let m = length-map ps candidate_of in
        let fits : length (ids_of ps) ≤ length before.ids = omega (arith, sizes.0) in
        let corners_fit : length (flat_map corners_of ps) ≤ length before.corners = omega (arith, rows_length corners_of corners_four ps, sizes.1) in
        rw (put.ids, put.corners, put.count, ← n, written_fits before.ids (ids_of ps) fits, take-append_seam (ids_of ps) (drop (length (ids_of ps)) before.ids), written_fits before.corners (flat_map corners_of ps) corners_fit)
        (rect_rows [] 0 ps (drop (length (flat_map corners_of ps)) before.corners) refl);
  }
