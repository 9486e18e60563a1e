-- One pass of a page, by the place that is counted: a quiet pass comes to rest there, and a key at rest turns by one place. Assumes nothing.
use Prim.Native.Nat.{ℕ, suc, ◌<◌}
use mathlib.Core.Path.{◌≡◌, refl, sym, ap, subst, ◌∙◌}
use mathlib.Core.Bool.{true, false, not, ◌&&◌}
use mathlib.Core.List.{List, [], ◌∷◌, ◌++◌}
use native.Mathlib.Omega.{arith}
use lib.Dec.{eqb}
use lib.ListN.{length, get_or, take, drop, drop_of_length-le}
use lib.Seq.{drop-cons, split_at}
use borrow.Author.Tests.{eqb-true, eqb-false}
use Rattle.input.specs.declared.Event.{Event}
use Rattle.input.specs.FocusDirection.{previous, next, no_direction}
use Rattle.search.specs.declared.Candidate.{Candidate}
use Rattle.focus_rules.specs.declared.Nav.{Nav}
use Rattle.focus_rules.specs.Rules.{no_layer, focus_on, with_frames, with_next, with_give, with_last, with_modals, reset_focus, dropped_of}
use Rattle.focus_rules.specs.Page.{wanted_all, last_of, NoneOf, Turning}
use Rattle.focus_rules.proofs.Page.{either, no_key, hand_over, tab_goes_on, tab_ends, shift_tab_goes_back, handed_back}
use Rattle.focus_cache.specs.Cache.{has_id}
use Rattle.focus_pass.specs.Pass.{nav_begun}
use Rattle.focus_end.specs.End.{nav_ended}
use Rattle.ring.specs.Count.{is_tab, is_shift_tab, forward, back, last}
use Rattle.ring.specs.Ring.{Distinct, all_used}
use Rattle.ring.proofs.Places.{by_test, not_there, used_at, last_before, none_before, not_next}
use Rattle.ring.proofs.Edges.{aged, begun_quiet, begun_still, begun_tab, begun_shift_tab, end_keeps, not_dropped}

module _ (fields : List ℕ) where
  abbrev pub field : ℕ → ℕ
  field p = get_or fields p 0

  -- ---- how the focus stands between two passes, where the count is at place p: it rests there; or it was given up at the last place, and waits for the first; or it is still elsewhere, and the
  -- next frame's id is the one at p
  abbrev pub Resting : ℕ → Nav → Type 0
  Resting p n = (n.focused ≡ field p) × (n.filter.tab ≡ false) × (n.give_to_next ≡ false) × (n.id_next_frame ≡ 0)

  pub data Standing (p : ℕ) (n : Nav) : Type 0 where
    rests : Resting p n → Standing p n
    waits : p ≡ 0 → n.focused ≡ 0 → n.give_to_next ≡ true → n.id_next_frame ≡ 0 → Standing p n
    comes : n.give_to_next ≡ false → n.id_next_frame ≡ field p → Standing p n

  -- ---- a pass over the page
  abbrev pub pass_of : Nav → List Candidate → List Candidate → List Candidate → List Event → Nav
  pass_of n at_begin at_end used events = nav_ended (wanted_all (nav_begun n at_begin events) fields) at_end used

  module _ (distinct : Distinct fields) (some : NoneOf fields 0) (n : Nav) (at_begin at_end used : List Candidate) (all : all_used used fields ≡ true) where
    abbrev left_by : List Event → Nav
    left_by = pass_of n at_begin at_end used

    -- its parts: the begin, the page, and an end that keeps the focus
    lands : (P : Nav → Type 0) (events : List Event) (begun left : Nav) → nav_begun n at_begin events ≡ begun → wanted_all begun fields ≡ left → left.focus_direction ≡ no_direction
        → dropped_of left (has_id used left.focused) ≡ left → P (with_modals left left.top_modal_layer_current_frame no_layer) → P (left_by events)
    lands P events begun left b w d k h =
        subst P (sym (ap (λ (m : Nav). nav_ended (wanted_all m fields) at_end used) b ∙ ap (λ (m : Nav). nav_ended m at_end used) w ∙ end_keeps left at_end used d k)) h

    -- a field that is focused is used
    stays : (p : ℕ) → p < length fields → (m : Nav) → m.focused ≡ field p → dropped_of m (has_id used m.focused) ≡ m
    stays p l m f = not_dropped m at_end used (ap (has_id used) f ∙ used_at used fields p all l)

    not_none : (p : ℕ) → p < length fields → field p ≡ 0 → ⊥
    not_none p l = not_there fields 0 p some l

    -- the page, taken apart at a place
    at_place : (p : ℕ) → p < length fields → (m left : Nav) → wanted_all m (take p fields ++ (field p ∷ drop (suc p) fields)) ≡ left → wanted_all m fields ≡ left
    at_place p l m left e = ap (wanted_all m) (split_at fields p 0 l) ∙ e

    module _ (p : ℕ) (l : p < length fields) where
      pub quiet : Standing p n → Resting p (left_by [])
      quiet (rests (f, t, g, z)) =
          lands (Resting p) [] _ (with_last (aged n no_direction) _) (begun_still n at_begin z) (no_key (aged n no_direction) fields g refl) refl (stays p l _ f) (f, t, g, z)
      quiet (waits i f g z) =
          let first : 0 < length fields = omega arith in
          let left : Nav = with_last (with_give (focus_on (aged n no_direction) (field 0)) false) (last_of (field 0) (drop 1 fields)) in
          lands (Resting p) [] _ left (begun_still n at_begin z)
          (at_place 0 first (aged n no_direction) left (hand_over (aged n no_direction) (field 0) (drop 1 fields) g (λ e. not_none 0 first (sym e ∙ f)) refl)) refl (stays 0 first left refl) (ap field (sym i), refl, refl, z)
      quiet (comes g e) =
          let back : Nav = reset_focus (focus_on (with_next (with_frames n n.focused n.id_previous_frame) 0) n.id_next_frame) in
          lands (Resting p) [] back (with_last back _) (begun_quiet n at_begin ∙ handed_back n (λ z. not_none p l (sym e ∙ z))) (no_key back fields g refl) refl (stays p l _ e) (e, refl, g, refl)

      -- ---- a key, at rest
      module _ (e : Event) (r : Resting p n) where
        turning : (direction : ℕ) → Turning (aged n direction) (field p) direction
        turning direction = record { some = not_none p l; focused = r.0; before = r.0; no_give = r.2; turned = refl }

        pub tabbed : is_tab e ≡ true → Standing (forward (length fields) p) (left_by (e ∷ []))
        tabbed h = by_test (λ (q : ℕ). Standing q (left_by (e ∷ []))) (eqb (suc p) (length fields)) _ _ at_the_end further
          where
            begun : nav_begun n at_begin (e ∷ []) ≡ aged n next
            begun = begun_tab n at_begin r.3 r.1 e h

            before : NoneOf (take p fields) (field p)
            before = none_before fields distinct p l

            at_the_end : eqb (suc p) (length fields) ≡ true → Standing 0 (left_by (e ∷ []))
            at_the_end q =
                let ends : drop (suc p) fields ≡ [] = drop_of_length-le fields {i = suc p} (let k = eqb-true (suc p) (length fields) q in omega arith) in
                let left : Nav = with_last (reset_focus (with_give (focus_on (aged n next) 0) true)) (field p) in
                lands (Standing 0) (e ∷ []) _ left begun (at_place p l (aged n next) left (rw ends (tab_ends (aged n next) (field p) (take p fields) before (turning next)))) refl
                (either (eqb n.focused 0 && not (has_id used 0)) (focus_on left 0) left left refl refl) (waits refl refl refl r.3)

            further : eqb (suc p) (length fields) ≡ false → Standing (suc p) (left_by (e ∷ []))
            further q =
                let more : suc p < length fields = (let k = eqb-false (suc p) (length fields) q in omega arith) in
                let goes : drop (suc p) fields ≡ field (suc p) ∷ drop (suc (suc p)) fields = drop-cons fields (suc p) 0 more in
                let left : Nav = with_last (reset_focus (with_give (focus_on (aged n next) (field (suc p))) false)) (last_of (field (suc p)) (drop (suc (suc p)) fields)) in
                lands (Standing (suc p)) (e ∷ []) _ left begun
                (at_place p l (aged n next) left (rw goes (tab_goes_on (aged n next) (field p) (take p fields) before (field (suc p)) (drop (suc (suc p)) fields) (not_next fields distinct p more) (turning next)))) refl
                (stays (suc p) more left refl) (rests (refl, refl, refl, r.3))

        pub shift_tabbed : n.last_interested ≡ field (last (length fields)) → is_shift_tab e ≡ true → Standing (back (length fields) p) (left_by (e ∷ []))
        shift_tabbed k h =
            let left : Nav = with_last (reset_focus (with_next (aged n previous) (last_of n.last_interested (take p fields)))) (last_of (field p) (drop (suc p) fields)) in
            lands (Standing (back (length fields) p)) (e ∷ []) _ left (begun_shift_tab n at_begin r.3 r.1 e h)
            (at_place p l (aged n previous) left (shift_tab_goes_back (aged n previous) (field p) (take p fields) (none_before fields distinct p l) (drop (suc p) fields) (turning previous))) refl
            (stays p l left r.0) (comes r.2 (last_before n.last_interested fields p l k))
