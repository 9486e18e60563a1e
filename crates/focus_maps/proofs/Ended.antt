-- The end of a pass: the search, the focus that disappeared and the modal layer, in egui's terms; the cache has no more entries than before. Assumes nothing.
use mathlib.Core.Path.{◌≡◌, refl, sym, ap, ◌∙◌}
use mathlib.Core.Bool.{Bool, true, false, cond, not, ◌&&◌}
use mathlib.Core.List.{List, [], ◌∷◌}
use Rattle.std.specs.Prelude.{Option, None, Some}
use Prim.Native.Nat.{ℕ, suc, ◌≤◌}
use native.Mathlib.Omega.{arith}
use lib.Dec.{eqb}
use lib.ListN.{length}
use Rattle.input.specs.FocusDirection.{is_cardinal}
use Rattle.layers.specs.declared.LayerId.{LayerId}
use Rattle.emath.specs.declared.Rect.{Rect}
use Rattle.search.specs.declared.Candidate.{Candidate}
use Rattle.search.specs.Search.{find_of}
use Rattle.focus_rules.specs.declared.Nav.{Nav}
use Rattle.focus_rules.specs.declared.FocusWidget.{FocusWidget}
use Rattle.focus_rules.specs.Rules.{focused_widget, focus_on, with_modals, no_layer, found_of, dropped_of, ended_of}
use Rattle.focus_cache.specs.Cache.{has_id}
use Rattle.focus_end.specs.End.{rect_in, kept_with, updated, search_from, refreshed, found_in, cache_ended, nav_ended}
use Rattle.focus_maps.specs.Egui as Egui
use Rattle.focus_maps.specs.Calls.{meaning}
use Rattle.focus_maps.proofs.Means.{choose, is_means, on_means}

-- ---- the focus that disappeared, and the modal layer
abbrev left : List Candidate → Egui.Focus → Egui.Focus
left used m = let l = Egui.disappeared m m.focused_widget used in Egui.with_modals l l.top_modal_layer_current_frame None

module _ (n : Nav) (c used : List Candidate) where
  dropped_means : meaning (dropped_of n (has_id used n.focused)) c ≡ Egui.disappeared (meaning n c) (focused_widget n) used
  dropped_means = go (eqb n.focused 0) refl
    where
      idle : (b : Bool) → eqb n.focused 0 ≡ true → meaning (cond b (focus_on n 0) n) c ≡ meaning n c
      idle true e = rw e
      idle false e = refl

      go : (b : Bool) → eqb n.focused 0 ≡ b → meaning (dropped_of n (has_id used n.focused)) c ≡ Egui.disappeared (meaning n c) (cond {A = Option FocusWidget} b None (Some (record { id = n.focused; filter = n.filter }))) used
      go true e = idle (eqb n.id_previous_frame n.focused && not (has_id used n.focused)) e
      go false e = choose (ap (λ (b : Bool). b && not (has_id used n.focused)) (is_means n.id_previous_frame n.focused e)) c _ _ _ _ refl refl

  ended_means : meaning (ended_of n (has_id used n.focused)) c ≡ left used (meaning n c)
  unfolding ended_of
  ended_means =
      ap (λ (l : LayerId). meaning (with_modals (dropped_of n (has_id used n.focused)) l no_layer) c) (sym (same (eqb n.id_previous_frame n.focused && not (has_id used n.focused))))
      ∙ ap (λ (m : Egui.Focus). Egui.with_modals m m.top_modal_layer_current_frame None) dropped_means
    where
      same : (b : Bool) → (cond b (focus_on n 0) n).top_modal_layer_current_frame ≡ n.top_modal_layer_current_frame
      same true = refl
      same false = refl

-- ---- the search
module _ (n : Nav) (c used : List Candidate) where
  found_means : meaning (found_of n (found_in n c used)) (refreshed n c used) ≡ Egui.directed (meaning n c) (focused_widget n) used
  unfolding found_of found_in refreshed
  found_means = go (eqb n.focused 0) refl
    where
      fresh : List Candidate
      fresh = updated used c

      searched : (r : Option Rect) → meaning (found_of n (search_from r n fresh)) fresh ≡ Egui.searched (meaning n fresh) n.focused r
      searched None = refl
      searched (Some current) = pick (eqb found 0) refl
        where
          found : ℕ
          found = find_of fresh n.focused current n.focus_direction

          pick : (b : Bool) → eqb found 0 ≡ b → meaning (cond b n (focus_on n found)) fresh ≡ cond b (meaning n fresh) (Egui.request_focus (meaning n fresh) found)
          pick true e = refl
          pick false e = on_means n fresh found e

      go : (b : Bool) → eqb n.focused 0 ≡ b → meaning (found_of n (cond b 0 (search_from (rect_in fresh n.focused) n fresh))) (cond b c fresh) ≡ Egui.directed (meaning n c) (cond {A = Option FocusWidget} b None (Some (record { id = n.focused; filter = n.filter }))) used
      go true e = refl
      go false e = searched (rect_in fresh n.focused)

  pub end_means : meaning (nav_ended n c used) (cache_ended n c used) ≡ Egui.end_pass (meaning n c) used
  unfolding nav_ended cache_ended Egui.end_pass
  end_means = go (is_cardinal n.focus_direction)
    where
      go : (b : Bool) → meaning (let next = cond b (found_of n (found_in n c used)) n in ended_of next (has_id used next.focused)) (cond b (refreshed n c used) c) ≡ left used (cond b (Egui.directed (meaning n c) (focused_widget n) used) (meaning n c))
      go true = ended_means (found_of n (found_in n c used)) (refreshed n c used) used ∙ ap (left used) found_means
      go false = ended_means n c used

-- ---- and there are no more entries than before
updated_length : (used held : List Candidate) → length (updated used held) ≤ length held
unfolding updated
updated_length used [] = omega arith
updated_length used (e ∷ held) = go (rect_in used e.id) (updated_length used held)
  where
    go : (r : Option Rect) → length (updated used held) ≤ length held → length (kept_with r e.id (updated used held)) ≤ suc (length held)
    go None h = omega arith
    go (Some rect) h = omega arith

pub ended_length : (nav : Nav) (held used : List Candidate) → length (cache_ended nav held used) ≤ length held
unfolding cache_ended refreshed
ended_length nav held used = go (is_cardinal nav.focus_direction) (eqb nav.focused 0)
  where
    go : (t u : Bool) → length (cond t (cond u held (updated used held)) held) ≤ length held
    go true true = omega arith
    go true false = updated_length used held
    go false u = omega arith
