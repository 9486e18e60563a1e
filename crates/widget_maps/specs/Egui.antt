-- WidgetRects of widget_rect.rs in its own terms: `by_layer` has a list for each layer, `by_id` an index and a record for ids (lines 104 to 116), in the order of
-- the Rust's text. Definitions only.
use Rattle.std.specs.Prelude.{ℕ, suc, Bool, cond, List, [], ◌∷◌, ◌++◌, eqb, ltb, length, take, drop, set, Option, None, Some}
use Rattle.refusal.specs.Refusal.{none, full, lowest}
use Rattle.layers.specs.declared.LayerId.{LayerId}
use Rattle.layers.specs.Layers.{is_layer}
use Rattle.widget_rect.specs.declared.WidgetRect.{WidgetRect}
use Rattle.widget_rect.specs.WidgetRect.{joined_of, insert_refusal}

-- a layer without widgets has the empty list; `len` is `by_id.len()`
pub record WidgetRects : Type 0 where
  pub by_layer : LayerId → List WidgetRect
  pub by_id : ℕ → Option (ℕ × WidgetRect)
  pub len : ℕ

-- ---- a map with one entry, or one list, put in
abbrev pub with_list : (LayerId → List WidgetRect) → LayerId → List WidgetRect → LayerId → List WidgetRect
with_list by_layer layer list l = cond (is_layer layer l) list (by_layer l)

abbrev pub with_entry : (ℕ → Option (ℕ × WidgetRect)) → ℕ → Option (ℕ × WidgetRect) → ℕ → Option (ℕ × WidgetRect)
with_entry by_id id entry x = cond (eqb id x) entry (by_id x)

-- `Vec::remove`
abbrev pub removed : ℕ → List WidgetRect → List WidgetRect
removed idx list = take idx list ++ drop (suc idx) list

-- ---- the loop at the end of `insert` (lines 236 to 244): each widget of a list from a place on takes its place as its index
abbrev pub with_idx : ℕ → Option (ℕ × WidgetRect) → Option (ℕ × WidgetRect)
with_idx i None = None
with_idx i (Some (idx, w)) = Some (i, w)

unfoldable pub shifted : ℕ → List WidgetRect → (ℕ → Option (ℕ × WidgetRect)) → ℕ → Option (ℕ × WidgetRect)
shifted i [] by_id = by_id
shifted i (w ∷ rest) by_id = shifted (suc i) rest (with_entry by_id w.id (with_idx i (by_id w.id)))

-- ---- `insert` (lines 186 to 245); the infos and the debug assertion are left out
module _ (m : WidgetRects) (layer : LayerId) (widget : WidgetRect) where
  -- a new widget
  unfoldable pub new_widget : WidgetRects
  new_widget =
      let list = m.by_layer layer in
      record { by_layer = with_list m.by_layer layer (list ++ (widget ∷ [])); by_id = with_entry m.by_id widget.id (Some (length list, widget)); len = suc m.len }

  -- a known widget: its index, and its record with the new one joined in
  unfoldable pub known_widget : Bool → ℕ → WidgetRect → WidgetRects
  known_widget move-to-top idx existing =
      let list = m.by_layer layer in
      let rest = removed idx list in
      let moved = rest ++ (existing ∷ []) in
      cond
      (is_layer existing.layer_id widget.layer_id)
      (cond
      move-to-top
      (record { by_layer = with_list m.by_layer layer moved; by_id = shifted idx (drop idx moved) (with_entry m.by_id widget.id (Some (length rest, existing))); len = m.len })
      (record { by_layer = with_list m.by_layer layer (set list idx existing); by_id = with_entry m.by_id widget.id (Some (idx, existing)); len = m.len }))
      (record { by_layer = m.by_layer; by_id = with_entry m.by_id widget.id (Some (idx, existing)); len = m.len })

  abbrev pub inserted_by : Bool → Option (ℕ × WidgetRect) → WidgetRects
  inserted_by move-to-top None = new_widget
  inserted_by move-to-top (Some (idx, existing)) = known_widget move-to-top idx (joined_of existing widget)

  unfoldable pub inserted : Bool → WidgetRects
  inserted move-to-top = inserted_by move-to-top (m.by_id widget.id)

-- ---- document 01's refusal 6: a new id where `limit` are held
abbrev pub full_refusal : ℕ → ℕ → Option (ℕ × WidgetRect) → ℕ
full_refusal limit len None = cond (ltb len limit) none full
full_refusal limit len (Some (idx, w)) = none

unfoldable pub refusal : ℕ → WidgetRects → LayerId → WidgetRect → ℕ
refusal limit m layer widget = lowest (insert_refusal widget layer) (full_refusal limit m.len (m.by_id widget.id))

-- ---- `clear` (lines 168 to 183), and a registry that is new
unfoldable pub cleared : WidgetRects
cleared = record { by_layer = λ layer. []; by_id = λ id. None; len = 0 }
