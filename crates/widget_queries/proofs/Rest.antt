-- Laws of what is left of a layer's list from a row on, as `next_in_layer` goes over it. Assumes nothing.
use mathlib.Core.Path.{◌≡◌, refl, sym, ap, ◌∙◌}
use mathlib.Core.Bool.{Bool, true, false, cond}
use mathlib.Core.List.{List, [], ◌∷◌}
use Prim.Native.Nat.{ℕ, zero, suc, ◌-◌, ◌<◌}
use native.Mathlib.Nat.{sub-zero}
use native.Mathlib.Omega.{arith}
use lib.ListN.{length}
use Rattle.layers.specs.declared.LayerId.{LayerId}
use Rattle.widget_rect.specs.declared.WidgetRect.{WidgetRect}
use Rattle.std.specs.Prelude.{Option, None, Some}
use Rattle.widget_rows.specs.Rows.{Rows, Table, is_in, record_at, room_of, held_in, held_of, list_in, listed_in, list_of}

-- the widgets of the layer's list that stand at row k or after it
unfoldable pub rest_of : Table → LayerId → ℕ → List WidgetRect
rest_of t layer k = list_in t.rows layer (held_of t - k) k

module _ (t : Rows) (layer : LayerId) where
  none_listed : (m k : ℕ) → listed_in t layer m k ≡ None → list_in t layer m k ≡ []
  unfolding list_in listed_in
  none_listed zero k e = refl
  none_listed (suc m) k e = go (is_in t.words k layer) e (none_listed m (suc k))
    where
      go : (b : Bool) → cond b (Some (suc k, record_at t k 1)) (listed_in t layer m (suc k)) ≡ None → (listed_in t layer m (suc k) ≡ None → list_in t layer m (suc k) ≡ []) → cond b (record_at t k 1 ∷ list_in t layer m (suc k)) (list_in t layer m (suc k)) ≡ []
      go true e more = cc
      go false e more = more e

  one_listed : (n m k next : ℕ) (w : WidgetRect) → n - k ≡ m → listed_in t layer m k ≡ Some (next, w) → (k < next) × (k < n) × (list_in t layer m k ≡ w ∷ list_in t layer (n - next) next)
  unfolding list_in listed_in
  one_listed n zero k next w h e = let z : ◌≡◌ {A = ℕ} 0 1 = cc in absurd (omega arith)
  one_listed n (suc m) k next w h e = go (is_in t.words k layer) e (one_listed n m (suc k) next w (omega arith))
    where
      go : (b : Bool) → cond b (Some (suc k, record_at t k 1)) (listed_in t layer m (suc k)) ≡ Some (next, w) → (listed_in t layer m (suc k) ≡ Some (next, w) → (suc k < next) × (suc k < n) × (list_in t layer m (suc k) ≡ w ∷ list_in t layer (n - next) next)) → (k < next) × (k < n) × (cond b (record_at t k 1 ∷ list_in t layer m (suc k)) (list_in t layer m (suc k)) ≡ w ∷ list_in t layer (n - next) next)
      go true e more =
          let s : ◌≡◌ {A = ℕ × WidgetRect} (suc k, record_at t k 1) (next, w) = cc in
          let p : suc k ≡ next = ap (λ (x : ℕ × WidgetRect). x.0) s in
          let q : record_at t k 1 ≡ w = ap (λ (x : ℕ × WidgetRect). x.1) s in
          let r : n - next ≡ m = omega arith in
          (omega arith, omega arith, rw (q, r, p))
      go false e more = let (l, h, p) = more e in (omega arith, omega arith, p)

module _ (t : Table) (layer : LayerId) where
  pub all_left : rest_of t layer 0 ≡ list_of t layer
  unfolding rest_of list_of
  all_left = rw (sub-zero (held_of t))

  below_length : {k : ℕ} → k < held_of t → k < length t.rows.ids
  unfolding held_in room_of
  below_length l = omega arith

  module _ (k : ℕ) (f : Option (ℕ × WidgetRect)) (e : f ≡ listed_in t.rows layer (held_of t - k) k) where
    pub none_left : f ≡ None → rest_of t layer k ≡ []
    unfolding rest_of
    none_left h = none_listed t.rows layer (held_of t - k) k (sym e ∙ h)

    pub one_left : (next : ℕ) (w : WidgetRect) → f ≡ Some (next, w) → (k < next) × (k < length t.rows.ids) × (rest_of t layer k ≡ w ∷ rest_of t layer next)
    unfolding rest_of
    one_left next w h =
        let (l, m, p) = one_listed t.rows layer (held_of t) (held_of t - k) k next w refl (sym e ∙ h) in
        (l, below_length m, p)
