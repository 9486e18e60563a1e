-- Laws of the ids of a list's focusable widgets, written one a turn: `rest` of the list is left. Assumes nothing.
use mathlib.Core.Path.{◌≡◌, refl}
use mathlib.Core.Bool.{Bool, true, false, cond}
use mathlib.Core.List.{List, [], ◌∷◌}
use Prim.Native.Nat.{ℕ, ◌+◌, ◌≤◌}
use native.Mathlib.Omega.{arith}
use lib.ListN.{length, set}
use Rattle.tables.specs.Tables.{written_on}
use Rattle.tables.proofs.Written.{Written, write, all_written}
use Rattle.widget_rect.specs.declared.WidgetRect.{WidgetRect}
use Rattle.widget_rect.specs.WidgetRect.{is_focusable}
use Rattle.widget_queries.specs.Queries.{focusable_ids}

module _ (out whole now : List ℕ) (n : ℕ) (rest : List WidgetRect) (h : Written out whole (focusable_ids rest) now n) where
  pub write_focusable : (w : WidgetRect) (left : List WidgetRect) (now' : List ℕ) (n' : ℕ) → rest ≡ w ∷ left → (n' ≡ cond (is_focusable w) (n + 1) n) × (now' ≡ cond (is_focusable w) (set now n w.id) now) → Written out whole (focusable_ids left) now' n' × (n' ≤ n + 1)
  unfolding focusable_ids
  write_focusable w left now' n' e (p, q) = rw (p, q) (go (is_focusable w) (rw e at h))
    where
      go : (b : Bool) → Written out whole (cond b (w.id ∷ focusable_ids left) (focusable_ids left)) now n → Written out whole (focusable_ids left) (cond b (set now n w.id) now) (cond b (n + 1) n) × (cond b (n + 1) n ≤ n + 1)
      go true h = (write out whole (w.id ∷ focusable_ids left) now n h w.id (focusable_ids left) refl, omega arith)
      go false h = (h, omega arith)

  pub all_focusable : rest ≡ [] → (n ≡ length whole) × (now ≡ written_on out whole)
  unfolding focusable_ids
  all_focusable e = all_written out whole (focusable_ids rest) now n h (rw e)
