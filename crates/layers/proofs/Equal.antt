-- The definition of one layer is equality. Assumes nothing.
use mathlib.Core.Path.{◌≡◌, refl, ap, ◌∙◌}
use mathlib.Core.Bool.{Bool, true, false, ◌&&◌, false≢true}
use Prim.Native.Nat.{ℕ}
use lib.Dec.{eqb}
use borrow.Author.Tests.{eqb-true, eq-eqb}
use Rattle.layers.specs.declared.LayerId.{LayerId}
use Rattle.layers.specs.Layers.{is_layer}

pub equal : (a b : LayerId) → is_layer a b ≡ true → a ≡ b
unfolding is_layer
equal a b h = go (eqb a.order b.order) (eqb-true a.order b.order) h
  where
    go : (t : Bool) → (t ≡ true → a.order ≡ b.order) → (t && eqb a.id b.id) ≡ true → a ≡ b
    go true o h = λ i. record { order = o refl i; id = eqb-true a.id b.id h i }
    go false o h = absurd (false≢true h)

pub one : (a b : LayerId) → a ≡ b → is_layer a b ≡ true
unfolding is_layer
one a b e = rw (e, eq-eqb b.order b.order refl, eq-eqb b.id b.id refl)
