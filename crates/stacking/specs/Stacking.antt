-- The order of the layers after a pass: the sort and the sublayers of Areas::end_pass (memory/mod.rs, lines 1411 to 1432), and document 01, "Areas". Definitions only.
use Rattle.std.specs.Prelude.{ℕ, ◌+◌, ◌*◌, ◌≤◌, ◌≡◌, Bool, true, false, cond, not, List, [], ◌∷◌, length}
use Rattle.refusal.specs.Limits.{last_order}
use Rattle.layers.specs.declared.LayerId.{LayerId}
use Rattle.layers.specs.Layers.{is_layer}
use Rattle.stacking.specs.Lists.{keep, some, each, stable}

-- `sort_by_key` by (Order, raised or not), as one number
abbrev pub key_of : (LayerId → Bool) → LayerId → ℕ
key_of raised layer = 2 * layer.order + cond (raised layer) 1 0

unfoldable pub sorted : (LayerId → Bool) → List LayerId → List LayerId
sorted raised order = stable (key_of raised) (2 * (last_order + 1)) order

-- each top layer, then its children; `is_child parent child` says which are pairs, and a top layer is no one's child. The Rust takes the parents in the order of a map, moves
-- the children of each behind it, and says that this order does not matter: `moved` is that loop, and the theorem `any_order_of_parents` says the rest
abbrev pub is_top : (LayerId → LayerId → Bool) → List LayerId → LayerId → Bool
is_top isChild order layer = not (some (λ parent. isChild parent layer) order)

unfoldable pub families : (LayerId → LayerId → Bool) → List LayerId → List LayerId
families isChild order = each (λ parent. parent ∷ keep (isChild parent) order) (keep (is_top isChild order) order)

-- `retain` without the children of a parent, and `splice` of the parent with them behind it, for one parent after the other
unfoldable pub moved : (LayerId → LayerId → Bool) → List LayerId → List LayerId → List LayerId
moved isChild [] order = order
moved isChild (parent ∷ parents) order = moved isChild parents (each (λ l. cond (is_layer l parent) (parent ∷ keep (isChild parent) order) (l ∷ [])) (keep (λ l. not (isChild parent l)) order))

unfoldable pub stacked : (LayerId → Bool) → (LayerId → LayerId → Bool) → List LayerId → List LayerId
stacked raised isChild order = families isChild (sorted raised order)

-- ---- what the laws of the stack suppose: no layer stands twice, each has an Order, parents are in the list, and the pairs are those that refusals 8 and 9 leave
unfoldable pub holds : List LayerId → LayerId → Bool
holds order layer = some (λ l. is_layer l layer) order

unfoldable pub Distinct : List LayerId → Type 0
Distinct [] = Unit {0}
Distinct (l ∷ order) = (holds order l ≡ false) × Distinct order

unfoldable pub Orders : List LayerId → Type 0
Orders [] = Unit {0}
Orders (l ∷ order) = (l.order ≤ last_order) × Orders order

pub record Pairs (order : List LayerId) (isChild : LayerId → LayerId → Bool) : Type 0 where
  pub held : (parent child : LayerId) → isChild parent child ≡ true → holds order parent ≡ true
  pub same_order : (parent child : LayerId) → isChild parent child ≡ true → parent.order ≡ child.order
  pub one_parent : (parent other child : LayerId) → isChild parent child ≡ true → isChild other child ≡ true → parent ≡ other
  pub one_level : (parent child other : LayerId) → isChild parent child ≡ true → isChild other parent ≡ false

-- ---- what the laws say
-- how often a layer stands in a list
unfoldable pub times : List LayerId → LayerId → ℕ
times order layer = length (keep (λ l. is_layer l layer) order)

-- no layer stands above one of a higher Order
unfoldable pub Rising : List LayerId → Type 0
Rising [] = Unit {0}
Rising (l ∷ order) = ((other : LayerId) → holds order other ≡ true → l.order ≤ other.order) × Rising order
