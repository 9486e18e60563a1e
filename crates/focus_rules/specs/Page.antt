-- A page: the interest calls of one pass, in turn, by the rules. Definitions only.
use Rattle.std.specs.Prelude.{ℕ, ◌≡◌, false, List, [], ◌∷◌}
use Rattle.focus_rules.specs.declared.Nav.{Nav}
use Rattle.focus_rules.specs.Rules.{interested_of}

unfoldable pub wanted_all : Nav → List ℕ → Nav
wanted_all n [] = n
wanted_all n (id ∷ ids) = wanted_all (interested_of n id) ids

-- the last of the ids, and where there is none, the id given
unfoldable pub last_of : ℕ → List ℕ → ℕ
last_of id [] = id
last_of id (x ∷ xs) = last_of x xs

-- the id is none of these
unfoldable pub NoneOf : List ℕ → ℕ → Type 0
NoneOf [] id = Unit {0}
NoneOf (x ∷ xs) id = (x ≡ id → ⊥) × NoneOf xs id

-- a pass that began with this id focused and nothing to hand over, and in which a key then gave the direction
pub record Turning (n : Nav) (id direction : ℕ) : Type 0 where
  pub some : id ≡ 0 → ⊥
  pub focused : n.focused ≡ id
  pub before : n.id_previous_frame ≡ id
  pub no_give : n.give_to_next ≡ false
  pub turned : n.focus_direction ≡ direction
