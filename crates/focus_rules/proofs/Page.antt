-- What a whole page of interest calls does to the fields: with no key, after Tab and after Shift+Tab; and what the next begin makes of it. Assumes nothing.
use Prim.Native.Nat.{ℕ}
use mathlib.Core.Path.{◌≡◌, refl, sym, ap, ◌∙◌}
use mathlib.Core.Bool.{Bool, true, false, cond, not, ◌&&◌, and-false}
use mathlib.Core.List.{List, [], ◌∷◌, ◌++◌}
use lib.Dec.{eqb}
use borrow.Author.Tests.{eq-eqb, ne_eqb}
use Rattle.input.specs.FocusDirection.{previous, next, no_direction}
use Rattle.focus_rules.specs.declared.Nav.{Nav}
use Rattle.focus_rules.specs.Rules.{focus_on, with_next, with_give, with_last, with_frames, reset_focus, gives, is_idle, ruled, started_of, interested_of}
use Rattle.focus_rules.specs.Page.{wanted_all, last_of, NoneOf, Turning}

-- ---- the two ways of a test
module _ {b : Bool} where
  pub yes : b ≡ true → (x y : Nav) → cond b x y ≡ x
  yes e x y = ap (λ (t : Bool). cond t x y) e

  pub no : b ≡ false → (x y : Nav) → cond b x y ≡ y
  no e x y = ap (λ (t : Bool). cond t x y) e

pub either : (b : Bool) (x y z : Nav) → x ≡ z → y ≡ z → cond b x y ≡ z
either true x y z p q = p
either false x y z p q = q

-- ---- calls in turn
in_turn : (n : Nav) (xs ys : List ℕ) → wanted_all n (xs ++ ys) ≡ wanted_all (wanted_all n xs) ys
unfolding wanted_all
in_turn n [] ys = refl
in_turn n (x ∷ xs) ys = in_turn (interested_of n x) xs ys

one_more_lem : (n m : Nav) (id : ℕ) (ids : List ℕ) → ruled n id ≡ m → wanted_all n (id ∷ ids) ≡ wanted_all (with_last m id) ids
unfolding wanted_all interested_of
one_more_lem n m id ids e = ap (λ (k : Nav). wanted_all (with_last k id) ids) e

-- ---- what one call does
module _ (n : Nav) (id : ℕ) where
  nothing_waits : n.give_to_next ≡ false → gives n id ≡ false
  nothing_waits g = ap (λ (t : Bool). t && not (eqb n.id_previous_frame id)) g

  -- no key, and nothing waits
  still : n.give_to_next ≡ false → n.focus_direction ≡ no_direction → ruled n id ≡ n
  still g d = no (nothing_waits g) _ _ ∙ either (eqb n.focused id) _ _ _ (no (is next refl) _ _ ∙ no (is previous refl) _ _) (no (idle next refl) _ _ ∙ no (idle previous refl) _ _)
    where
      is : (direction : ℕ) → eqb no_direction direction ≡ false → eqb n.focus_direction direction ≡ false
      is direction e = ap (λ (k : ℕ). eqb k direction) d ∙ e

      idle : (direction : ℕ) → eqb no_direction direction ≡ false → (eqb n.focus_direction direction && is_idle n) ≡ false
      idle direction e = ap (λ (t : Bool). t && is_idle n) (is direction e)

  -- another is focused
  passed_by : n.give_to_next ≡ false → (n.focused ≡ 0 → ⊥) → (n.focused ≡ id → ⊥) → ruled n id ≡ n
  passed_by g z o = no (nothing_waits g) _ _ ∙ no (ne_eqb _ _ o) _ _ ∙ no (busy next) _ _ ∙ no (busy previous) _ _
    where
      busy : (direction : ℕ) → (eqb n.focus_direction direction && is_idle n) ≡ false
      busy direction = ap (λ (t : Bool). eqb n.focus_direction direction && (t && not n.give_to_next)) (ne_eqb _ _ z) ∙ and-false (eqb n.focus_direction direction)

  -- a hand-over that waits goes to an id that was not focused when the pass began
  taken : n.give_to_next ≡ true → (n.id_previous_frame ≡ id → ⊥) → ruled n id ≡ with_give (focus_on n id) false
  taken g h = yes ((λ i. g i && not (ne_eqb _ _ h i))) _ _

  module _ (g : n.give_to_next ≡ false) (f : n.focused ≡ id) where
    given_up : n.focus_direction ≡ next → ruled n id ≡ reset_focus (with_give (focus_on n 0) true)
    given_up d = no (nothing_waits g) _ _ ∙ yes (eq-eqb _ _ f) _ _ ∙ yes (eq-eqb _ _ d) _ _

    given_back : n.focus_direction ≡ previous → ruled n id ≡ reset_focus (with_next n n.last_interested)
    given_back d = no (nothing_waits g) _ _ ∙ yes (eq-eqb _ _ f) _ _ ∙ no (ap (λ (k : ℕ). eqb k next) d) _ _ ∙ yes (eq-eqb _ _ d) _ _

-- ---- what the calls of a page do
pub no_key : (n : Nav) (ids : List ℕ) → n.give_to_next ≡ false → n.focus_direction ≡ no_direction → wanted_all n ids ≡ with_last n (last_of n.last_interested ids)
unfolding wanted_all last_of
no_key n [] g d = refl
no_key n (x ∷ xs) g d = one_more_lem n n x xs (still n x g d) ∙ no_key (with_last n x) xs g d

pub hand_over : (n : Nav) (id : ℕ) (ids : List ℕ) → n.give_to_next ≡ true → (n.id_previous_frame ≡ id → ⊥) → n.focus_direction ≡ no_direction
    → wanted_all n (id ∷ ids) ≡ with_last (with_give (focus_on n id) false) (last_of id ids)
hand_over n id ids g h d = one_more_lem n _ id ids (taken n id g h) ∙ no_key (with_last (with_give (focus_on n id) false) id) ids refl d

-- up to the focused one
before_it : {n : Nav} {f direction : ℕ} (xs : List ℕ) → Turning n f direction → NoneOf xs f → wanted_all n xs ≡ with_last n (last_of n.last_interested xs)
unfolding wanted_all NoneOf last_of
before_it [] t o = refl
before_it {n} {f} (x ∷ xs) t (o, os) =
    one_more_lem n n x xs (passed_by n x t.no_give (λ z. t.some (sym t.focused ∙ z)) (λ e. o (sym e ∙ t.focused)))
    ∙ before_it xs (record { some = t.some; focused = t.focused; before = t.before; no_give = t.no_give; turned = t.turned }) os

module _ (n : Nav) (f : ℕ) (xs : List ℕ) (o : NoneOf xs f) where
  abbrev reached : Nav
  reached = with_last n (last_of n.last_interested xs)

  at_it : {direction : ℕ} (ids : List ℕ) → Turning n f direction → wanted_all n (xs ++ ids) ≡ wanted_all reached ids
  at_it ids t = in_turn n xs ids ∙ ap (λ (m : Nav). wanted_all m ids) (before_it xs t o)

  at_tab : (ids : List ℕ) → Turning n f next → wanted_all n (xs ++ (f ∷ ids)) ≡ wanted_all (with_last (reset_focus (with_give (focus_on n 0) true)) f) ids
  at_tab ids t = at_it (f ∷ ids) t ∙ one_more_lem reached _ f ids (given_up reached f t.no_give t.focused t.turned)

  pub tab_ends : Turning n f next → wanted_all n (xs ++ (f ∷ [])) ≡ with_last (reset_focus (with_give (focus_on n 0) true)) f
  unfolding wanted_all
  tab_ends t = at_tab [] t

  pub tab_goes_on : (y : ℕ) (ys : List ℕ) → (y ≡ f → ⊥) → Turning n f next → wanted_all n (xs ++ (f ∷ y ∷ ys)) ≡ with_last (reset_focus (with_give (focus_on n y) false)) (last_of y ys)
  tab_goes_on y ys d t = at_tab (y ∷ ys) t ∙ hand_over (with_last (reset_focus (with_give (focus_on n 0) true)) f) y ys refl (λ e. d (sym e ∙ t.before)) refl

  pub shift_tab_goes_back : (ys : List ℕ) → Turning n f previous → wanted_all n (xs ++ (f ∷ ys)) ≡ with_last (reset_focus (with_next n (last_of n.last_interested xs))) (last_of f ys)
  shift_tab_goes_back ys t =
      at_it (f ∷ ys) t ∙ one_more_lem reached _ f ys (given_back reached f t.no_give t.focused t.turned)
      ∙ no_key (with_last (reset_focus (with_next n (last_of n.last_interested xs))) f) ys t.no_give refl

-- ---- the begin
pub handed_back : (n : Nav) → (n.id_next_frame ≡ 0 → ⊥) → started_of n ≡ reset_focus (focus_on (with_next (with_frames n n.focused n.id_previous_frame) 0) n.id_next_frame)
unfolding started_of
handed_back n h = ap (λ (m : Nav). reset_focus m) (no (ne_eqb _ _ h) _ _)
