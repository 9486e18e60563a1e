-- `is_better` and `is_smaller` order what has a plain score. Assumes nothing.
use mathlib.Core.Path.{◌≡◌, refl, sym, ◌∙◌}
use mathlib.Core.Bool.{Bool, true, false, ◌&&◌, ◌||◌, true≢false, false≢true}
use lib.Dec.{T}
use lib.Ieee.{inf, lt, eq}
use Rattle.floats.proofs.Order.{plain, lt_apart, not_below, level_not_below, not_below_level}
use Rattle.search.specs.declared.Scored.{Scored}
use Rattle.search.specs.Search.{goes_first, is_better}
use Rattle.search.specs.EguiWalk.{is_smaller}
use Rattle.search.proofs.TieRule.{one_before, not_before}

-- what holds of each candidate in the cone
pub record Good (s : Scored) : Type 0 where
  pub score_plain : T (plain s.score)
  pub score_finite : lt s.score (inf false) ≡ true
  pub some_id : s.candidate.id ≡ 0 → ⊥

-- better goes one way, and what is not better than what is not better than c is not better than c
pub record Orders (better : Scored → Scored → Bool) : Type 0 where
  pub one_way : (a b : Scored) → Good a → Good b → better a b ≡ true → better b a ≡ false
  pub not_through : (a b c : Scored) → Good a → Good b → Good c → better a b ≡ false → better b c ≡ false → better a c ≡ false

-- ---- p || (q && r), from its parts and back
both_false : (p q r : Bool) → p ≡ false → (q ≡ true → r ≡ false) → (p || (q && r)) ≡ false
both_false false true r h k = k refl
both_false false false r h k = refl
both_false true q r h k = h

first_false : (p q r : Bool) → (p || (q && r)) ≡ false → p ≡ false
first_false false q r h = refl
first_false true q r h = h

second_false : (p q r : Bool) → (p || (q && r)) ≡ false → q ≡ true → r ≡ false
second_false false true r h k = h
second_false false false r h k = absurd (false≢true k)
second_false true q r h k = absurd (true≢false h)

abbrev first : Scored → Scored → Bool
first a b = goes_first a.candidate b.candidate

better_one_way : (a b : Scored) → Good a → Good b → is_better a b ≡ true → is_better b a ≡ false
unfolding is_better
better_one_way a b A B h = go (lt a.score b.score) (eq a.score b.score) refl refl h
  where
    back : lt b.score a.score ≡ false → (eq b.score a.score ≡ true → first b a ≡ false) → is_better b a ≡ false
    back = both_false (lt b.score a.score) (eq b.score a.score) (first b a)

    go : (p q : Bool) → lt a.score b.score ≡ p → eq a.score b.score ≡ q → (p || (q && first a b)) ≡ true → is_better b a ≡ false
    go true q e f h = let k = lt_apart a.score b.score e in back k.0 (λ t. absurd (true≢false (sym t ∙ k.1)))
    go false true e f h = back (level_not_below a.score b.score A.score_plain B.score_plain f).1 (λ t. one_before a.candidate b.candidate h)
    go false false e f h = absurd (false≢true h)

not_better : (a b c : Scored) → Good a → Good b → Good c → is_better a b ≡ false → is_better b c ≡ false → is_better a c ≡ false
unfolding is_better
not_better a b c A B C h k =
    let x = a.score in
    let y = b.score in
    let z = c.score in
    let p = A.score_plain in
    let q = B.score_plain in
    let r = C.score_plain in
    let xy = first_false (lt x y) (eq x y) (first a b) h in
    let yz = first_false (lt y z) (eq y z) (first b c) k in
    both_false (lt x z) (eq x z) (first a c) (not_below x y z p q r xy yz)
    (λ e.
    let zx = (level_not_below x z p r e).1 in
    not_before a.candidate b.candidate c.candidate
    (second_false (lt x y) (eq x y) (first a b) h (not_below_level x y p q xy (not_below y z x q r p yz zx)))
    (second_false (lt y z) (eq y z) (first b c) k (not_below_level y z q r yz (not_below z x y r p q zx xy))))

pub better_orders : Orders is_better
better_orders = record { one_way = better_one_way; not_through = not_better }

pub smaller_orders : Orders is_smaller
unfolding is_smaller
smaller_orders = record {
  one_way = λ a b A B h. (lt_apart a.score b.score h).0;
  not_through = λ a b c A B C. not_below a.score b.score c.score A.score_plain B.score_plain C.score_plain;
}
