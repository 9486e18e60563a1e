-- The form of a line by its second byte, the first letter of its word. Assumes nothing.
use Rattle.std.proofs.Common.{◌≡◌, ℕ, Bool, true, false, ◌&&◌, eqb, arith, List, [], ◌∷◌, get_or, Option, Some, None, refl, sym, ap, subst, ◌∙◌, codes}
use borrow.Author.Tests.{eqb-true, ne_eqb}
use Rattle.text.specs.Read.{opens, word_at}
use Rattle.forms.specs.Form.{Form}
use Rattle.requests.specs.declared.Lists.{Lists}
use Rattle.requests.specs.Asked.{lists_begun, lists_ended, lists_after}
use Rattle.forms.specs.Read.{◌>>=◌, after, or_else, begin_in, want_in, area_in, top_in, sub_in, modal_in, end_in, hit_in, focus_in, plain_in, form_in}

abbrev Reader : Type 0
Reader = List ℕ → Option (Form × List ℕ)

-- the last of several readers
alone : {A B : Type 0} (o : Option A) (f : A → Option B) → or_else o f None ≡ (o >>= f)
alone (Some x) f = refl
alone None f = refl

nothing_after : (s w : List ℕ) → opens w s ≡ false → after s w ≡ None
unfolding after word_at
nothing_after s w e = rw e refl

-- a line that does not begin with a bracket
no_bracket : (a b : ℕ) (r : List ℕ) → eqb a 40 ≡ false → form_in (a ∷ b ∷ r) ≡ None
unfolding form_in plain_in after word_at opens
no_bracket a b r e = rw e refl

-- a word x ∷ w behind the bracket, and its reader f, by what they are where the bracket stands
module _ (x : ℕ) (w : List ℕ) (f : Reader) (some : x ≡ 0 → ⊥) (there : (r : List ℕ) → form_in (40 ∷ x ∷ r) ≡ (after (40 ∷ x ∷ r) (40 ∷ x ∷ w) >>= f)) where
  lettered : (s : List ℕ) → get_or s 1 0 ≡ x → form_in s ≡ (after s (40 ∷ x ∷ w) >>= f)
  unfolding opens
  lettered [] e = absurd (some (sym e))
  lettered (a ∷ []) e = absurd (some (sym e))
  lettered (a ∷ b ∷ r) e = subst (λ (y : ℕ). form_in (a ∷ y ∷ r) ≡ (after (a ∷ y ∷ r) (40 ∷ x ∷ w) >>= f)) (sym e) (go (eqb a 40) refl)
    where
      go : (t : Bool) → eqb a 40 ≡ t → form_in (a ∷ x ∷ r) ≡ (after (a ∷ x ∷ r) (40 ∷ x ∷ w) >>= f)
      go true q = subst (λ (y : ℕ). form_in (y ∷ x ∷ r) ≡ (after (y ∷ x ∷ r) (40 ∷ x ∷ w) >>= f)) (sym (eqb-true a 40 q)) (there r)
      go false q = no_bracket a x r q ∙ sym (ap (λ (o : Option (List ℕ)). o >>= f) (nothing_after (a ∷ x ∷ r) (40 ∷ x ∷ w) (shut q)))
        where
          shut : eqb a 40 ≡ false → opens (40 ∷ x ∷ w) (a ∷ x ∷ r) ≡ false
          shut q = rw q refl

pub is_begin : (s : List ℕ) → get_or s 1 0 ≡ 98 → form_in s ≡ (after s (codes "(begin") >>= begin_in)
unfolding form_in plain_in after word_at opens
is_begin = lettered 98 (codes "egin") begin_in (λ e. absurd cc) (λ r. alone (after (40 ∷ 98 ∷ r) (codes "(begin")) begin_in)

pub is_want : (s : List ℕ) → get_or s 1 0 ≡ 119 → form_in s ≡ (after s (codes "(want") >>= want_in)
unfolding form_in plain_in after word_at opens
is_want = lettered 119 (codes "ant") want_in (λ e. absurd cc) (λ r. alone (after (40 ∷ 119 ∷ r) (codes "(want")) want_in)

pub is_area : (s : List ℕ) → get_or s 1 0 ≡ 97 → form_in s ≡ (after s (codes "(area") >>= area_in)
unfolding form_in plain_in after word_at opens
is_area = lettered 97 (codes "rea") area_in (λ e. absurd cc) (λ r. alone (after (40 ∷ 97 ∷ r) (codes "(area")) area_in)

pub is_top : (s : List ℕ) → get_or s 1 0 ≡ 116 → form_in s ≡ (after s (codes "(top") >>= top_in)
unfolding form_in plain_in after word_at opens
is_top = lettered 116 (codes "op") top_in (λ e. absurd cc) (λ r. alone (after (40 ∷ 116 ∷ r) (codes "(top")) top_in)

pub is_sub : (s : List ℕ) → get_or s 1 0 ≡ 115 → form_in s ≡ (after s (codes "(sub") >>= sub_in)
unfolding form_in plain_in after word_at opens
is_sub = lettered 115 (codes "ub") sub_in (λ e. absurd cc) (λ r. alone (after (40 ∷ 115 ∷ r) (codes "(sub")) sub_in)

pub is_modal : (s : List ℕ) → get_or s 1 0 ≡ 109 → form_in s ≡ (after s (codes "(modal") >>= modal_in)
unfolding form_in plain_in after word_at opens
is_modal = lettered 109 (codes "odal") modal_in (λ e. absurd cc) (λ r. alone (after (40 ∷ 109 ∷ r) (codes "(modal")) modal_in)

pub is_end : (s : List ℕ) → get_or s 1 0 ≡ 101 → form_in s ≡ (after s (codes "(end") >>= end_in)
unfolding form_in plain_in after word_at opens
is_end = lettered 101 (codes "nd") end_in (λ e. absurd cc) (λ r. alone (after (40 ∷ 101 ∷ r) (codes "(end")) end_in)

pub is_hit : (s : List ℕ) → get_or s 1 0 ≡ 104 → form_in s ≡ (after s (codes "(hit") >>= hit_in)
unfolding form_in plain_in after word_at opens
is_hit = lettered 104 (codes "it") hit_in (λ e. absurd cc) (λ r. alone (after (40 ∷ 104 ∷ r) (codes "(hit")) hit_in)

pub is_focus : (s : List ℕ) → get_or s 1 0 ≡ 102 → form_in s ≡ (after s (codes "(focus") >>= focus_in)
unfolding form_in plain_in after word_at opens
is_focus = lettered 102 (codes "ocus") focus_in (λ e. absurd cc) (λ r. refl)

-- any other letter
other_word : (b : ℕ) (r : List ℕ) → (b ≡ 98 → ⊥) × (b ≡ 119 → ⊥) × (b ≡ 97 → ⊥) × (b ≡ 116 → ⊥) × (b ≡ 115 → ⊥) × (b ≡ 109 → ⊥) × (b ≡ 101 → ⊥) × (b ≡ 104 → ⊥) × (b ≡ 102 → ⊥) → form_in (40 ∷ b ∷ r) ≡ None
unfolding form_in plain_in after word_at opens
other_word b r h = rw (ne_eqb b 98 h.0, ne_eqb b 119 h.1, ne_eqb b 97 h.2, ne_eqb b 116 h.3, ne_eqb b 115 h.4, ne_eqb b 109 h.5, ne_eqb b 101 h.6, ne_eqb b 104 h.7, ne_eqb b 102 h.8) refl

lone : (a : ℕ) (t : Bool) → eqb a 40 ≡ t → form_in (a ∷ []) ≡ None
unfolding form_in plain_in after word_at opens
lone a true e = rw e refl
lone a false e = rw e refl

pub is_other : (s : List ℕ) → (get_or s 1 0 ≡ 98 → ⊥) × (get_or s 1 0 ≡ 119 → ⊥) × (get_or s 1 0 ≡ 97 → ⊥) × (get_or s 1 0 ≡ 116 → ⊥) × (get_or s 1 0 ≡ 115 → ⊥) × (get_or s 1 0 ≡ 109 → ⊥) × (get_or s 1 0 ≡ 101 → ⊥) × (get_or s 1 0 ≡ 104 → ⊥) × (get_or s 1 0 ≡ 102 → ⊥) → form_in s ≡ None
unfolding form_in plain_in after word_at opens
is_other [] h = refl
is_other (a ∷ []) h = lone a (eqb a 40) refl
is_other (a ∷ b ∷ r) h = go (eqb a 40) refl
  where
    go : (t : Bool) → eqb a 40 ≡ t → form_in (a ∷ b ∷ r) ≡ None
    go true e = subst (λ (y : ℕ). form_in (y ∷ b ∷ r) ≡ None) (sym (eqb-true a 40 e)) (other_word b r h)
    go false e = no_bracket a b r e

-- ---- the lists: only `begin` and `end` put entries
other_after : (s : List ℕ) (x : ℕ) (w : List ℕ) → (get_or s 1 0 ≡ x → ⊥) → after s (40 ∷ x ∷ w) ≡ None
unfolding opens
other_after [] x w h = nothing_after [] (40 ∷ x ∷ w) refl
other_after (a ∷ []) x w h = nothing_after (a ∷ []) (40 ∷ x ∷ w) (go (eqb a 40))
  where
    go : (t : Bool) → (t && false) ≡ false
    go true = refl
    go false = refl
other_after (a ∷ b ∷ r) x w h = nothing_after (a ∷ b ∷ r) (40 ∷ x ∷ w) (rw (ne_eqb b x h) (go (eqb a 40)))
  where
    go : (t : Bool) → (t && false) ≡ false
    go true = refl
    go false = refl

module _ (s : List ℕ) (before now : Lists) where
  pub after_begin : get_or s 1 0 ≡ 98 → now ≡ lists_begun before (after s (codes "(begin")) → now ≡ lists_after s before
  unfolding lists_after
  after_begin e q = q ∙ ap (lists_ended (lists_begun before (after s (codes "(begin")))) (sym (other_after s 101 (codes "nd") (λ k. absurd (let z : 98 ≡ 101 = sym e ∙ k in omega arith))))

  pub after_end : get_or s 1 0 ≡ 101 → now ≡ lists_ended before (after s (codes "(end")) → now ≡ lists_after s before
  unfolding lists_after
  after_end e q = q ∙ ap (λ (o : Option (List ℕ)). lists_ended (lists_begun before o) (after s (codes "(end"))) (sym (other_after s 98 (codes "egin") (λ k. absurd (let z : 101 ≡ 98 = sym e ∙ k in omega arith))))

pub after_other : (s : List ℕ) (lists : Lists) → (get_or s 1 0 ≡ 98 → ⊥) → (get_or s 1 0 ≡ 101 → ⊥) → lists ≡ lists_after s lists
unfolding lists_after
after_other s lists h k = rw (other_after s 98 (codes "egin") h, other_after s 101 (codes "nd") k) refl
