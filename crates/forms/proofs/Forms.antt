-- The grammar's two laws: what a line is read as, it is written as, and what is written is read. Assumes nothing.
use Rattle.std.proofs.Common.{◌≡◌, ℕ, ◌≤◌, true, false, ltb, List, [], ◌∷◌, ◌++◌, length, Some, codes, refl, sym, ap, subst, ◌∙◌, append_assoc, le-ltb}
use Rattle.std.proofs.lemmas.Bool.{ltb-false}
use Rattle.std.specs.List.{flat_map, AllByRecursion}
use Rattle.text.specs.Read.{opens, word_at}
use Rattle.layers.specs.declared.LayerId.{LayerId}
use Rattle.forms.specs.declared.Spot.{Spot}
use Rattle.forms.specs.declared.Entry.{Entry}
use Rattle.forms.specs.declared.Entry.TheVariants.{Key, Ask}
use Rattle.forms.specs.declared.Place.{Place}
use Rattle.forms.specs.Form as form
use Rattle.forms.specs.Form.{Form, Begin, Want, Area, Top, Sub, Modal, End, Hit, Focus, written, IsForm, IsNumber, IsLayer, IsSpot, IsEntry, IsPlace}
use Rattle.forms.specs.Read.{◌>>=◌, after, begin_in, end_in, want_in, area_in, top_in, sub_in, modal_in, hit_in, focus_in, plain_in, form_in, nothing_left, longest_line, form_of}
use Rattle.forms.proofs.Steps.{cond_none, bind_some, some_is}
use Rattle.forms.proofs.Codec.{Codec, Takes, AnyRest, after_takes, taken, choice, word, last, then, many}
use Rattle.forms.proofs.Fields.{Clear, argument, layer, spot, entry, place, space_ends, bracket_ends}

-- ---- each form without its word and its closing bracket
-- entries and places begin with a space
entry_opens : (e : Entry) (rest : List ℕ) → opens (codes " ") (form.entry e ++ rest) ≡ true
unfolding opens
entry_opens (Key k d m) rest = refl
entry_opens (Ask i) rest = refl

place_opens : (p : Place) (rest : List ℕ) → opens (codes " ") (form.place p ++ rest) ≡ true
unfolding opens
place_opens p rest = refl

-- no space stands there, with which entries would go on
abbrev NoSpace : List ℕ → Type 0
NoSpace rest = opens (codes " ") rest ≡ false

begin : Codec NoSpace Begin begin_in (flat_map form.entry) (AllByRecursion IsEntry)
unfolding begin_in
begin = last (many entry entry_opens) (λ es. Begin es)

end : Codec NoSpace End end_in (flat_map form.place) (AllByRecursion IsPlace)
unfolding end_in
end = last (many place place_opens) (λ ps. End ps)

want : Codec Clear (λ (p : LayerId × ℕ). Want p.0 p.1) want_in (λ p. form.layer p.0 ++ form.number p.1) (λ p. IsLayer p.0 × IsNumber p.1)
unfolding want_in
want = then layer (λ l. last argument (λ i. Want l i)) (λ i rest h. space_ends _)

area : Codec Clear (λ (p : LayerId × (Spot × Spot)). Area p.0 p.1.0 p.1.1) area_in (λ p. form.layer p.0 ++ (form.spot p.1.0 ++ form.spot p.1.1)) (λ p. IsLayer p.0 × (IsSpot p.1.0 × IsSpot p.1.1))
unfolding area_in
area = then layer (λ l. then spot (λ at. last spot (λ size. Area l at size)) (λ size rest h. space_ends _)) (λ p rest h. space_ends _)

top : Codec Clear Top top_in form.layer IsLayer
unfolding top_in
top = last layer (λ l. Top l)

sub : Codec Clear (λ (p : LayerId × ℕ). Sub p.0 p.1) sub_in (λ p. form.layer p.0 ++ form.number p.1) (λ p. IsLayer p.0 × IsNumber p.1)
unfolding sub_in
sub = then layer (λ l. last argument (λ i. Sub l i)) (λ i rest h. space_ends _)

modal : Codec Clear Modal modal_in form.layer IsLayer
unfolding modal_in
modal = last layer (λ l. Modal l)

hit : Codec Clear Hit hit_in form.spot IsSpot
unfolding hit_in
hit = last spot (λ at. Hit at)

focus : Codec AnyRest (λ (u : Unit {0}). Focus) focus_in (λ u. []) (λ u. Unit {0})
focus = record {
  takes = λ s f rest e. let m = some_is (Focus, s) (f, rest) e in (tt, ap (λ (x : Form × List ℕ). x.0) m, ap (λ (x : Form × List ℕ). x.1) m, tt);
  again = λ u rest f n. refl;
}

-- ---- a form without its closing bracket
abbrev opened : Form → List ℕ
opened (Begin es) = codes "(begin" ++ flat_map form.entry es
opened (Want l id) = codes "(want" ++ (form.layer l ++ form.number id)
opened (Area l at size) = codes "(area" ++ (form.layer l ++ (form.spot at ++ form.spot size))
opened (Top l) = codes "(top" ++ form.layer l
opened (Sub l id) = codes "(sub" ++ (form.layer l ++ form.number id)
opened (Modal l) = codes "(modal" ++ form.layer l
opened (End ps) = codes "(end" ++ flat_map form.place ps
opened (Hit at) = codes "(hit" ++ form.spot at
opened Focus = codes "(focus"

regrouped : (a b c e : List ℕ) → a ++ (b ++ (c ++ e)) ≡ (a ++ (b ++ c)) ++ e
regrouped a b c e = simp append_assoc

written_is : (f : Form) → written f ≡ opened f ++ codes ")"
written_is (Begin es) = refl
written_is (Want l id) = simp append_assoc
written_is (Area l at size) = ap (λ (t : List ℕ). codes "(area" ++ t) (regrouped (form.layer l) (form.spot at) (form.spot size) (codes ")"))
written_is (Top l) = refl
written_is (Sub l id) = simp append_assoc
written_is (Modal l) = refl
written_is (End ps) = refl
written_is (Hit at) = refl
written_is Focus = refl

plain_takes : Takes plain_in opened IsForm
unfolding plain_in
plain_takes =
    choice (codes "(want") want (λ p f. (refl, f)) (choice (codes "(area") area (λ p f. (refl, (f.0, f.1.0, f.1.1))) (choice (codes "(top") top (λ l f. (refl, f))
    (choice (codes "(sub") sub (λ p f. (refl, f)) (choice (codes "(modal") modal (λ l f. (refl, f)) (choice (codes "(hit") hit (λ s f. (refl, f))
    (taken (word (codes "(focus") focus) (λ u f. (refl, tt))))))))

form_in_takes : Takes form_in opened IsForm
unfolding form_in
form_in_takes = choice (codes "(begin") begin (λ es f. (refl, f)) (choice (codes "(end") end (λ ps f. (refl, f)) plain_takes)

form_in_again : (f : Form) → IsForm f → form_in (opened f ++ codes ")") ≡ Some (f, codes ")")
unfolding form_in plain_in after word_at opens
form_in_again (Begin es) h = begin.again es (codes ")") h refl
form_in_again (Want l id) h = want.again (l, id) (codes ")") h (bracket_ends [])
form_in_again (Area l at size) h = area.again (l, (at, size)) (codes ")") (h.0, (h.1, h.2)) (bracket_ends [])
form_in_again (Top l) h = top.again l (codes ")") h (bracket_ends [])
form_in_again (Sub l id) h = sub.again (l, id) (codes ")") h (bracket_ends [])
form_in_again (Modal l) h = modal.again l (codes ")") h (bracket_ends [])
form_in_again (End ps) h = end.again ps (codes ")") h refl
form_in_again (Hit at) h = hit.again at (codes ")") h (bracket_ends [])
form_in_again Focus h = refl

-- ---- a line
ended : (f g : Form) (s : List ℕ) → nothing_left f s ≡ Some g → (s ≡ []) × (f ≡ g)
ended f g [] e = (refl, some_is f g e)
ended f g (b ∷ s) e = absurd cc

pub form_takes : (line : List ℕ) (f : Form) → form_of line ≡ Some f → (line ≡ written f) × IsForm f × (length line ≤ longest_line)
unfolding form_of
form_takes line f e =
    let a = cond_none (ltb longest_line (length line)) (form_in line >>= λ x. after x.1 (codes ")") >>= λ rest. nothing_left x.0 rest) f e in
    let b = bind_some (form_in line) (λ (x : Form × List ℕ). after x.1 (codes ")") >>= λ rest. nothing_left x.0 rest) f a.1 in
    let c = bind_some (after b.0.1 (codes ")")) (nothing_left b.0.0) f b.2 in
    let d = form_in_takes.law line b.0.0 b.0.1 b.1 in
    let n = ended b.0.0 f c.0 c.2 in
    let bracket : b.0.1 ≡ codes ")" = after_takes b.0.1 (codes ")") c.0 c.1 ∙ ap (λ (r : List ℕ). codes ")" ++ r) n.0 in
    let w = subst (λ (x : Form). (line ≡ written x) × IsForm x) n.1 (d.0 ∙ ap (λ (r : List ℕ). opened b.0.0 ++ r) bracket ∙ sym (written_is b.0.0), d.1) in
    (w.0, w.1, ltb-false longest_line (length line) a.0)

pub form_again : (f : Form) → IsForm f → length (written f) ≤ longest_line → form_of (written f) ≡ Some f
unfolding form_of after word_at opens
form_again f h long =
    rw (le-ltb longest_line (length (written f)) long, written_is f, form_in_again f h) refl
