-- A line read as a form, part by part from the front: what a part is, and the bytes after it. What a line is read as, it is written as, and the other way round: `forms::one_form_a_line`. Definitions only.
use Rattle.std.specs.Prelude.{ℕ, zero, suc, Bool, true, false, cond, List, [], ◌∷◌, eqb, ltb, length, drop, Option, Some, None, codes}
use Rattle.std.specs.Borrow.{Bor}
use Rattle.text.specs.Read.{opens, word_at, number_at}
use Rattle.layers.specs.declared.LayerId.{LayerId}
use Rattle.forms.specs.declared.Coordinate.{Coordinate}
use Rattle.forms.specs.declared.Spot.{Spot}
use Rattle.forms.specs.declared.Entry.{Entry}
use Rattle.forms.specs.declared.Entry.TheVariants.{Key, Ask}
use Rattle.forms.specs.declared.Place.{Place}
use Rattle.forms.specs.Form.{Form, Begin, Want, Area, Top, Sub, Modal, End, Hit, Focus}

infixl 10 ◌>>=◌
abbrev pub ◌>>=◌ : {A B : Type 0} → Option A → (A → Option B) → Option B
(Some x) >>= f = f x
None >>= f = None

-- what a function of the code gives: slices by their bytes
abbrev pub seen : {A : Type 0} → Option (A × Bor (List ℕ)) → Option (A × List ℕ)
seen (Some x) = Some (x.0, x.1.now)
seen None = None

abbrev pub bytes_seen : Option (Bor (List ℕ)) → Option (List ℕ)
bytes_seen (Some s) = Some s.now
bytes_seen None = None

-- the bytes after a word
unfoldable pub after : List ℕ → List ℕ → Option (List ℕ)
after s word = do
  at ← word_at s 0 word
  Some (drop at s)

unfoldable pub number_in : List ℕ → Option (ℕ × List ℕ)
number_in s = do
  n ← number_at s 0
  Some (n.0, drop n.1 s)

unfoldable pub argument_in : List ℕ → Option (ℕ × List ℕ)
argument_in s = do
  r ← after s (codes " ")
  number_in r

unfoldable pub flag_in : List ℕ → Option (Bool × List ℕ)
flag_in s = do
  n ← argument_in s
  cond (ltb 1 n.0) None (Some (eqb n.0 1, n.1))

-- a coordinate after its minus, and one that has none
unfoldable pub below_in : List ℕ → Option (Coordinate × List ℕ)
below_in s = do
  n ← number_in s
  cond (eqb n.0 0) None (Some (record { below = true; steps = n.0 }, n.1))

unfoldable pub above_in : List ℕ → Option (Coordinate × List ℕ)
above_in s = do
  n ← number_in s
  Some (record { below = false; steps = n.0 }, n.1)

abbrev pub signed_in : List ℕ → Option (List ℕ) → Option (Coordinate × List ℕ)
signed_in s (Some r) = below_in r
signed_in s None = above_in s

unfoldable pub coordinate_in : List ℕ → Option (Coordinate × List ℕ)
coordinate_in s = do
  r ← after s (codes " ")
  signed_in r (after r (codes "-"))

unfoldable pub spot_in : List ℕ → Option (Spot × List ℕ)
spot_in s = do
  x ← coordinate_in s
  y ← coordinate_in x.1
  Some (record { x = x.0; y = y.0 }, y.1)

unfoldable pub layer_in : List ℕ → Option (LayerId × List ℕ)
layer_in s = do
  order ← argument_in s
  id ← argument_in order.1
  Some (record { order = order.0; id = id.0 }, id.1)

unfoldable pub key_in : List ℕ → Option (Entry × List ℕ)
key_in s = do
  key ← argument_in s
  down ← flag_in key.1
  modifiers ← argument_in down.1
  r ← after modifiers.1 (codes ")")
  Some (Key key.0 down.0 modifiers.0, r)

unfoldable pub ask_in : List ℕ → Option (Entry × List ℕ)
ask_in s = do
  id ← argument_in s
  r ← after id.1 (codes ")")
  Some (Ask id.0, r)

abbrev pub key_or_ask : List ℕ → Option (List ℕ) → Option (Entry × List ℕ)
key_or_ask s (Some r) = key_in r
key_or_ask s None = do
  r ← after s (codes " (ask")
  ask_in r

unfoldable pub entry_in : List ℕ → Option (Entry × List ℕ)
entry_in s = key_or_ask s (after s (codes " (key"))

unfoldable pub place_in : List ℕ → Option (Place × List ℕ)
place_in s = do
  r ← after s (codes " (")
  id ← number_in r
  low ← spot_in id.1
  high ← spot_in low.1
  e ← after high.1 (codes ")")
  Some (record { id = id.0; min = low.0; max = high.0 }, e)

-- as many as stand there, each after a space, but no more than n
module _ {A : Type 0} (one : List ℕ → Option (A × List ℕ)) where
  unfoldable pub many_in : ℕ → List ℕ → Option (List A × List ℕ)
  many_in zero s = Some ([], s)
  many_in (suc n) s = cond (opens (codes " ") s) (one s >>= λ first. many_in n first.1 >>= λ others. Some (first.0 ∷ others.0, others.1)) (Some ([], s))

-- ---- a form without its closing bracket, after its word
unfoldable pub begin_in : List ℕ → Option (Form × List ℕ)
begin_in s = do
  es ← many_in entry_in (length s) s
  Some (Begin es.0, es.1)

unfoldable pub end_in : List ℕ → Option (Form × List ℕ)
end_in s = do
  ps ← many_in place_in (length s) s
  Some (End ps.0, ps.1)

unfoldable pub want_in : List ℕ → Option (Form × List ℕ)
want_in s = do
  l ← layer_in s
  id ← argument_in l.1
  Some (Want l.0 id.0, id.1)

unfoldable pub area_in : List ℕ → Option (Form × List ℕ)
area_in s = do
  l ← layer_in s
  at ← spot_in l.1
  size ← spot_in at.1
  Some (Area l.0 at.0 size.0, size.1)

unfoldable pub top_in : List ℕ → Option (Form × List ℕ)
top_in s = do
  l ← layer_in s
  Some (Top l.0, l.1)

unfoldable pub sub_in : List ℕ → Option (Form × List ℕ)
sub_in s = do
  l ← layer_in s
  id ← argument_in l.1
  Some (Sub l.0 id.0, id.1)

unfoldable pub modal_in : List ℕ → Option (Form × List ℕ)
modal_in s = do
  l ← layer_in s
  Some (Modal l.0, l.1)

unfoldable pub hit_in : List ℕ → Option (Form × List ℕ)
hit_in s = do
  at ← spot_in s
  Some (Hit at.0, at.1)

abbrev pub focus_in : List ℕ → Option (Form × List ℕ)
focus_in s = Some (Focus, s)

-- the forms by their words: of these none is the front of another
abbrev pub or_else : {A B : Type 0} → Option A → (A → Option B) → Option B → Option B
or_else (Some x) f other = f x
or_else None f other = other

unfoldable pub plain_in : List ℕ → Option (Form × List ℕ)
plain_in s =
    or_else (after s (codes "(want")) want_in (or_else (after s (codes "(area")) area_in (or_else (after s (codes "(top")) top_in
    (or_else (after s (codes "(sub")) sub_in (or_else (after s (codes "(modal")) modal_in (or_else (after s (codes "(hit")) hit_in
    (after s (codes "(focus") >>= focus_in))))))

unfoldable pub form_in : List ℕ → Option (Form × List ℕ)
form_in s = or_else (after s (codes "(begin")) begin_in (or_else (after s (codes "(end")) end_in (plain_in s))

-- the whole line, and no longer one
abbrev pub nothing_left : Form → List ℕ → Option Form
nothing_left f [] = Some f
nothing_left f (b ∷ s) = None

abbrev pub longest_line : ℕ
longest_line = 16384

unfoldable pub form_of : List ℕ → Option Form
form_of line = cond (ltb longest_line (length line)) None (form_in line >>= λ f. after f.1 (codes ")") >>= λ rest. nothing_left f.0 rest)
