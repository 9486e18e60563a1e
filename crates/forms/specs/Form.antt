-- The forms of a session, one a line, and the one way in which each is written, from document 01, "The pass program". Definitions only.
use Rattle.std.specs.Prelude.{◌≡◌, ℕ, ◌≤◌, Bool, true, cond, List, [], ◌++◌, codes}
use Rattle.std.specs.List.{flat_map, AllByRecursion}
use Rattle.text.specs.Put.{decimal_of}
use Rattle.layers.specs.declared.LayerId.{LayerId}
use Rattle.forms.specs.declared.Coordinate.{Coordinate}
use Rattle.forms.specs.declared.Spot.{Spot}
use Rattle.forms.specs.declared.Entry.{Entry}
use Rattle.forms.specs.declared.Entry.TheVariants.{Key, Ask}
use Rattle.forms.specs.declared.Place.{Place}

pub data Form : Type 0 where
  Begin : List Entry → Form
  Want : LayerId → ℕ → Form
  Area : LayerId → Spot → Spot → Form
  Top : LayerId → Form
  Sub : LayerId → ℕ → Form
  Modal : LayerId → Form
  End : List Place → Form
  Hit : Spot → Form
  Focus : Form

-- ---- the words: each number and each coordinate has a space before it
abbrev pub number : ℕ → List ℕ
number n = codes " " ++ decimal_of n

abbrev pub flag : Bool → ℕ
flag b = cond b 1 0

abbrev pub coordinate : Coordinate → List ℕ
coordinate c = codes " " ++ (cond c.below (codes "-") [] ++ decimal_of c.steps)

abbrev pub layer : LayerId → List ℕ
layer l = number l.order ++ number l.id

abbrev pub spot : Spot → List ℕ
spot s = coordinate s.x ++ coordinate s.y

-- ---- the entries of `begin` and of `end`
abbrev pub entry : Entry → List ℕ
entry (Key key down modifiers) = codes " (key" ++ (number key ++ (number (flag down) ++ (number modifiers ++ codes ")")))
entry (Ask id) = codes " (ask" ++ (number id ++ codes ")")

abbrev pub place : Place → List ℕ
place p = codes " (" ++ (decimal_of p.id ++ (spot p.min ++ (spot p.max ++ codes ")")))

-- ---- a form
abbrev pub written : Form → List ℕ
written (Begin entries) = codes "(begin" ++ (flat_map entry entries ++ codes ")")
written (Want l id) = codes "(want" ++ (layer l ++ (number id ++ codes ")"))
written (Area l at size) = codes "(area" ++ (layer l ++ (spot at ++ (spot size ++ codes ")")))
written (Top l) = codes "(top" ++ (layer l ++ codes ")")
written (Sub parent child) = codes "(sub" ++ (layer parent ++ (number child ++ codes ")"))
written (Modal l) = codes "(modal" ++ (layer l ++ codes ")")
written (End places) = codes "(end" ++ (flat_map place places ++ codes ")")
written (Hit at) = codes "(hit" ++ (spot at ++ codes ")")
written Focus = codes "(focus)"

-- ---- what can be written: numbers up to 2^64 - 1; 0 is not below 0
abbrev pub IsNumber : ℕ → Type 0
IsNumber n = n ≤ 18446744073709551615

pub record IsCoordinate (c : Coordinate) : Type 0 where
  pub number : IsNumber c.steps
  pub not_zero : c.below ≡ true → c.steps ≡ 0 → ⊥

abbrev pub IsLayer : LayerId → Type 0
IsLayer l = IsNumber l.order × IsNumber l.id

abbrev pub IsSpot : Spot → Type 0
IsSpot s = IsCoordinate s.x × IsCoordinate s.y

abbrev pub IsEntry : Entry → Type 0
IsEntry (Key key down modifiers) = IsNumber key × IsNumber modifiers
IsEntry (Ask id) = IsNumber id

abbrev pub IsPlace : Place → Type 0
IsPlace p = IsNumber p.id × IsSpot p.min × IsSpot p.max

abbrev pub IsForm : Form → Type 0
IsForm (Begin entries) = AllByRecursion IsEntry entries
IsForm (Want l id) = IsLayer l × IsNumber id
IsForm (Area l at size) = IsLayer l × IsSpot at × IsSpot size
IsForm (Top l) = IsLayer l
IsForm (Sub parent child) = IsLayer parent × IsNumber child
IsForm (Modal l) = IsLayer l
IsForm (End places) = AllByRecursion IsPlace places
IsForm (Hit at) = IsSpot at
IsForm Focus = Unit {0}
