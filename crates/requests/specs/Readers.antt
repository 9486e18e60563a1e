-- What the functions that read the parts of a line give: private contracts cite it. Definitions only.
use Rattle.std.specs.Prelude.{◌≡◌, ℕ, false, List, Option, Some, None, Float}
use Rattle.std.specs.Float.{binary32}
use Rattle.std.specs.Float.Ieee.{round}
use Rattle.forms.specs.Form.{Form, Begin, End}
use Rattle.forms.specs.Read.{◌>>=◌, after}
use Rattle.requests.specs.declared.Request.{Request}
use Rattle.requests.specs.declared.Lists.{Lists}
use Rattle.requests.specs.Asked.{bounded, request_of, Holds}

abbrev pub magnitude_of : ℕ → Float
magnitude_of steps = round binary32 false (bounded steps) 32

-- what a reader of entries gives and what the lists then hold, by what is read
abbrev pub Puts : {A : Type 0} → (List A → Type 0) → Option (List ℕ) → Option (List A × List ℕ) → Type 0
Puts Held given (Some r) = (given ≡ Some r.1) × Held r.0
Puts Held given None = given ≡ None

-- a word, and what a reader reads behind it
abbrev pub behind : List ℕ → List ℕ → (List ℕ → Option (Form × List ℕ)) → Option (Form × List ℕ)
behind s word reader = after s word >>= reader

-- what a reader of forms gives and what the lists then hold, by the form that is read
abbrev pub Reads : Option (Request × List ℕ) → Lists → Option (Form × List ℕ) → Type 0
Reads given lists (Some f) = (given ≡ Some (request_of f.0, f.1)) × Holds lists f.0
Reads given lists None = given ≡ None

-- the same of a form that carries no list
abbrev pub CarriesNoList : Form → Type 0
CarriesNoList (Begin entries) = ⊥
CarriesNoList (End places) = ⊥
CarriesNoList f = Unit {0}

abbrev pub ReadsPlain : Option (Request × List ℕ) → Option (Form × List ℕ) → Type 0
ReadsPlain given (Some f) = (given ≡ Some (request_of f.0, f.1)) × CarriesNoList f.0
ReadsPlain given None = given ≡ None
