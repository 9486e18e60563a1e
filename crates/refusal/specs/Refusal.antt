-- What a refused call says, from document 01, "What a refused call says". Definitions only.
use Rattle.std.specs.Prelude.{ℕ, zero, suc, min, cond, eqb, ltb, Result, Ok, Err}
use Rattle.refusal.specs.declared.Refusal.{Refusal}
use Rattle.refusal.specs.declared.Refusal.TheVariants.{ZeroId, Code, OffGrid, Reversed, BadList, Full, OtherLayer, BadPair, BadFamily}

-- no refusal: the call is accepted
abbrev pub none : ℕ
none = 0

-- an id is 0
abbrev pub zero_id : ℕ
zero_id = 1

-- a code passes the last of its kind
abbrev pub bad_code : ℕ
bad_code = 2

-- a number of the geometry is on no step of its grid, or outside its range
abbrev pub off_grid : ℕ
off_grid = 3

-- corners or a size are the wrong way round
abbrev pub reversed : ℕ
reversed = 4

-- a list is too long, or names an id twice
abbrev pub bad_list : ℕ
bad_list = 5

-- what is new would pass a table's limit
abbrev pub full : ℕ
full = 6

-- a widget's record is of another layer than the call
abbrev pub other_layer : ℕ
other_layer = 7

-- parent and child cannot be a pair: their Orders differ, or they are one layer
abbrev pub bad_pair : ℕ
bad_pair = 8

-- the pair does not fit the pairs of this pass: a second parent, or a third level
abbrev pub bad_family : ℕ
bad_family = 9

-- the number of each refusal of the code
abbrev pub number_of : Refusal → ℕ
number_of ZeroId = zero_id
number_of Code = bad_code
number_of OffGrid = off_grid
number_of Reversed = reversed
number_of BadList = bad_list
number_of Full = full
number_of OtherLayer = other_layer
number_of BadPair = bad_pair
number_of BadFamily = bad_family

-- the number of what a check or a call answers: none where it is accepted
abbrev pub number_in : {A : Type 0} → Result A Refusal → ℕ
number_in (Ok a) = none
number_in (Err r) = number_of r

-- of two refusals the lower, and where only one applies, that one
unfoldable pub lowest : ℕ → ℕ → ℕ
lowest zero b = b
lowest (suc a) zero = suc a
lowest (suc a) (suc b) = min (suc a) (suc b)

abbrev pub id_refusal : ℕ → ℕ
id_refusal id = cond (eqb id 0) zero_id none

abbrev pub code_refusal : ℕ → ℕ → ℕ
code_refusal code last = cond (ltb last code) bad_code none

-- the refusal of a number
abbrev pub numbered : ℕ → Refusal
numbered n =
    cond (eqb n zero_id) ZeroId (cond (eqb n bad_code) Code (cond (eqb n off_grid) OffGrid (cond (eqb n reversed) Reversed
    (cond (eqb n bad_list) BadList (cond (eqb n full) Full (cond (eqb n other_layer) OtherLayer (cond (eqb n bad_pair) BadPair BadFamily)))))))

-- a call that is refused by a number, or answers a value
abbrev pub answer : {A : Type 0} → ℕ → A → Result A Refusal
answer zero a = Ok a
answer (suc n) a = Err (numbered (suc n))

-- what a call leaves: where it is refused what was there before
abbrev pub kept : {A : Type 0} → ℕ → A → A → A
kept zero before after = after
kept (suc n) before after = before
