-- The modal layer in force (memory/mod.rs, lines 962 to 1019), and what a program keeps to while
-- its confirm box is open. Definitions only.
use Rattle.std.specs.Prelude.{ℕ, ◌≡◌, ◌≤◌, Bool, true, false, not, cond, ◌&&◌, ◌||◌, Some, eqb, ltb}
use Rattle.std.specs.Prelude.{leb}
use Rattle.std.specs.Prelude.{List, [], ◌∷◌, take}
use Rattle.emath.specs.declared.Pos2.{Pos2}
use Rattle.layers.specs.declared.LayerId.{LayerId}
use Rattle.memory_rules.specs.declared.Memory.{Memory}
use Rattle.memory_rules.specs.State.{nav_of}
use Rattle.memory_rules.specs.Memory.{is_below, layer_id_at}
use Rattle.memory_rules.specs.Calls.{Call, Interest, End, SetModalLayer, done_by}
use Rattle.confirm_box.specs.KeptOut.{is_taken, asks_for, lets_in, run, none_is}

-- a modal layer is in force, and the layer is below it
abbrev pub is_under : Memory → LayerId → Bool
is_under m layer =
    let modal = (nav_of m).top_modal_layer in
    not (eqb modal.id 0) && is_below m layer modal

-- ---- a modal layer of this Order or a higher one: in force, and set in this pass
abbrev pub is_modal_of : ℕ → LayerId → Bool
is_modal_of order modal = not (eqb modal.id 0) && leb order modal.order

abbrev pub in_force : ℕ → Memory → Bool
in_force order m = is_modal_of order (nav_of m).top_modal_layer

abbrev pub is_set : ℕ → Memory → Bool
is_set order m = is_modal_of order (nav_of m).top_modal_layer_current_frame

-- ---- what the calls of a pass do to that: an end ends the pass, a call sets such a layer. One
-- that is refused does neither
abbrev pub ends_pass : Memory → Call → Bool
ends_pass m (End used) = is_taken m (End used)
ends_pass m call = false

abbrev pub sets : ℕ → Memory → Call → Bool
sets order m (SetModalLayer layer) = is_taken m (SetModalLayer layer) && leb order layer.order
sets order m call = false

-- whether one was set in this pass, after a call
abbrev pub now_after : ℕ → Memory → Bool → Call → Bool
now_after order m now call = cond (ends_pass m call) false (sets order m call || now)

-- an interest call with a layer of a lower Order, while such a modal layer is in force
abbrev pub is_lower : ℕ → Bool → Call → Bool
is_lower order in_force (Interest id layer) = in_force && ltb layer.order order
is_lower order in_force call = false

-- ---- what a program keeps to while a box of this Order is open. In short: such a layer is set in
-- every pass, and each call that asks for p is an interest call with a layer of a lower Order
unfoldable pub set_in_every_pass : ℕ → Bool → Memory → List Call → Bool
set_in_every_pass order now m [] = true
set_in_every_pass order now m (call ∷ calls) =
    (not (ends_pass m call) || now)
    && set_in_every_pass order (now_after order m now call) (done_by call m).memory calls

abbrev pub asks_from_below : ℕ → ℕ → Call → Bool
asks_from_below order p call = not (asks_for p call) || is_lower order true call

-- whether one is set in this pass after a list of calls, where one was set before it or was not
unfoldable pub now_through : ℕ → Bool → Memory → List Call → Bool
now_through order now m [] = now
now_through order now m (call ∷ calls) =
    now_through order (now_after order m now call) (done_by call m).memory calls

-- the calls of a program that opens its box within a pass: before the first end that is taken none
-- of them asks for p (`shown` is false), since the box's layer is not yet in force
unfoldable pub asks_by_rule : ℕ → ℕ → Bool → Memory → List Call → Bool
asks_by_rule order p shown m [] = true
asks_by_rule order p shown m (call ∷ calls) =
    (not (asks_for p call) || is_lower order shown call)
    && asks_by_rule order p (shown || ends_pass m call) (done_by call m).memory calls

-- whether an end of a list is taken; and touches: after each call by which one has been, no hit
-- answers a layer of a lower Order
abbrev pub has_ended : Memory → List Call → Bool
has_ended m calls = not (none_is ends_pass m calls)

abbrev pub HitsNoneBelow : ℕ → Memory → List Call → Type 0
HitsNoneBelow order m calls =
    (n : ℕ) (pos : Pos2) (layer : LayerId) → has_ended m (take n calls) ≡ true
    → layer_id_at (run m (take n calls)) pos ≡ Some layer → order ≤ layer.order

-- at length: no call lets p in, of which interest calls with a layer of a lower Order need not be
-- asked while such a layer is in force, as one was set in the last pass; `last` and `now` say of
-- this pass and the next
unfoldable pub keeps_under : ℕ → ℕ → Bool → Bool → Memory → List Call → Bool
keeps_under order p last now m [] = true
keeps_under order p last now m (call ∷ calls) =
    (is_lower order last call || not (lets_in p m call))
    && keeps_under order p (cond (ends_pass m call) now last) (now_after order m now call)
    (done_by call m).memory calls
