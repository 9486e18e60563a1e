-- The rule by which a program opens a confirm box over fields that are to be kept out. egui has
-- none (docs/DIFFERENCES.md). Definitions only.
use Rattle.std.specs.Prelude.{ℕ, zero, suc, Bool, ◌≡◌, ◌≤◌, ◌+◌, true, false, not, cond, ◌&&◌, ◌||◌}
use Rattle.std.specs.Prelude.{List, [], ◌∷◌, ◌++◌, map, eqb, length}
use Rattle.std.specs.List.{list_all}
use Rattle.layers.specs.declared.LayerId.{LayerId}
use Rattle.layers.specs.Layers.{layer_refusal}
use Rattle.search.specs.declared.Candidate.{Candidate}
use Rattle.focus_cache.specs.Cache.{room_in, has_id}
use Rattle.focus.specs.Focus.{held_of}
use Rattle.used.specs.Used.{elem}
use Rattle.memory_rules.specs.declared.Memory.{Memory}
use Rattle.memory_rules.specs.State.{focus_of}
use Rattle.memory_rules.specs.Memory.{is_allowed}
use Rattle.memory_rules.specs.Calls.{Call, Begin}
use Rattle.memory_rules.specs.Calls as Calls
use Rattle.confirm_box.specs.KeptOut.{is_taken, lets_in, run, none_is}
use Rattle.confirm_box.specs.Modal.{set_in_every_pass, asks_by_rule}

-- a call that is refused
abbrev pub is_refused : Memory → Call → Bool
is_refused m call = not (is_taken m call)

-- ---- a box: its layer, its fields in their order, and the one of them that is to have the focus.
-- Under it: every field that has been asked for and may lie under the box while it is open, and
-- those of these that are ignored first, so that the cache has places for the box's own
pub record Box : Type 0 where
  pub layer : LayerId
  pub fields : List ℕ
  pub focus : ℕ
  pub under : List ℕ
  pub freed : List ℕ

abbrev pub ignoring : List ℕ → List Call
ignoring ids = map Calls.IgnoreFocus ids

abbrev pub wanting : LayerId → List ℕ → List Call
wanting layer ids = map (λ (id : ℕ). Calls.Interest id layer) ids

-- the calls that open it, in a pass, after the interest calls of the fields under it
unfoldable pub opening : Box → List Call
opening b =
    ignoring b.freed
    ++ (Calls.SetModalLayer b.layer ∷ (wanting b.layer b.fields
    ++ (ignoring b.under ++ (Calls.RequestFocusNextFrame b.focus ∷ []))))

-- what they ask for to keep the fields out: no modal layer in force turns the box's layer away, the
-- focus is to go to one of its fields, and no call is refused
pub record Opens (m : Memory) (b : Box) : Type 0 where
  pub let_through : is_allowed m b.layer ≡ true
  pub focus : elem b.fields b.focus ≡ true
  pub taken : none_is is_refused m (opening b) ≡ true

abbrev pub after_opening : Memory → Box → Memory
after_opening m b = run m (opening b)

-- what a program keeps to after them, of its calls and of which ends and set_modal_layers are
-- taken: the box's layer is set again before each end that is taken, and each field under the box
-- that is not one of its own is asked for by interest calls of a lower Order only, after the first
-- such end
abbrev pub keeps_to_rule : Box → Memory → List Call → Bool
keeps_to_rule b m calls =
    set_in_every_pass b.layer.order true m calls
    && list_all (λ p. elem b.fields p || asks_by_rule b.layer.order p false m calls) b.under

-- ---- what none is refused for: a layer that is one, no id 0, and places in the cache for those
-- fields of the box that it does not hold
abbrev pub cached_in : Memory → List Candidate
cached_in m = held_of (focus_of m)

abbrev pub room : Memory → ℕ
room m = let f = focus_of m in room_in f.ids f.rects

unfoldable pub new_in : List Candidate → List ℕ → ℕ
new_in held [] = zero
new_in held (id ∷ ids) = cond (has_id held id) (new_in held ids) (suc (new_in held ids))

pub record Fits (m : Memory) (b : Box) : Type 0 where
  pub layer : layer_refusal b.layer ≡ 0
  pub ids : (
      (elem (b.focus ∷ b.fields) 0 ≡ false) × (elem b.under 0 ≡ false) × (elem b.freed 0 ≡ false))
  pub places : (
      let held = cached_in (run m (ignoring b.freed)) in
      length held + new_in held b.fields ≤ room m)

-- ids that are all held
unfoldable pub all_held : List Candidate → List ℕ → Bool
all_held held [] = true
all_held held (id ∷ ids) = has_id held id && all_held held ids

-- ---- the same for one field p, with any calls between them: an interest call for another, an
-- ignore of p, and a request of another for the next begin
pub record Spread : Type 0 where
  pub id : ℕ
  pub layer : LayerId
  pub between : List Call
  pub after : List Call
  pub focus : ℕ

unfoldable pub spread : ℕ → Spread → List Call
spread p s =
    Calls.Interest s.id s.layer
    ∷ (s.between ++ (Calls.IgnoreFocus p ∷ (s.after ++ (Calls.RequestFocusNextFrame s.focus ∷ []))))

-- a begin, or a call that lets p in
abbrev pub is_begin : Call → Bool
is_begin (Begin events) = true
is_begin call = false

unfoldable pub disturbs : ℕ → Memory → Call → Bool
disturbs p m call = is_begin call || lets_in p m call

-- what they ask for: the interest call is taken and let through, neither p nor the other is 0, and
-- none of the calls disturbs
pub record Spreads (m : Memory) (p : ℕ) (s : Spread) : Type 0 where
  pub taken : is_taken m (Calls.Interest s.id s.layer) ≡ true
  pub let_through : is_allowed m s.layer ≡ true
  pub ids : (eqb p 0 ≡ false) × (eqb s.focus 0 ≡ false)
  pub quiet : none_is (disturbs p) m (spread p s) ≡ true
