-- Laws of interested_in_focus, from what its test and the focus gave. Assumes nothing.
use mathlib.Core.Path.{◌≡◌, refl, sym, ◌∙◌}
use mathlib.Core.Bool.{Bool, true, false, cond}
use mathlib.Core.List.{List}
use Prim.Native.Nat.{ℕ, zero, suc}
use native.Mathlib.Omega.{arith}
use lib.Dec.{eqb, ltb}
use lib.Ieee.{Float}
use lib.ListN.{length}
use Rattle.refusal.specs.declared.Refusal.{Refusal}
use Rattle.refusal.specs.Refusal.{none, zero_id, bad_code, full, number_of, lowest, id_refusal, kept}
use Rattle.refusal.specs.Limits.{last_order}
use Rattle.refusal.proofs.Laws.{positive}
use Rattle.layers.specs.declared.LayerId.{LayerId}
use Rattle.layers.specs.Layers.{layer_refusal}
use Rattle.area_table.specs.Table.{Table}
use Rattle.search.specs.declared.Candidate.{Candidate}
use Rattle.focus_rules.specs.declared.Nav.{Nav}
use Rattle.focus_cache.specs.Cache.{Cache, cache_in, room_in, held_in, cache_on, enlisted, full_refusal}
use Rattle.focus_pass.specs.Pass.{interest_refusal, interest_of}
use Rattle.focus.specs.Focus as Focus
use Rattle.memory_rules.specs.declared.Memory.{Memory}
use Rattle.memory_rules.specs.declared.Fields.{Fields}
use Rattle.memory_rules.specs.State.{Done, focus_of, with_focus, memory_of, done_with}
use Rattle.memory_rules.specs.Memory.{is_allowed, interested_of}
use Rattle.memory_rules.proofs.Refused.{keeps, leaves}

-- ---- the refusal of a call that is turned away for its id or its layer, whatever the cache says
one_lowest : (n : ℕ) → lowest 1 n ≡ 1
unfolding lowest
one_lowest zero = refl
one_lowest (suc n) = omega arith

two_lowest : (b c : Bool) → lowest 2 (cond b (cond c full none) none) ≡ 2
unfolding lowest
two_lowest false c = refl
two_lowest true false = refl
two_lowest true true = refl

-- an id that is 0, a layer's that is, an Order past the last, a call that is let through, a cache that is full
first_refusal : (a b c allowed isFull : Bool) → let i = cond a zero_id none in let n = lowest i (lowest (cond b zero_id none) (cond c bad_code none)) in (n ≡ 0 → ⊥) → n ≡ lowest n (cond allowed (lowest i (cond isFull full none)) none)
unfolding lowest
first_refusal true b c allowed isFull h = rw (one_lowest (lowest (cond b zero_id none) (cond c bad_code none))) (sym (one_lowest (cond allowed (lowest 1 (cond isFull full none)) none)))
first_refusal false true c allowed isFull h = rw (one_lowest (cond c bad_code none)) (sym (one_lowest (cond allowed (cond isFull full none) none)))
first_refusal false false true allowed isFull h = sym (two_lowest allowed isFull)
first_refusal false false false allowed isFull h = absurd (h refl)

module _ (f : Fields) (rows : List ℕ) (map : Table) (ids : List ℕ) (rects : List Float) (id : ℕ) (layer : LayerId) where
  abbrev cache : Cache
  cache = cache_in ids rects

  abbrev held : List Candidate
  held = held_in f.cached ids rects

  abbrev before : Memory
  before = memory_of f rows map cache

  abbrev turned : ℕ
  turned = lowest (id_refusal id) (layer_refusal layer)

  pub interest_refused : (r : Refusal) → number_of r ≡ turned → ◌≡◌ {A = Done} (record { memory = before; refusal = number_of r }) (interested_of before id layer)
  unfolding interested_of Focus.interested_of interest_of interest_refusal full_refusal layer_refusal
  interest_refused r e =
      leaves r _ (e ∙ first_refusal (eqb id 0) (eqb layer.id 0) (ltb last_order layer.order) (is_allowed before layer) (ltb (room_in ids rects) (length (enlisted held id))) (λ z. let p = positive r in omega arith)) before _

  -- the call by its refusal, and by whether it is let through
  by : ℕ → Bool → Done
  by k b = let d = Focus.interested_of (focus_of before) id in done_with (lowest k (cond b d.refusal none)) before (cond b (with_focus before d.focus) before)

  by_test : (b : Bool) → 0 ≡ turned → b ≡ is_allowed before layer → by 0 b ≡ interested_of before id layer
  unfolding interested_of by
  by_test b z a = λ i. by (z i) (a i)

  pub interest_turned_away : 0 ≡ turned → false ≡ is_allowed before layer → ◌≡◌ {A = Done} (record { memory = before; refusal = 0 }) (interested_of before id layer)
  unfolding lowest by
  interest_turned_away z a = by_test false z a

  module _ (z : 0 ≡ turned) (a : true ≡ is_allowed before layer) (after : Cache) (c : after ≡ kept (interest_of f.nav (room_in ids rects) held f.cached f.slot id).refusal cache (cache_on cache (enlisted held id))) where
    pub interest_full : (r : Refusal) → number_of r ≡ (interest_of f.nav (room_in ids rects) held f.cached f.slot id).refusal → ◌≡◌ {A = Done} (record { memory = memory_of f rows map after; refusal = number_of r }) (interested_of before id layer)
    unfolding lowest by Focus.interested_of
    interest_full r e = (λ i. record { memory = memory_of f rows map ((c ∙ keeps r _ e _ _) i); refusal = number_of r }) ∙ leaves r _ e before _ ∙ by_test true z a

    pub interest_taken : let s = interest_of f.nav (room_in ids rects) held f.cached f.slot id in 0 ≡ s.refusal → (nav : Nav) (count slot : ℕ) → (nav ≡ s.nav) × (count ≡ s.count) × (slot ≡ s.slot)
        → ◌≡◌ {A = Done} (record {
          memory = memory_of (record { nav = nav; cached = count; slot = slot; layers = f.layers; placed = f.placed; states = f.states; popup = f.popup; requested_interrupt_ime = f.requested_interrupt_ime; everything_is_visible = f.everything_is_visible }) rows map after;
          refusal = 0;
        }) (interested_of before id layer)
    unfolding lowest by Focus.interested_of
    interest_taken t nav count slot e =
        (λ i. done_with (t i) before (with_focus before (Focus.focus_with (e.0 i) (c i) (e.1 i) (e.2 i)))) ∙ by_test true z a
