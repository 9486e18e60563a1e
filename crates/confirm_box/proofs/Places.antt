-- Where the cache has places for a box's fields none of the calls that open it is refused; and ignored ids free their places. Assumes nothing.
use Rattle.std.specs.Prelude.{ℕ, suc, Bool, true, false, cond, ◌||◌, ◌≡◌, ◌≤◌, ◌<◌, ◌+◌, List, [], ◌∷◌, ◌++◌, eqb, length}
use mathlib.Core.Path.{refl, sym, ap, ◌∙◌}
use mathlib.Core.Bool.{false≢true}
use native.Mathlib.Omega.{arith}
use borrow.Author.Tests.{eqb-true, eqb-false, ne_eqb}
use Rattle.emath.specs.Rect.{everything}
use Rattle.layers.specs.declared.LayerId.{LayerId}
use Rattle.layers.specs.Layers.{layer_refusal}
use Rattle.search.specs.declared.Candidate.{Candidate}
use Rattle.used.specs.Used.{elem, repeated}
use Rattle.focus_cache.specs.Cache.{has_id, enlisted, without}
use Rattle.focus_cache.proofs.Entries.{held_length, without_length}
use Rattle.memory_rules.specs.declared.Memory.{Memory}
use Rattle.memory_rules.specs.State.{focus_of}
use Rattle.memory_rules.specs.Calls.{Interest, IgnoreFocus, RequestFocusNextFrame, SetModalLayer, done_by}
use Rattle.confirm_box.specs.KeptOut.{run, none_is}
use Rattle.confirm_box.specs.Rule.{Box, Fits, opening, ignoring, wanting, new_in, all_held, cached_in, room, is_refused}
use Rattle.confirm_box.proofs.Egui.{both, neither, has_more, enlisted_length}
use Rattle.confirm_box.proofs.Steps.{ignoring_quiet, none_append, taken, set_taken, set_cache, set_quiet, ignore_taken, ignore_cache, next_taken, want_taken, want_cache, want_quiet}

-- ---- ids ignored in turn
ignoring_taken : (ids : List ℕ) (m : Memory) → elem ids 0 ≡ false → none_is is_refused m (ignoring ids) ≡ true
unfolding elem none_is
ignoring_taken [] m h = refl
ignoring_taken (id ∷ ids) m h = let (z, zs) = neither (eqb id 0) _ h in rw (taken m (IgnoreFocus id) (ignore_taken m id z)) (ignoring_taken ids (done_by (IgnoreFocus id) m).memory zs)

-- ---- how many of some ids are new, where more are held
new_less : (held more : List Candidate) → ((x : ℕ) → has_id held x ≡ true → has_id more x ≡ true) → (ids : List ℕ) → new_in more ids ≤ new_in held ids
unfolding new_in
new_less held more h [] = omega arith
new_less held more h (id ∷ ids) = go (has_id held id) (has_id more id) (h id) (new_less held more h ids)
  where
    go : (a b : Bool) → (a ≡ true → b ≡ true) → new_in more ids ≤ new_in held ids → cond b (new_in more ids) (suc (new_in more ids)) ≤ cond a (new_in held ids) (suc (new_in held ids))
    go true true f r = r
    go true false f r = absurd (false≢true (f refl))
    go false true f r = omega arith
    go false false f r = omega arith

-- one of them enlisted takes the place that was counted for it
module _ (held : List Candidate) (id : ℕ) (ids : List ℕ) (room : ℕ) (fits : length held + new_in held (id ∷ ids) ≤ room) where
  abbrev Fit : List Candidate → Type 0
  Fit l = length l + new_in l ids ≤ room

  as_it_is : Fit held
  unfolding new_in
  as_it_is = go (has_id held id) fits
    where
      go : (b : Bool) → length held + cond b (new_in held ids) (suc (new_in held ids)) ≤ room → length held + new_in held ids ≤ room
      go true h = h
      go false h = omega arith

  one_more_fit : Fit (enlisted held id)
  unfolding new_in enlisted
  one_more_fit = go (has_id held id) refl fits (enlisted_length held id)
    where
      e : Candidate
      e = record { id = id; rect = everything }

      go : (b : Bool) → has_id held id ≡ b → length held + cond b (new_in held ids) (suc (new_in held ids)) ≤ room → length (cond b held (held ++ (e ∷ []))) ≤ suc (length held) → Fit (cond b held (held ++ (e ∷ [])))
      go true q h l = h
      go false q h l = omega (arith, new_less held (held ++ (e ∷ [])) (λ x p. has_more held e x p) ids)

  one_fits : length (enlisted held id) ≤ room
  one_fits = omega (arith, one_more_fit)

-- ---- interest calls in turn
module _ (layer : LayerId) (l : layer_refusal layer ≡ 0) where
  wanting_taken : (ids : List ℕ) (m : Memory) → elem ids 0 ≡ false → length (cached_in m) + new_in (cached_in m) ids ≤ room m → none_is is_refused m (wanting layer ids) ≡ true
  unfolding elem none_is
  wanting_taken [] m h places = refl
  wanting_taken (id ∷ ids) m h places =
      let (z, zs) = neither (eqb id 0) _ h in
      let none = want_taken m id layer z l (one_fits (cached_in m) id ids (room m) places) in
      let after = (done_by (Interest id layer) m).memory in
      let next = want_cache m id layer none (λ c. length c + new_in c ids ≤ room m) (one_more_fit (cached_in m) id ids (room m) places) (as_it_is (cached_in m) id ids (room m) places) in
      rw (taken m (Interest id layer) none) (wanting_taken ids after zs (rw (want_quiet m id layer).room next))

-- ---- the whole rule
module _ (m : Memory) (b : Box) (o : Fits m b) where
  abbrev freed : Memory
  freed = run m (ignoring b.freed)

  abbrev set : Memory
  set = (done_by (SetModalLayer b.layer) freed).memory

  pub all_taken : none_is is_refused m (opening b) ≡ true
  unfolding opening none_is elem
  all_taken =
      let (f, fs) = neither (eqb b.focus 0) _ o.ids.0 in
      let wanted = run set (wanting b.layer b.fields) in
      let gone = run wanted (ignoring b.under) in
      let places : length (cached_in set) + new_in (cached_in set) b.fields ≤ room set = rw (set_cache freed b.layer, (set_quiet freed b.layer).room, (ignoring_quiet b.freed m).room) o.places in
      none_append is_refused (ignoring b.freed) _ m (ignoring_taken b.freed m o.ids.2) (rw (taken freed (SetModalLayer b.layer) (set_taken freed b.layer o.layer))
      (none_append is_refused (wanting b.layer b.fields) _ set (wanting_taken b.layer o.layer b.fields set fs places)
      (none_append is_refused (ignoring b.under) _ wanted (ignoring_taken b.under wanted o.ids.1) (rw (taken gone (RequestFocusNextFrame b.focus) (next_taken gone b.focus f))))))

-- ---- ignored ids free their places
without_shorter : (l : List Candidate) (id : ℕ) → has_id l id ≡ true → length (without l id) < length l
unfolding has_id without
without_shorter [] id h = absurd (false≢true h)
without_shorter (e ∷ l) id h = go (eqb e.id id) h (without_shorter l id)
  where
    go : (t : Bool) → (t || has_id l id) ≡ true → (has_id l id ≡ true → length (without l id) < length l) → length (cond t (without l id) (e ∷ without l id)) < length (e ∷ l)
    go true h more = omega (arith, without_length l id)
    go false h more = omega (arith, more h)

without_others : (l : List Candidate) (id x : ℕ) → eqb id x ≡ false → has_id l x ≡ true → has_id (without l id) x ≡ true
unfolding has_id without
without_others [] id x n h = h
without_others (e ∷ l) id x n h = go (eqb e.id id) (eqb e.id x) refl refl h (without_others l id x n)
  where
    go : (t u : Bool) → eqb e.id id ≡ t → eqb e.id x ≡ u → (u || has_id l x) ≡ true → (has_id l x ≡ true → has_id (without l id) x ≡ true) → has_id (cond t (without l id) (e ∷ without l id)) x ≡ true
    go true true p q h more = absurd (false≢true (sym n ∙ sym (ap (λ (y : ℕ). eqb y x) (eqb-true e.id id p)) ∙ q))
    go true false p q h more = more h
    go false true p q h more = rw q
    go false false p q h more = rw q (more h)

still_held : (ids : List ℕ) (held : List Candidate) (id : ℕ) → elem ids id ≡ false → all_held held ids ≡ true → all_held (without held id) ids ≡ true
unfolding elem all_held
still_held [] held id n h = refl
still_held (x ∷ ids) held id n h =
    let (a, b) = both _ _ h in
    let (c, d) = neither (eqb x id) _ n in
    rw (without_others held id x (ne_eqb id x (λ e. eqb-false x id c (sym e))) a) (still_held ids held id d b)

freed_places : (ids : List ℕ) (m : Memory) → repeated ids ≡ false → elem ids 0 ≡ false → all_held (cached_in m) ids ≡ true → length (cached_in (run m (ignoring ids))) + length ids ≤ length (cached_in m)
unfolding elem repeated all_held run
freed_places [] m r z h = omega arith
freed_places (id ∷ ids) m r z h =
    let (n, rs) = neither (elem ids id) _ r in
    let (y, ys) = neither (eqb id 0) _ z in
    let (c, cs) = both (has_id (cached_in m) id) (all_held (cached_in m) ids) h in
    let here = ignore_cache m id y in
    omega (arith, freed_places ids (done_by (IgnoreFocus id) m).memory rs ys (rw here (still_held ids (cached_in m) id n cs)), ap (λ (l : List Candidate). length l) here, without_shorter (cached_in m) id c)

pub frees_places : (m : Memory) (ids : List ℕ) → repeated ids ≡ false → elem ids 0 ≡ false → all_held (cached_in m) ids ≡ true → length (cached_in (run m (ignoring ids))) + length ids ≤ room m
frees_places m ids r z h = let f = focus_of m in omega (arith, freed_places ids m r z h, held_length f.count f.ids f.rects)
