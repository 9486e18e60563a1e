-- How many events begin a pass. Assumes nothing.
use mathlib.Core.Path.{◌≡◌}
use mathlib.Core.List.{List}
use Prim.Native.Nat.{ℕ, ◌<◌, ◌≤◌}
use borrow.Author.Tests.{lt-ltb, le-ltb}
use Rattle.refusal.specs.Refusal.{none, bad_list}
use Rattle.refusal.specs.Limits.{events as eventsLimit}
use Rattle.focus_pass.specs.Events.{count_in, events_in}
use Rattle.focus_pass.specs.Pass.{worst_of, begin_refusal}
use Rattle.focus_pass.proofs.Events.{events_length}

module _ (words : List ℕ) (n : ℕ) (e : n ≡ count_in words) where
  pub too_many : eventsLimit < n → bad_list ≡ begin_refusal (events_in words)
  unfolding begin_refusal
  too_many h = rw (events_length words, ← e, lt-ltb eventsLimit n h)

  pub few : n ≤ eventsLimit → worst_of none (events_in words) ≡ begin_refusal (events_in words)
  unfolding begin_refusal
  few h = rw (events_length words, ← e, le-ltb eventsLimit n h)
