use mathlib.Core.Path.{sym, ap, ◌∙◌}
use Prim.Native.Nat.{ℕ, ◌+◌}
use native.Mathlib.Omega.{arith}
use Rattle.refusal.specs.Refusal.{number_in}
use Rattle.refusal.proofs.Laws.{none_right, no_error}
use Rattle.used.proofs.Entries.{worst_from, worst_more}
use Rattle.used.proofs.UsedEntries.check_entries.Goals as goal
use Rattle.used.proofs.UsedEntries.check_entries.Goals.{then-is_err, else-is_err}

pub loop-i-preserved : goal.loop-i-preserved
loop-i-preserved c =
    let ids = c.args.self.ids.now in
    let corners = c.args.self.corners.now in
    let so_far = number_in c.loop-i.checked in
    let more = λ (r : ℕ). worst_more ids corners so_far c.loop-i.i (omega (arith, c.loop-i-test.true)) _ _ _ r c.check_id.ensures c.check_rect.ensures c.both-entry.ensures in
    elim c.if-is_err.branch [
      | then-is_err w ↦ ap (λ (k : _). worst_from ids corners (number_in k) (c.loop-i.i + 1)) w.checked-is ∙ more _ w.both-checked.ensures ∙ c.loop-i.invariant
      | else-is_err w ↦ ap (λ (k : _). worst_from ids corners (number_in k) (c.loop-i.i + 1)) w.checked-is ∙ more _ (none_right so_far _ (no_error c.both-entry.result (sym c.is_err.ensures.value ∙ w.if-is_err.false))) ∙ c.loop-i.invariant
    ]
