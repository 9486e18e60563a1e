use mathlib.Core.Path.{ap, ◌∙◌}
use native.Mathlib.Omega.{arith}
use lib.ListN.{length, replicate}
use borrow.Author.Rules.{rules}
use Rattle.refusal.specs.Limits.{layers}
use Rattle.layer_rows.specs.Rows.{held_rows}
use Rattle.tables.proofs.Written.{none_written, write}
use Rattle.area.specs.declared.AreaState.{AreaState}
use Rattle.areas.specs.declared.Window.{Window}
use Rattle.areas.specs.Areas.{no_layer}
use Rattle.areas.proofs.WindowRows.{inside, none_left, one_left, all_windows}
use Rattle.areas.proofs.Areas.visible_windows.Goals as goal

pub loop-next-init : goal.loop-next-init
loop-next-init c =
    let blank : AreaState → Window = λ s. record { layer = no_layer; state = s } in
    (ap length c.stack-stack.ensures.1 ∙ search (rules, c.well_formed), omega arith, none_written _ _ _ (ap (λ s. replicate layers (blank s)) c.new.ensures))

pub loop-next-smaller : goal.loop-next-smaller
loop-next-smaller c =
    let l = inside _ _ _ _ _ _ _ c.loop-next.invariant.0 c.next_window.ensures c.in-Some.is in
    let (m, e) = one_left _ _ _ _ _ c.next_window.ensures _ _ _ c.in-Some.is in
    omega arith

pub loop-next-preserved : goal.loop-next-preserved
loop-next-preserved c =
    let (l, e) = one_left _ _ _ _ _ c.next_window.ensures _ _ _ c.in-Some.is in
    (c.loop-next.invariant.0, omega arith, write _ _ _ _ _ c.loop-next.invariant.2 _ _ e)

pub returns : goal.returns
returns c =
    all_windows c.args.self.now _ _ _ _ _ _ (λ i. held_rows (c.stack-stack.ensures.0 i) (c.stack-stack.ensures.1 i)) c.table-areas.ensures.1 c.table-areas.ensures.0 c.loop-next.invariant.2 (none_left _ _ _ _ _ c.next_window.ensures c.in_default.is)
