use mathlib.Core.Path.{refl, ap, ◌∙◌}
use native.Mathlib.Omega.{arith}
use borrow.Author.Rules.{rules}
use lib.ListN.{length}
use Rattle.layer_rows.specs.Rows.{held_rows}
use Rattle.tables.proofs.Written.{none_written, write}
use Rattle.areas.proofs.Listings.{inside, none_left, one_left, all_listed}
use Rattle.areas.proofs.Areas.list.Goals as goal

pub loop-next-init : goal.loop-next-init
loop-next-init c = (ap length c.stack-stack.ensures.1 ∙ search (rules, c.well_formed), omega arith, none_written _ _ _ refl)

pub loop-next-smaller : goal.loop-next-smaller
loop-next-smaller c =
    let l = inside _ _ _ _ _ _ c.loop-next.invariant.0 c.next_layer.ensures c.in-Some.is in
    let (m, e) = one_left _ _ _ _ c.next_layer.ensures _ _ c.in-Some.is in
    omega arith

pub loop-next-preserved : goal.loop-next-preserved
loop-next-preserved c =
    let (l, e) = one_left _ _ _ _ c.next_layer.ensures _ _ c.in-Some.is in
    (c.loop-next.invariant.0, omega arith, write _ _ _ _ _ c.loop-next.invariant.2 _ _ e)

pub returns : goal.returns
returns c =
    all_listed c.args.self.now _ _ _ _ _ (λ i. held_rows (c.stack-stack.ensures.0 i) (c.stack-stack.ensures.1 i)) c.loop-next.invariant.2 (none_left _ _ _ _ c.next_layer.ensures c.in_default.is)
