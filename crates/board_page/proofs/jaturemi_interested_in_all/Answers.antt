use native.Mathlib.Omega.{arith}
use borrow.Author.Rules.{rules}
use Rattle.board_page.specs.Page.{page_after}
use Rattle.board_page.proofs.Pages.{all_more, all_done}
use Rattle.board_page.proofs.jaturemi_interested_in_all.Goals as goal

pub loop-id-preserved : goal.loop-id-preserved
loop-id-preserved c =
    let p = all_more _ _ (page_after c.loop-id.so_far c.loop-id.ids c.loop-id.rects) _ c.loop-id.id-index (omega arith) c.loop-id.invariant.0 c.want-so_far.ensures in
    (p, search rules, search rules)

pub returns : goal.returns
returns c = rw c.number.ensures (all_done _ c.args.page.now (page_after c.loop-id.so_far c.loop-id.ids c.loop-id.rects) c.loop-id.id-index (omega arith) c.loop-id.invariant.0)
