-- `vec2::whole_nearest` meets its contract: the whole part that `root` gave is the definition's. Assumes nothing.
use Rattle.std.proofs.Common.{◌+◌, ◌*◌, ◌^◌, Bool, cond, sym, ap, ◌∙◌, arith, le-leb}
use borrow.Author.Tests.{lt-leb}
use Rattle.root.proofs.Roots.{below_root}
use Rattle.vec2.proofs.Whole.{nearest_by}
use Rattle.vec2.proofs.whole_nearest.Goals as goal

pub returns-then-n-r : goal.returns-then-n-r
returns-then-n-r c =
    sym (nearest_by c.args.n c.root-r.result c.ranges.n.fits c.root-r.ensures.0 ∙ ap (λ (t : Bool). cond t c.root-r.result (c.root-r.result + 1)) (le-leb c.args.n (c.root-r.result * c.root-r.result + c.root-r.result) (omega arith)))

pub overflow_add-result : goal.overflow_add-result
overflow_add-result c = omega (arith, below_root _ _ (2 ^ 32) c.root-r.ensures.0.0 c.ranges.n.fits)

pub returns-else-n-r : goal.returns-else-n-r
returns-else-n-r c =
    sym (nearest_by c.args.n c.root-r.result c.ranges.n.fits c.root-r.ensures.0 ∙ ap (λ (t : Bool). cond t c.root-r.result (c.root-r.result + 1)) (lt-leb c.args.n (c.root-r.result * c.root-r.result + c.root-r.result) (omega arith)))
