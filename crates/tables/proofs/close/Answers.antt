use mathlib.Core.Path.{◌≡◌, ◌∙◌}
use Prim.Native.Nat.{◌+◌, ◌-◌}
use native.Mathlib.Omega.{arith}
use lib.ListN.{length-set}
use Rattle.tables.proofs.Writing.{close_on, close_all}
use Rattle.tables.proofs.close.Goals as goal

pub loop-j-preserved : goal.loop-j-preserved
loop-j-preserved g c =
    let e : c.loop-j.j + 1 - c.args.by ≡ c.loop-j.j - c.args.by + 1 = omega arith in
    (simp length-set c.loop-j.invariant.0, omega arith, rw e (close_on c.args.tail.now c.args.by (c.loop-j.j - c.args.by) c.loop-j.j (omega arith) c.loop-j.tail c.index-tail-j.result c.loop-j.invariant.2 (omega arith) c.index-tail-j.is))

pub returns : goal.returns
returns g c =
    c.loop-j.invariant.2 ∙ close_all c.args.tail.now c.args.by (c.loop-j.j - c.args.by) c.loop-j.j (omega arith) c.loop-j.invariant.1 (omega arith)
