use mathlib.Core.Path.{◌≡◌, refl, ◌∙◌, sym}
use Prim.Native.Nat.{◌-◌}
use native.Mathlib.Omega.{arith}
use lib.ListN.{length-set}
use Rattle.text.specs.Put.{decimal_in}
use Rattle.text.proofs.Putting.{last_turn, next_turn, tail_is}
use Rattle.text.proofs.decimal.Goals as goal

pub returns-then-rest-eq0 : goal.returns-then-rest-eq0
returns-then-rest-eq0 c =
    tail_is _ (simp length-set c.loop-i.invariant.0) (c.loop-i.i - 1)
    ∙ sym (c.loop-i.invariant.1 ∙ last_turn c.loop-i.text c.loop-i.i (c.loop-i.i - 1) c.loop-i.rest _ (omega arith) (omega arith) refl (omega arith))

pub loop-i-preserved : goal.loop-i-preserved
loop-i-preserved c =
    (simp length-set c.loop-i.invariant.0, c.loop-i.invariant.1 ∙ next_turn c.loop-i.text c.loop-i.i (c.loop-i.i - 1) c.loop-i.rest _ (omega arith) (omega arith) refl (omega arith))

pub returns : goal.returns
unfolding decimal_in
returns c = let e : c.loop-i.i ≡ 0 = omega arith in sym (c.loop-i.invariant.1 ∙ rw e)
