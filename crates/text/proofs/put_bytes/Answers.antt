-- `text::put_bytes` meets its contract. Assumes nothing.
use mathlib.Core.Path.{refl}
use native.Mathlib.Omega.{arith}
use Rattle.text.proofs.Putting.{put_none, put_all}
use Rattle.text.proofs.put_bytes.Goals as goal

pub returns-then-next-out : goal.returns-then-next-out
returns-then-next-out c =
    (c.saturating_add-next.ensures, rw c.copy_from_slice.ensures.after (put_all _ _ _ _ c.saturating_add-next.ensures (omega arith) c.if-next-out.true _ refl))

pub returns-else-next-out : goal.returns-else-next-out
returns-else-next-out c = (c.saturating_add-next.ensures, put_none _ _ _ _ c.saturating_add-next.ensures (omega arith))
