use native.Mathlib.Omega.{arith}
use Rattle.widget_table.proofs.Inserts.{removed}
use Rattle.widget_table.proofs.remove.Goals as goal

pub returns : goal.returns
returns c = removed _ _ _ _ _ _ _ (omega arith) c.close.ensures c.take_out.ensures c.close-2.ensures
