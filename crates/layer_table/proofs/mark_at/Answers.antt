use Rattle.layer_table.proofs.Changes.{changed}
use Rattle.layer_table.proofs.mark_at.Goals as goal

pub returns : goal.returns
returns g c = λ f gives. changed f _ _ _ _ _ _ c.requires.place c.held.ensures c.with_row-n.ensures (rw (← c.requires.place) c.requires.room) _ _ c.row_at.ensures (gives _ _ c.change-r.ensures) _ c.put_row.ensures
