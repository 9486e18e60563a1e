-- `widget_maps::table_holds_the_maps` is the theorem of proofs/Holds.antt. Assumes nothing.
use Rattle.widget_maps.proofs.Holds.{theorem}
use Rattle.widget_maps.proofs.table_holds_the_maps.Goals as goal

pub returns : goal.returns
returns c = theorem
