-- `memory_stack::layer_id_at` meets its contract. Assumes nothing.
use mathlib.Core.Path.{sym, ap, ◌∙◌}
use Rattle.memory_rules.specs.State.{memory_of}
use Rattle.memory_rules.specs.Memory.{unless_below, layer_id_at}
use Rattle.area_table.specs.Table.{table_in}
use Rattle.memory_stack.proofs.layer_id_at.Goals as goal

pub returns : goal.returns
unfolding layer_id_at
returns c =
    λ cache. c.unless_below.ensures _ _ ∙ ap (unless_below (memory_of c.args.fields c.args.rows.now (table_in c.args.ids.now c.args.codes.now c.args.floats.now) cache)) c.in_ok-layer.ensures
