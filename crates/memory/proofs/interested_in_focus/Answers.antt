-- `memory::interested_in_focus` meets its contract. Assumes nothing.
use Rattle.focus_cache.specs.Cache.{cache_in}
use Rattle.memory.proofs.Parts.{stores}
use Rattle.memory_rules.specs.State.{areas_of}
use Rattle.memory_rules.specs.Calls.{Interest, done_by}
use Rattle.memory.proofs.interested_in_focus.Goals as goal

pub returns : goal.returns
unfolding done_by
returns c =
    stores (Interest c.args.id c.args.layer) c.args.m (areas_of c.args.m).rows (cache_in c.interested_in_focus-interested.new.ids c.interested_in_focus-interested.new.rects) _ c.fields_of-fields.ensures c.interested_in_focus-interested.result c.done.result c.done.ensures (c.interested_in_focus-interested.ensures _)
