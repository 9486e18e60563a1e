-- `memory::ignore_focus` meets its contract. Assumes nothing.
use Rattle.focus_cache.specs.Cache.{cache_in}
use Rattle.memory.proofs.Parts.{stores}
use Rattle.memory_rules.specs.State.{areas_of}
use Rattle.memory_rules.specs.Calls.{IgnoreFocus, done_by}
use Rattle.memory.proofs.ignore_focus.Goals as goal

pub returns : goal.returns
unfolding done_by
returns c = stores (IgnoreFocus c.args.id) c.args.m (areas_of c.args.m).rows (cache_in c.ignore_focus-ignored.new.ids c.ignore_focus-ignored.new.rects) _ c.fields_of.ensures c.ignore_focus-ignored.result c.done.result c.done.ensures (c.ignore_focus-ignored.ensures _ _)
