-- `memory_core::end_pass` meets its contract. Assumes nothing.
use Rattle.memory_core.proofs.Passes.{end_taken}
use Rattle.memory_core.proofs.end_pass.Goals as goal

pub returns : goal.returns
returns c =
    λ map. end_taken c.args.fields c.args.rows.now map c.args.ids.now c.args.rects.now _ _ _ c.end_pass-layers.ensures _ c.ended.ensures _ _ c.in_ok-ended.ensures.after _ c.in_ok-ended.ensures.cache c.in_ok-ended.ensures.refusal
