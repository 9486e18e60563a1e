use mathlib.Core.Path.{refl, sym, ap, ◌∙◌}
use Prim.Native.Nat.{◌*◌, ◌/◌, ◌<◌, min}
use native.Mathlib.Omega.{arith}
use lib.ListN.{length, get_or}
use Rattle.emath.specs.declared.Rect.{Rect}
use Rattle.emath.proofs.Corners.{row_rect}
use Rattle.search.specs.declared.Scored.{Scored}
use Rattle.search.specs.Search.{table_of, is_better}
use Rattle.search.specs.Walk.{step_of, walk_of}
use Rattle.search.proofs.Places.{rest_all, walk_more, walk_done}
use Rattle.search.proofs.Steps.{walk_finds}
use Rattle.search.proofs.find.Goals as goal

pub loop-i-init : goal.loop-i-init
loop-i-init c =
    λ i. walk_of is_better c.args.focused c.args.current c.args.direction (c.nothing-best.ensures i) (rest_all c.args.ids.now c.args.rects.now i)

pub loop-i-preserved : goal.loop-i-preserved
loop-i-preserved c =
    let ids = c.args.ids.now in
    let rects = c.args.rects.now in
    let i = c.loop-i.i in
    let cut = c.as_chunks.ensures in
    let here : i < min (length ids) (length rects / 4) = omega (arith, cut.front_len) in
    let step = λ (r : Rect). step_of is_better c.args.focused c.args.current c.args.direction c.loop-i.best (record { id = get_or ids i 0; rect = r }) in
    let taken = c.consider-best.ensures ∙ ap step (c.from.ensures ∙ row_rect i (4 * i) rects c.as_chunks.result.0.now cut.front cut.front_len (omega (arith, cut.front_len)) refl) in
    walk_more ids rects c.args.focused c.args.current c.args.direction c.loop-i.best i here c.consider-best.result taken ∙ c.loop-i.invariant

pub returns : goal.returns
returns c =
    ap (λ (s : Scored). s.candidate.id) (sym (walk_done c.args.ids.now c.args.rects.now c.args.focused c.args.current c.args.direction c.loop-i.best c.loop-i.i (omega (arith, c.as_chunks.ensures.front_len))) ∙ c.loop-i.invariant)
    ∙ walk_finds c.args.focused c.args.current c.args.direction (table_of c.args.ids.now c.args.rects.now)
