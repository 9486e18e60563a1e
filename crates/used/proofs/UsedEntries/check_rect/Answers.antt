-- `used::check_rect`: the rectangle that is found is that of entry i. Assumes nothing.
use mathlib.Core.Path.{refl, ap, ◌∙◌}
use Rattle.std.proofs.Common.{◌*◌, []}
use Rattle.emath.specs.Rect.{from_corners}
use Rattle.emath.proofs.Corners.{row_rect}
use Rattle.grid.specs.Grid.{rect_refusal}
use Rattle.used.proofs.UsedEntries.check_rect.Goals as goal

pub returns-in-Some : goal.returns-in-Some
returns-in-Some c =
    let i = c.args.i in
    let found = c.in-Some.ensures.lookup.3 in
    c.rect.ensures ∙ ap rect_refusal (c.from.ensures ∙ ap from_corners (found.1 [])
    ∙ row_rect i (4 * i) c.args.self.corners.now c.as_chunks.result.0.now c.as_chunks.ensures.front c.as_chunks.ensures.front_len found.0 refl)
