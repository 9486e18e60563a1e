-- `focus_cache::rect_at`: the rectangle that is found is that of entry k. Assumes nothing.
use mathlib.Core.Path.{refl, ap, ◌∙◌}
use native.Mathlib.Omega.{arith}
use borrow.Author.Tests.{lt-ltb}
use Rattle.std.proofs.Common.{◌<◌, ◌*◌, ◌/◌, length, []}
use Rattle.emath.specs.Rect.{from_corners}
use Rattle.emath.proofs.Corners.{row_rect}
use Rattle.focus_cache.specs.Cache.{rect_at}
use Rattle.focus_cache.proofs.rect_at.Goals as goal

pub returns-in-Some : goal.returns-in-Some
unfolding rect_at
returns-in-Some c =
    let w = c.args.rects.now in
    let k = c.args.k in
    let found = c.in-Some.ensures.lookup.3 in
    let h : k < length w / 4 = omega (arith, found.0, c.as_chunks.ensures.front_len) in
    rw (lt-ltb k (length w / 4) h) (c.from.ensures ∙ ap from_corners (found.1 [])
    ∙ row_rect k (4 * k) w c.as_chunks.result.0.now c.as_chunks.ensures.front c.as_chunks.ensures.front_len found.0 refl)
