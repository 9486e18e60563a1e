-- `widget_rows::read_half`: the words are those of the row, and the two rectangles those of the half. Assumes nothing.
use mathlib.Core.Path.{◌∙◌}
use native.Mathlib.Omega.{arith}
use Rattle.std.proofs.Common.{◌≡◌, ℕ, ◌+◌, ◌*◌, ◌<◌, [], get_or, length}
use Rattle.std.specs.Prelude.{not, eqb}
use Rattle.emath.proofs.Corners.{row_rect}
use Rattle.widget_rows.specs.Rows.{record_at}
use Rattle.widget_rows.proofs.Chunked.{chunk_word, chunk_layer}
use Rattle.widget_rows.proofs.read_half.Goals as goal

pub returns : goal.returns
unfolding record_at
returns c =
    let words = c.args.words.now in
    let word : (i p : ℕ) → i < 10 → p ≡ 10 * c.args.k + i → get_or (get_or c.as_chunks.result.0.now c.args.k []) i 0 ≡ get_or words p 0 = chunk_word words _ c.args.k c.as_chunks.ensures.front (omega arith) in
    let k = 4 * c.args.k + 2 * c.args.half in
    let at = 16 * c.args.k + 8 * c.args.half in
    let rows = c.as_chunks-2.result.0.now in
    let inside : k + 1 < length rows = omega (arith, c.as_chunks-2.ensures.front_len) in
    let look = 4 + 3 * c.args.half in
    let place = 10 * c.args.k + 4 + 3 * c.args.half in
    let rect = c.from.ensures ∙ row_rect k at c.args.rects.now rows c.as_chunks-2.ensures.front c.as_chunks-2.ensures.front_len (omega arith) (omega arith) in
    let interact = c.from-2.ensures ∙ row_rect (k + 1) (at + 4) c.args.rects.now rows c.as_chunks-2.ensures.front c.as_chunks-2.ensures.front_len inside (omega arith) in
    λ j. record {
      id = get_or c.args.ids.now c.args.k 0;
      parent_id = word 0 (10 * c.args.k) (omega arith) (omega arith) j;
      layer_id = (c.layer.ensures ∙ chunk_layer words _ c.args.k c.as_chunks.ensures.front (omega arith)) j;
      rect = rect j;
      interact_rect = interact j;
      sense = word look place (omega arith) (omega arith) j;
      enabled = not (eqb (word (look + 1) (place + 1) (omega arith) (omega arith) j) 0);
      visible = not (eqb (word (look + 2) (place + 2) (omega arith) (omega arith) j) 0);
    }
