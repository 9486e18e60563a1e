-- `board::jaturemi_insert` meets its contract. Assumes nothing.
use mathlib.Core.Path.{ap, ◌∙◌}
use Prim.Native.Nat.{ℕ}
use Rattle.refusal.specs.Refusal.{kept}
use Rattle.widget_rows.specs.Rows.{Table, table_in}
use Rattle.widget_table.specs.Table.{insert_of}
use Rattle.board.proofs.Inserts.{count_kept}
use Rattle.board.proofs.jaturemi_insert.Goals as goal

pub returns : goal.returns
returns c =
    let t : Table = table_in c.args.count c.args.cells.now c.args.ids.now c.args.words.now c.args.rects.now in
    let after : Table = insert_of t c.args.layer c.args.new c.args.move_to_top in
    let refusal = c.insert-taken.ensures.refusal in
    let count = c.to_c.ensures.count after.count c.insert-taken.ensures.count ∙ ap (λ (r : ℕ). kept {A = ℕ} r c.args.count after.count) refusal ∙ count_kept t c.args.layer c.args.new c.args.move_to_top in
    (c.to_c.ensures.refusal ∙ refusal, ap (λ (n : ℕ). table_in n c.insert-taken.new.cells c.insert-taken.new.ids c.insert-taken.new.words c.insert-taken.new.rects) count ∙ c.insert-taken.ensures.table)
