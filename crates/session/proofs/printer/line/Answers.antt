-- `session::printer::line` meets its contract. Assumes nothing.
use Rattle.std.proofs.Common.{rules}
use Rattle.session.proofs.Printing.{says_word, says_number, says_end}
use Rattle.session.proofs.printer.line.Goals as goal

pub loop-n-init : goal.loop-n-init
loop-n-init c = says_word c.args.word.now c.args.numbers.now c.args.room.now (search rules) _ _ c.put_bytes-at.ensures

pub loop-n-preserved : goal.loop-n-preserved
loop-n-preserved c = says_number c.args.word.now c.args.numbers.now c.loop-n.room c.loop-n.at c.loop-n.n-index c.loop-n.invariant c.loop-n-test.true _ _ c.put_bytes-at-in-loop-n.ensures _ _ c.put_number-at.ensures

pub returns : goal.returns
returns c = says_end c.args.word.now c.args.numbers.now c.loop-n.room c.loop-n.at c.loop-n.n-index c.loop-n.invariant c.loop-n-test.false c.loop-n.auto.n-index-end _ _ c.put_bytes-at-2.ensures _ c.min.ensures
