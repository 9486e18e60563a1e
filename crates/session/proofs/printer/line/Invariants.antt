-- The loop of `session::printer::line`: the word and the numbers so far are printed.
use Rattle.session.proofs.Printing.{Saying}
use Rattle.session.proofs.printer.line.Given as goal

abbrev pub invariant-loop-n : goal.invariant-loop-n
invariant-loop-n l = Saying l.word l.numbers l.room l.at l.n-index
