-- `session::cut` meets its contract. Assumes nothing.
use Rattle.session.proofs.Lines.{lines_cut}
use Rattle.session.proofs.cut.Goals as goal

pub returns : goal.returns
returns c = lines_cut c.args.s.now c.find-end.result c.min.result c.find-end.ensures.0 c.min.ensures
