-- `session::all_answers_fit`: the law is proved in Fits.antt. Assumes nothing.
use Rattle.session.proofs.Fits.{all_written}
use Rattle.session.proofs.all_answers_fit.Goals as goal

pub returns : goal.returns
returns c = all_written
