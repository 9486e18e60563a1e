-- `forms::one_form_a_line` meets its contract. Assumes nothing.
use Rattle.forms.proofs.Forms.{form_takes, form_again}
use Rattle.forms.proofs.one_form_a_line.Goals as goal

pub returns : goal.returns
returns c = (form_takes, form_again)
