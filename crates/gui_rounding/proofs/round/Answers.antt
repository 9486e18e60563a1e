use mathlib.Core.Path.{sym, subst, ◌∙◌}
use lib.Dec.{T}
use Rattle.gui_rounding.proofs.Rounding.{as_defined}
use Rattle.gui_rounding.proofs.Whole.{whole_stays}
use Rattle.gui_rounding.proofs.round.Goals as goal

pub returns-then-size : goal.returns-then-size
returns-then-size c =
    let held = subst T (sym c.well_formed.0.1) tt in
    whole_stays _ _ held c.abs-size.ensures.value c.if-size.true

pub returns-else-size : goal.returns-else-size
returns-else-size c = c.round.ensures ∙ as_defined c.args.x
