-- `text::word` meets its contract. Assumes nothing.
use mathlib.Core.Path.{◌∙◌, sym}
use Rattle.text.proofs.Reading.{word_there, word_other}
use Rattle.text.proofs.word.Goals as goal

pub returns-then-starts_with : goal.returns-then-starts_with
returns-then-starts_with c = word_there c.args.s.now c.args.at c.args.w.now (rw (sym c.min.ensures) (sym c.starts_with.ensures.value ∙ c.if-starts_with.true))

pub returns-else-starts_with : goal.returns-else-starts_with
returns-else-starts_with c = word_other c.args.s.now c.args.at c.args.w.now (rw (sym c.min.ensures) (sym c.starts_with.ensures.value ∙ c.if-starts_with.false))
