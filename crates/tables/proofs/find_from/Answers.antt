use mathlib.Core.Path.{◌∙◌}
use Rattle.std.proofs.Common.{rules, ◌≡◌, drop}
use Rattle.std.proofs.lemmas.List.{take_rest}
use Rattle.tables.specs.Tables.{first_from}
use Rattle.tables.proofs.Finding.{first_here, first_nowhere, first_past}
use Rattle.tables.proofs.find_from.Goals as goal

pub returns-in_err-get : goal.returns-in_err-get
returns-in_err-get c = c.from_residual.ensures ∙ first_past c.args.n c.args.xs.now c.args.x (search rules)

pub returns-in_err-i : goal.returns-in_err-i
returns-in_err-i c =
    let same : c.iter.result.rest.now ≡ drop c.args.n c.args.xs.now = c.iter.ensures.rest ∙ c.in_ok-get.ensures.lookup.0.2 ∙ rw take_rest in
    c.from_residual-in_err-i.ensures ∙ first_nowhere c.args.n c.iter.result.rest.now c.args.x (search rules) ∙ λ i. first_from c.args.n (same i) c.args.x

pub returns : goal.returns
returns c =
    let same : c.iter.result.rest.now ≡ drop c.args.n c.args.xs.now = c.iter.ensures.rest ∙ c.in_ok-get.ensures.lookup.0.2 ∙ rw take_rest in
    first_here c.args.n c.iter.result.rest.now c.args.x c.in_ok-i.i (search rules) (search rules) (search rules) ∙ λ i. first_from c.args.n (same i) c.args.x
