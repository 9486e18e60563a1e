-- `session::run` meets its contract. Assumes nothing.
use Rattle.std.proofs.Common.{◌≡◌, ℕ, ◌<◌, length, sym, subst, rules, arith}
use Rattle.text.specs.Put.{place_after, put_on}
use Rattle.memory_rules.specs.declared.Memory.{Memory}
use Rattle.session.specs.declared.runner.Answer.TheVariants.{No}
use Rattle.session.specs.Output.{line_of}
use Rattle.session.proofs.Running.{Running, runs_start, runs_line, runs_end, too_long}
use Rattle.session.proofs.run.Goals as goal

pub returns-then-input-gt-LONGEST : goal.returns-then-input-gt-LONGEST
returns-then-input-gt-LONGEST c =
    too_long c.args.input.now c.args.out.now c.if-input-gt-LONGEST.true c.put.result c.put.new.out
    (subst (λ (n : ℕ). (c.put.result ≡ place_after 0 (line_of (No n))) × (c.put.new.out ≡ put_on c.args.out.now 0 (line_of (No n)))) c.from.ensures c.put.ensures)

pub loop-init : goal.loop-init
loop-init c = subst (λ (m : Memory). Running c.args.input.now c.args.out.now m c.args.input.now c.args.out.now 0 0) (sym c.new-m.ensures) (runs_start c.args.input.now c.args.out.now)

pub loop-preserved : goal.loop-preserved
loop-preserved c =
    let some : 0 < length c.loop.rest.now = search rules in
    runs_line c.args.input.now c.args.out.now c.if-input-gt-LONGEST.false c.loop.m c.loop.rest.now c.loop.out c.loop.at c.loop.counter c.loop.invariant
    c.cut.result.0.now c.cut.result.1.now (c.cut.ensures some) c.answer.new.m c.answer.result c.answer.ensures c.put-at.result c.put-at.new.out c.put-at.ensures

pub returns-after-loop : goal.returns-after-loop
returns-after-loop c =
    let r = c.loop.invariant in
    runs_end c.args.input.now c.args.out.now c.if-input-gt-LONGEST.false c.loop.m c.loop.rest.now c.loop.out c.loop.at c.loop.counter r (omega (arith, r.left, c.loop-test.false))

pub returns-then-is_empty : goal.returns-then-is_empty
returns-then-is_empty c =
    let none : length c.loop.rest.now ≡ 0 = search rules in
    runs_end c.args.input.now c.args.out.now c.if-input-gt-LONGEST.false c.loop.m c.loop.rest.now c.loop.out c.loop.at c.loop.counter c.loop.invariant none
