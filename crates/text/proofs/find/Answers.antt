-- `text::find` meets its contract. Assumes nothing.
use mathlib.Core.Path.{ap, ◌∙◌}
use native.Mathlib.Omega.{arith}
use Rattle.std.proofs.Common.{rules, ◌≡◌, ℕ, ◌+◌, ◌-◌, ◌<◌, length, drop, take}
use lib.ListN.{length-drop}
use Rattle.text.specs.Read.{length_before}
use Rattle.text.proofs.Reading.{rest_is, before_here, before_none}
use Rattle.text.proofs.find.Goals as goal

pub returns-in-Some : goal.returns-in-Some
returns-in-Some c =
    let at = c.args.at in
    let s = c.args.s.now in
    let same : c.iter.result.rest.now ≡ drop at s = c.iter.ensures.rest ∙ ap (λ (m : ℕ). take (length s - m) (drop m s)) c.min.ensures ∙ rest_is s at in
    let inside : c.in-Some.i < length c.iter.result.rest.now = search rules in
    let long : length c.iter.result.rest.now ≡ length s - at = ap length same ∙ length-drop at s in
    let e = before_here c.iter.result.rest.now c.args.b c.in-Some.i inside (search rules) (search rules) in
    (ap (λ (n : ℕ). at + n) (e ∙ λ i. length_before c.args.b (same i)), omega arith, omega arith)

pub returns-in-None : goal.returns-in-None
returns-in-None c =
    let at = c.args.at in
    let s = c.args.s.now in
    let same : c.iter.result.rest.now ≡ drop at s = c.iter.ensures.rest ∙ ap (λ (m : ℕ). take (length s - m) (drop m s)) c.min.ensures ∙ rest_is s at in
    let long : length c.iter.result.rest.now ≡ length s - at = ap length same ∙ length-drop at s in
    let e = before_none c.iter.result.rest.now c.args.b (search rules) ∙ λ i. length_before c.args.b (same i) in
    (omega (arith, c.max.ensures), omega (arith, c.max.ensures), omega (arith, c.max.ensures))
