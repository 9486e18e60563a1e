-- `vec2::length` meets its contract (Measured.antt). Assumes nothing.
use Rattle.std.proofs.Common.{sym, ◌∙◌, le_trans, arith, lit≤}
use lib.Ieee.{div, of_bits}
use Rattle.refusal.proofs.Laws.{both_none, no_error, an_error}
use Rattle.vec2.proofs.Laws.{off_grid_lem}
use Rattle.vec2.proofs.Quotients.{castable}
use Rattle.vec2.proofs.Measured.{measured, upright, level}
use Rattle.vec2.proofs.length.Goals as goal

pub returns-then-is_err : goal.returns-then-is_err
unfolding div of_bits
returns-then-is_err c = sym (off_grid_lem c.args.v (λ e. an_error _ (sym c.is_err.ensures.value ∙ c.if-is_err.true) (c.pivot_pos.ensures ∙ e)))

pub steps-x-requires : goal.steps-x-requires
steps-x-requires c = (both_none _ _ (sym c.pivot_pos.ensures ∙ no_error _ (sym c.is_err.ensures.value ∙ c.if-is_err.false))).0

pub steps-y-requires : goal.steps-y-requires
steps-y-requires c = (both_none _ _ (sym c.pivot_pos.ensures ∙ no_error _ (sym c.is_err.ensures.value ∙ c.if-is_err.false))).1

pub int_to_float-result : goal.int_to_float-result
int_to_float-result c = castable _ (le_trans (measured c.args.v (sym c.pivot_pos.ensures ∙ no_error _ (sym c.is_err.ensures.value ∙ c.if-is_err.false)) _ _ c.steps-x.ensures c.steps-y.ensures).y_few (lit≤ tt))

pub returns-then-x-eq0 : goal.returns-then-x-eq0
returns-then-x-eq0 c = upright _ _ _ (measured c.args.v (sym c.pivot_pos.ensures ∙ no_error _ (sym c.is_err.ensures.value ∙ c.if-is_err.false)) _ _ c.steps-x.ensures c.steps-y.ensures) c.if-x-eq0.true

pub int_to_float-result-then-y-eq0 : goal.int_to_float-result-then-y-eq0
int_to_float-result-then-y-eq0 c = castable _ (le_trans (measured c.args.v (sym c.pivot_pos.ensures ∙ no_error _ (sym c.is_err.ensures.value ∙ c.if-is_err.false)) _ _ c.steps-x.ensures c.steps-y.ensures).x_few (lit≤ tt))

pub returns-then-y-eq0 : goal.returns-then-y-eq0
returns-then-y-eq0 c = level _ _ _ (measured c.args.v (sym c.pivot_pos.ensures ∙ no_error _ (sym c.is_err.ensures.value ∙ c.if-is_err.false)) _ _ c.steps-x.ensures c.steps-y.ensures) c.if-y-eq0.true

pub overflow_mul-x : goal.overflow_mul-x
overflow_mul-x c = omega (arith, (measured c.args.v (sym c.pivot_pos.ensures ∙ no_error _ (sym c.is_err.ensures.value ∙ c.if-is_err.false)) _ _ c.steps-x.ensures c.steps-y.ensures).sum)

pub overflow_mul-y : goal.overflow_mul-y
overflow_mul-y c = omega (arith, (measured c.args.v (sym c.pivot_pos.ensures ∙ no_error _ (sym c.is_err.ensures.value ∙ c.if-is_err.false)) _ _ c.steps-x.ensures c.steps-y.ensures).sum)

pub overflow_add-x : goal.overflow_add-x
overflow_add-x c = omega (arith, (measured c.args.v (sym c.pivot_pos.ensures ∙ no_error _ (sym c.is_err.ensures.value ∙ c.if-is_err.false)) _ _ c.steps-x.ensures c.steps-y.ensures).sum)

pub nearest-requires : goal.nearest-requires
nearest-requires c = (measured c.args.v (sym c.pivot_pos.ensures ∙ no_error _ (sym c.is_err.ensures.value ∙ c.if-is_err.false)) _ _ c.steps-x.ensures c.steps-y.ensures).sum

pub returns : goal.returns
returns c = c.nearest.ensures ∙ sym (measured c.args.v (sym c.pivot_pos.ensures ∙ no_error _ (sym c.is_err.ensures.value ∙ c.if-is_err.false)) _ _ c.steps-x.ensures c.steps-y.ensures).is
