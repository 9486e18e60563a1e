-- `requests::form::form` meets its contract: a line by the first letter of its word. Assumes nothing.
use Rattle.std.proofs.Common.{None, refl, sym, ◌∙◌, arith}
use Rattle.requests.proofs.Letters.{is_begin, is_want, is_area, is_top, is_sub, is_modal, is_end, is_hit, is_focus, is_other, after_begin, after_end, after_other}
use Rattle.requests.proofs.Plain.{reads_list, reads_plain}
use Rattle.requests.proofs.form.form.Goals as goal

pub returns-in-98-clause-read : goal.returns-in-98-clause-read
returns-in-98-clause-read c = reads_list _ _ (is_begin c.args.s.now (sym c.byte.ensures ∙ c.in-98.is)) _ _ c.begin.ensures.read

pub returns-in-98-clause-lists : goal.returns-in-98-clause-lists
returns-in-98-clause-lists c = after_begin c.args.s.now _ _ (sym c.byte.ensures ∙ c.in-98.is) c.begin.ensures.lists

pub returns-in-119-clause-read : goal.returns-in-119-clause-read
returns-in-119-clause-read c = reads_plain _ _ (is_want c.args.s.now (sym c.byte.ensures ∙ c.in-119.is)) _ _ c.want.ensures

pub returns-in-119-clause-lists : goal.returns-in-119-clause-lists
returns-in-119-clause-lists c = let e = sym c.byte.ensures ∙ c.in-119.is in after_other c.args.s.now _ (omega (arith, e)) (omega (arith, e))

pub returns-in-97-clause-read : goal.returns-in-97-clause-read
returns-in-97-clause-read c = reads_plain _ _ (is_area c.args.s.now (sym c.byte.ensures ∙ c.in-97.is)) _ _ c.area.ensures

pub returns-in-97-clause-lists : goal.returns-in-97-clause-lists
returns-in-97-clause-lists c = let e = sym c.byte.ensures ∙ c.in-97.is in after_other c.args.s.now _ (omega (arith, e)) (omega (arith, e))

pub returns-in-116-clause-read : goal.returns-in-116-clause-read
returns-in-116-clause-read c = reads_plain _ _ (is_top c.args.s.now (sym c.byte.ensures ∙ c.in-116.is)) _ _ c.top.ensures

pub returns-in-116-clause-lists : goal.returns-in-116-clause-lists
returns-in-116-clause-lists c = let e = sym c.byte.ensures ∙ c.in-116.is in after_other c.args.s.now _ (omega (arith, e)) (omega (arith, e))

pub returns-in-115-clause-read : goal.returns-in-115-clause-read
returns-in-115-clause-read c = reads_plain _ _ (is_sub c.args.s.now (sym c.byte.ensures ∙ c.in-115.is)) _ _ c.sub.ensures

pub returns-in-115-clause-lists : goal.returns-in-115-clause-lists
returns-in-115-clause-lists c = let e = sym c.byte.ensures ∙ c.in-115.is in after_other c.args.s.now _ (omega (arith, e)) (omega (arith, e))

pub returns-in-109-clause-read : goal.returns-in-109-clause-read
returns-in-109-clause-read c = reads_plain _ _ (is_modal c.args.s.now (sym c.byte.ensures ∙ c.in-109.is)) _ _ c.modal.ensures

pub returns-in-109-clause-lists : goal.returns-in-109-clause-lists
returns-in-109-clause-lists c = let e = sym c.byte.ensures ∙ c.in-109.is in after_other c.args.s.now _ (omega (arith, e)) (omega (arith, e))

pub returns-in-101-clause-read : goal.returns-in-101-clause-read
returns-in-101-clause-read c = reads_list _ _ (is_end c.args.s.now (sym c.byte.ensures ∙ c.in-101.is)) _ _ c.end.ensures.read

pub returns-in-101-clause-lists : goal.returns-in-101-clause-lists
returns-in-101-clause-lists c = after_end c.args.s.now _ _ (sym c.byte.ensures ∙ c.in-101.is) c.end.ensures.lists

pub returns-in-104-clause-read : goal.returns-in-104-clause-read
returns-in-104-clause-read c = reads_plain _ _ (is_hit c.args.s.now (sym c.byte.ensures ∙ c.in-104.is)) _ _ c.hit.ensures

pub returns-in-104-clause-lists : goal.returns-in-104-clause-lists
returns-in-104-clause-lists c = let e = sym c.byte.ensures ∙ c.in-104.is in after_other c.args.s.now _ (omega (arith, e)) (omega (arith, e))

pub returns-in-102-clause-read : goal.returns-in-102-clause-read
returns-in-102-clause-read c = reads_plain _ _ (is_focus c.args.s.now (sym c.byte.ensures ∙ c.in-102.is)) _ _ c.focus.ensures

pub returns-in-102-clause-lists : goal.returns-in-102-clause-lists
returns-in-102-clause-lists c = let e = sym c.byte.ensures ∙ c.in-102.is in after_other c.args.s.now _ (omega (arith, e)) (omega (arith, e))

pub returns-in_default-clause-read : goal.returns-in_default-clause-read
returns-in_default-clause-read c =
    reads_list _ None (is_other c.args.s.now (omega arith, omega arith, omega arith, omega arith, omega arith, omega arith, omega arith, omega arith, omega arith)) None c.args.lists.now refl

pub returns-in_default-clause-lists : goal.returns-in_default-clause-lists
returns-in_default-clause-lists c = after_other c.args.s.now _ (omega arith) (omega arith)
