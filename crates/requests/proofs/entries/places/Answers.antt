-- `requests::entries::places` meets its contract. Assumes nothing.
use Rattle.std.proofs.Common.{◌≡◌, length, sym, ◌∙◌, rules, arith, ◌*◌}
use Rattle.tables.specs.Tables.{put_at}
use Rattle.forms.specs.Read.{place_in}
use Rattle.requests.proofs.Many.{no_space, a_space, starts, stops, ends, fails, goes_on, stops_list, ends_list, fails_list}
use Rattle.requests.proofs.Held.{no_used, one_used, used_held, used_are}
use Rattle.requests.proofs.entries.places.Goals as goal

pub loop-i-init : goal.loop-i-init
loop-i-init c = starts place_in _ _ (no_used c.args.used.now)

pub returns-then-byte-ne32-clause-read : goal.returns-then-byte-ne32-clause-read
returns-then-byte-ne32-clause-read c =
    let size : length c.args.used.now.corners ≡ 1024 = search rules in
    stops place_in _ _ _ _ c.loop-i.invariant c.loop-i-test.true (no_space _ _ c.byte.ensures c.if-byte-ne32.true) _ (λ front h. used_held _ _ front (search rules, size) h)

pub returns-then-byte-ne32-clause-used : goal.returns-then-byte-ne32-clause-used
returns-then-byte-ne32-clause-used c =
    let g = c.loop-i.invariant in
    used_are _ _ g.front _ (stops_list place_in _ _ _ _ g c.loop-i-test.true (no_space _ _ c.byte.ensures c.if-byte-ne32.true)) g.holds

pub returns-in_err-p-clause-read : goal.returns-in_err-p-clause-read
returns-in_err-p-clause-read c =
    rw c.from_residual.ensures (fails place_in _ _ _ _ c.loop-i.invariant c.loop-i-test.true (a_space _ _ c.byte.ensures c.if-byte-ne32.false) (sym c.in_err-p.ensures) _)

pub returns-in_err-p-clause-used : goal.returns-in_err-p-clause-used
returns-in_err-p-clause-used c =
    let g = c.loop-i.invariant in
    used_are _ _ g.front _ (fails_list place_in _ _ _ _ g c.loop-i-test.true (a_space _ _ c.byte.ensures c.if-byte-ne32.false) (sym c.in_err-p.ensures)) g.holds

pub loop-i-preserved : goal.loop-i-preserved
loop-i-preserved c =
    let size : length c.args.used.now.corners ≡ 1024 = search rules in
    goes_on place_in _ _ _ _ c.loop-i.invariant c.loop-i-test.true (a_space _ _ c.byte.ensures c.if-byte-ne32.false) c.in_ok-p.p c.in_ok-p.next.now (sym c.in_ok-p.ensures) _
    (λ front n h. one_used _ _ front size h c.in_ok-p.p c.loop-i.i n _ _ c.put_one.ensures (c.put_row.ensures ∙ (λ i. put_at c.loop-i.used.corners (4 * c.loop-i.i) (c.corners.ensures i))))

pub returns-clause-read : goal.returns-clause-read
returns-clause-read c =
    let size : length c.args.used.now.corners ≡ 1024 = search rules in
    ends place_in _ _ _ _ c.loop-i.invariant (omega (arith, c.loop-i-test.false)) _ (λ front h. used_held _ _ front (search rules, size) h)

pub returns-clause-used : goal.returns-clause-used
returns-clause-used c =
    let g = c.loop-i.invariant in
    used_are _ _ g.front _ (ends_list place_in _ _ _ _ g (omega (arith, c.loop-i-test.false))) g.holds
