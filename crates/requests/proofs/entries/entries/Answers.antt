-- `requests::entries::entries` meets its contract. Assumes nothing.
use Rattle.std.proofs.Common.{◌≡◌, length, sym, ◌∙◌, rules, arith, ◌*◌}
use Rattle.tables.specs.Tables.{put_at}
use Rattle.forms.specs.Read.{entry_in}
use Rattle.requests.proofs.Many.{no_space, a_space, starts, stops, ends, fails, goes_on, stops_list, ends_list, fails_list}
use Rattle.requests.proofs.Held.{no_events, one_event, events_held, events_are}
use Rattle.requests.proofs.entries.entries.Goals as goal

pub loop-i-init : goal.loop-i-init
loop-i-init c = starts entry_in _ _ (no_events c.args.events.now)

pub returns-then-byte-ne32-clause-read : goal.returns-then-byte-ne32-clause-read
returns-then-byte-ne32-clause-read c =
    let size : length c.args.events.now.words ≡ 256 = search rules in
    stops entry_in _ _ _ _ c.loop-i.invariant c.loop-i-test.true (no_space _ _ c.byte.ensures c.if-byte-ne32.true) _ (λ front h. events_held _ _ front size h)

pub returns-then-byte-ne32-clause-events : goal.returns-then-byte-ne32-clause-events
returns-then-byte-ne32-clause-events c =
    let g = c.loop-i.invariant in
    events_are _ _ g.front _ (stops_list entry_in _ _ _ _ g c.loop-i-test.true (no_space _ _ c.byte.ensures c.if-byte-ne32.true)) g.holds

pub returns-in_err-e-clause-read : goal.returns-in_err-e-clause-read
returns-in_err-e-clause-read c =
    rw c.from_residual.ensures (fails entry_in _ _ _ _ c.loop-i.invariant c.loop-i-test.true (a_space _ _ c.byte.ensures c.if-byte-ne32.false) (sym c.in_err-e.ensures) _)

pub returns-in_err-e-clause-events : goal.returns-in_err-e-clause-events
returns-in_err-e-clause-events c =
    let g = c.loop-i.invariant in
    events_are _ _ g.front _ (fails_list entry_in _ _ _ _ g c.loop-i-test.true (a_space _ _ c.byte.ensures c.if-byte-ne32.false) (sym c.in_err-e.ensures)) g.holds

pub loop-i-preserved : goal.loop-i-preserved
loop-i-preserved c =
    let size : length c.args.events.now.words ≡ 256 = search rules in
    goes_on entry_in _ _ _ _ c.loop-i.invariant c.loop-i-test.true (a_space _ _ c.byte.ensures c.if-byte-ne32.false) c.in_ok-e.e c.in_ok-e.next.now (sym c.in_ok-e.ensures) _
    (λ front n h. one_event _ _ front size h c.in_ok-e.e c.loop-i.i n _ (c.put_row.ensures ∙ (λ i. put_at c.loop-i.events.words (4 * c.loop-i.i) (c.words.ensures i))))

pub returns-clause-read : goal.returns-clause-read
returns-clause-read c =
    let size : length c.args.events.now.words ≡ 256 = search rules in
    ends entry_in _ _ _ _ c.loop-i.invariant (omega (arith, c.loop-i-test.false)) _ (λ front h. events_held _ _ front size h)

pub returns-clause-events : goal.returns-clause-events
returns-clause-events c =
    let g = c.loop-i.invariant in
    events_are _ _ g.front _ (ends_list entry_in _ _ _ _ g (omega (arith, c.loop-i-test.false))) g.holds
