-- In each turn M passes a number that waits, whose handle goes up, or one that is given up (`passes_waits`, `passes_missing`). It rests where nothing is left
-- (`rests_none`), or at a missing number that is waited for on (`rests_missing`).
use Rattle.std.proofs.Common.{◌∙◌, arith}
use Rattle.record.proofs.Settling.{settles, rests_none, rests_missing, passes_waits, passes_missing}
use Rattle.record.proofs.Record.settled.Goals as goal
use Rattle.record.proofs.Record.settled.Goals.{in-Missing+else-until-since, in-Waits}

pub loop-preserved : goal.loop-preserved
loop-preserved c =
    let inv = c.loop.invariant in
    let e = c.moved-kept.ensures in (
      elim c.match-of.branch [
        | in-Missing+else-until-since w ↦
            rw (w.up-is, w.gone-is, w.lost-is)
            (passes_missing inv.0 c.loop-test.true e.1 w.in-Missing.ensures w.if-until-since.false)
        | in-Waits w ↦
            rw (w.up-is, w.gone-is, w.lost-is)
            (passes_waits inv.0 c.loop-test.true e.1 w.in-Waits.ensures)
      ],
      e.0 ∙ inv.1,
      e.2 ∙ inv.2,
    )

pub returns-after-loop : goal.returns-after-loop
returns-after-loop c =
    let inv = c.loop.invariant in
    settles _ _ (rw (c.least.ensures, c.span.ensures, c.is_place.ensures) at c.all_or_none-numbers.ensures)
    (rests_none inv.0 (omega arith)) inv.1 inv.2

pub returns-then-until-since : goal.returns-then-until-since
returns-then-until-since c =
    let inv = c.loop.invariant in
    settles _ _ (rw (c.least.ensures, c.span.ensures, c.is_place.ensures) at c.all_or_none-numbers.ensures)
    (rests_missing inv.0 c.loop-test.true c.in-Missing.ensures c.if-until-since.true)
    inv.1 inv.2
