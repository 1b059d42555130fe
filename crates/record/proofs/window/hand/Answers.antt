-- In each turn the handle of the number is laid if it waits, and nothing is if it is missing (`lays_waits`, `lays_missing`). At the end nothing is left to be
-- laid, so what was laid is what was to be laid from the start (`lays_end`).
use Rattle.std.proofs.Common.{sym, ◌∙◌, arith}
use Rattle.record.proofs.Waiting.{lays_start, lays_end, lays_waits, lays_missing}
use Rattle.record.proofs.window.hand.Goals as goal
use Rattle.record.proofs.window.hand.Goals.{then-not-is_missing, else-not-is_missing}

pub loop-k-init : goal.loop-k-init
loop-k-init c = lays_start _ _ _ _ _ (rw c.is_place.ensures at c.all_or_none-numbers.ensures)

pub loop-k-preserved : goal.loop-k-preserved
loop-k-preserved c =
    let keeps = c.loop-k.invariant in
    elim c.if-not-is_missing.branch [
      | then-not-is_missing w ↦ rw (w.out-is, w.to-is) (lays_waits keeps c.loop-k-test.true c.forward-i.ensures (sym c.is_missing.ensures ∙ w.if-not-is_missing.true) w.handle_of.ensures)
      | else-not-is_missing w ↦ rw (w.out-is, w.to-is) (lays_missing keeps c.loop-k-test.true c.forward-i.ensures (sym c.is_missing.ensures ∙ w.if-not-is_missing.false))
    ]

pub returns : goal.returns
returns c = lays_end c.loop-k.invariant (rw c.is_place.ensures at c.all_or_none-numbers.ensures) (omega arith)
