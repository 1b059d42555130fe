-- A time before the last one looked at breaks the order (`looks_falls`); any other number goes on (`looks_missing`, `looks_waits`), and at the end the last time
-- is compared with the latest (`looks_end`).
use Rattle.std.proofs.Common.{ap, sym, ◌∙◌, arith, leb}
use Rattle.judging.proofs.Ordering.{looks_start, looks_end, looks_falls, looks_missing, looks_waits}
use Rattle.judging.proofs.in_order.Goals as goal
use Rattle.judging.proofs.in_order.Goals.{then-is_missing+else-t-before, else-is_missing}

pub loop-k-init : goal.loop-k-init
loop-k-init c = looks_start c.args.words.now c.args.marks.now c.args.from.0 c.args.n

pub returns-then-t-before : goal.returns-then-t-before
returns-then-t-before c =
    looks_falls c.loop-k.invariant c.loop-k-test.true c.forward-i.ensures (sym c.is_missing.ensures ∙ c.if-is_missing.true) c.time_of-t.ensures c.if-t-before.true

pub loop-k-preserved : goal.loop-k-preserved
loop-k-preserved c =
    let keeps = c.loop-k.invariant in
    elim c.if-is_missing.branch [
      | then-is_missing+else-t-before w ↦
          rw w.before-is
          (looks_missing keeps c.loop-k-test.true c.forward-i.ensures (sym c.is_missing.ensures ∙ w.if-is_missing.true) w.time_of-t.ensures w.if-t-before.false)
      | else-is_missing w ↦ rw w.before-is (looks_waits keeps c.loop-k-test.true c.forward-i.ensures (sym c.is_missing.ensures ∙ w.if-is_missing.false))
    ]

pub returns : goal.returns
returns c = ap (leb c.loop-k.before) c.latest.ensures ∙ looks_end c.loop-k.invariant (omega arith)
