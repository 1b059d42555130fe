-- Each turn puts one number more (`misses_turn`), and at the end nothing is left to be put (`misses_end`).
use Rattle.std.proofs.Common.{arith}
use Rattle.stepping.proofs.Stamping.{misses_start, misses_end, misses_turn}
use Rattle.stepping.proofs.miss.Goals as goal

pub loop-k-init : goal.loop-k-init
loop-k-init c = misses_start _ _ _ _ _ _

pub loop-k-preserved : goal.loop-k-preserved
loop-k-preserved c =
    let e = c.set_missing.ensures in
    rw (e.0, e.1) (misses_turn c.loop-k.invariant c.loop-k-test.true c.forward-i.ensures)

pub returns : goal.returns
returns c = misses_end c.loop-k.invariant (omega arith)
