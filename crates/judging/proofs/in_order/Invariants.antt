-- The loop keeps: whether the rest is in order from here is whether the whole is (Ordering, `Looks`).
use Rattle.judging.proofs.Ordering.{Looks}
use Rattle.judging.proofs.in_order.Given as goal

abbrev pub invariant-loop-k : goal.invariant-loop-k
invariant-loop-k l = Looks l.words l.marks l.from.0 l.n l.before l.k
