-- The loop keeps: what is still to be laid from here is what was to be laid from the start (Waiting, `Lays`).
use Rattle.record.proofs.Waiting.{Lays}
use Rattle.record.proofs.window.hand.Given as goal

abbrev pub invariant-loop-k : goal.invariant-loop-k
invariant-loop-k l = Lays l.handles l.marks l.from.0 l.numbers l.initial.out l.out l.to l.k
