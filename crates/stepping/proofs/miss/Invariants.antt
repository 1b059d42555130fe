-- The loop keeps: what is still to be put from here is what was to be put from the start (Stamping, `Misses`).
use Rattle.stepping.proofs.Stamping.{Misses}
use Rattle.stepping.proofs.miss.Given as goal

abbrev pub invariant-loop-k : goal.invariant-loop-k
invariant-loop-k l =
    Misses l.initial.i.0 l.n l.time l.initial.words l.initial.marks l.initial.nack l.words l.marks l.nack l.i.0 l.k
