-- The turns of `wire::laying::zero`: so many zeros are laid.
use Rattle.std.proofs.Common.{◌≡◌, ◌≤◌, replicate}
use Rattle.std.proofs.Math.Seq.{paste}
use Rattle.wire.proofs.laying.zero.Given as goal

abbrev pub invariant-loop-done : goal.invariant-loop-done
invariant-loop-done l = (l.done ≤ l.count) × (l.out ≡ paste l.fn.out l.at (replicate l.count 0) l.done)
