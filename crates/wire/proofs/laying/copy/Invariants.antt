-- The turns of `wire::laying::copy`: so many octets are laid.
use Rattle.std.proofs.Common.{length, ◌≡◌, ◌≤◌}
use Rattle.std.proofs.Math.Seq.{paste}
use Rattle.wire.proofs.laying.copy.Given as goal

abbrev pub invariant-loop-done : goal.invariant-loop-done
invariant-loop-done l = (l.done ≤ length l.octets) × (l.out ≡ paste l.fn.out l.at l.octets l.done)
