-- The number of the octets so far.
use Rattle.std.proofs.Common.{◌≡◌, ◌^◌, ◌<◌}
use Rattle.session.specs.Numbers.{number_at}
use Rattle.session.proofs.numbers.number_at.Given as goal

abbrev pub invariant-loop-i : goal.invariant-loop-i
invariant-loop-i g l = (l.number ≡ number_at l.s l.at l.i) × (l.number < 256 ^ l.i)
