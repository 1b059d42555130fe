-- The turns of `rate::rules::group_addresses`: every address passed so far is a group address.
use Rattle.std.proofs.Common.{◌≡◌, ◌≤◌, ◌*◌, ◌/◌, ◌%◌, length, true}
use lib.Dec.{eqb}
use Rattle.wire.specs.Octets.{octet_at, all_below}
use Rattle.rate.proofs.rules.group_addresses.Given as goal

abbrev pub invariant-loop-k : goal.invariant-loop-k
invariant-loop-k l = (l.k ≤ length l.addresses / 6) × (all_below l.k (λ k. eqb (octet_at l.addresses (6 * k) % 2) 1) ≡ true)
