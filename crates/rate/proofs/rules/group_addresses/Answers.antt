-- `rate::rules::group_addresses` meets its contract: one address that is no group address decides, and else every one of them has been passed.
use Rattle.std.proofs.Common.{ℕ, ◌≡◌, sym, length, ◌*◌, ◌/◌, ◌%◌, Bool, List, arith}
use borrow.Author.Tests.{eq-eqb, ne_eqb}
use lib.Dec.{eqb}
use Rattle.wire.specs.Octets.{octet_at}
use Rattle.wire.proofs.AllBelow.{all_none, all_more, one_fails}
use Rattle.rate.specs.Request.{group_addresses}
use Rattle.rate.proofs.rules.group_addresses.Goals as goal

-- the k-th address is a group address
abbrev is_group : List ℕ → ℕ → Bool
is_group a k = eqb (octet_at a (6 * k) % 2) 1

pub loop-k-init : goal.loop-k-init
loop-k-init c = (omega arith, all_none (is_group c.args.addresses.now))

pub returns-then-addresses-k-ne1 : goal.returns-then-addresses-k-ne1
unfolding group_addresses
returns-then-addresses-k-ne1 c =
    let a = c.args.addresses.now in
    let k = c.loop-k.k in
    sym (one_fails (length a / 6) k (is_group a) c.loop-k-test.true (ne_eqb (octet_at a (6 * k) % 2) 1 c.if-addresses-k-ne1.true))

pub loop-k-preserved : goal.loop-k-preserved
loop-k-preserved c =
    let a = c.args.addresses.now in
    let k = c.loop-k.k in
    (omega arith, all_more k (is_group a) c.loop-k.invariant.1 (eq-eqb (octet_at a (6 * k) % 2) 1 c.if-addresses-k-ne1.false))

pub returns : goal.returns
unfolding group_addresses
returns c =
    let all : c.loop-k.k ≡ length c.args.addresses.now / 6 = omega arith in
    sym (rw all at c.loop-k.invariant.1)
