-- `wire::clear` meets its contract, as `lay` does: the octets are a run of zeros.
use Rattle.std.proofs.Common.{ℕ, ◌≡◌, sym, ◌∙◌, true, replicate}
use lib.ListN.{length-replicate}
use Rattle.wire.specs.Octets.{within}
use Rattle.wire.proofs.Laid.{lays_nothing, lays_all}
use Rattle.wire.proofs.laying.clear.Goals as goal

pub returns-then-not-lies_within : goal.returns-then-not-lies_within
unfolding within
returns-then-not-lies_within c =
    let a = c.args in
    lays_nothing a.at (replicate a.count 0) a.out.now (rw (length-replicate {A = ℕ}) (sym c.lies_within.ensures ∙ c.if-not-lies_within.true))

pub returns : goal.returns
unfolding within
returns c =
    let a = c.args in
    let n = length-replicate {A = ℕ} a.count 0 in
    let fits : within a.out.now a.at a.count ≡ true = sym c.lies_within.ensures ∙ c.if-not-lies_within.false in
    rw n at (lays_all a.at (replicate a.count 0) a.out.now (rw n fits) c.zero.ensures)
