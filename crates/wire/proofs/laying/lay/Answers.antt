-- `wire::lay` meets its contract: it tests whether the octets fit, and `copy` lays them.
use Rattle.std.proofs.Common.{sym, ◌∙◌}
use Rattle.wire.specs.Octets.{within}
use Rattle.wire.proofs.Laid.{lays_nothing, lays_all}
use Rattle.wire.proofs.laying.lay.Goals as goal

pub returns-then-not-lies_within : goal.returns-then-not-lies_within
unfolding within
returns-then-not-lies_within c =
    let a = c.args in
    lays_nothing a.at a.octets.now a.out.now (sym c.lies_within.ensures ∙ c.if-not-lies_within.true)

pub returns : goal.returns
unfolding within
returns c =
    let a = c.args in
    lays_all a.at a.octets.now a.out.now (sym c.lies_within.ensures ∙ c.if-not-lies_within.false) c.copy.ensures
