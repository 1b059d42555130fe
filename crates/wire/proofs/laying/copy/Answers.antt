-- `wire::laying::copy` meets its contract: each turn lays one octet more behind the last, and at the end all of them are laid.
use Rattle.std.proofs.Common.{refl, arith}
use Rattle.wire.proofs.Over.{laid_one, laid_all}
use Rattle.wire.proofs.laying.copy.Goals as goal

pub loop-done-preserved : goal.loop-done-preserved
loop-done-preserved c =
    let a = c.args in
    let l = c.loop-done in
    (omega arith, laid_one a.out.now l.out a.at a.octets.now l.done _ c.requires c.loop-done-test.true l.invariant.1 refl)

pub returns : goal.returns
returns c =
    let a = c.args in
    let l = c.loop-done in
    laid_all a.out.now l.out a.at a.octets.now l.done (omega arith) l.invariant.1
