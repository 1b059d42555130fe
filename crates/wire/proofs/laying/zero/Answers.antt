-- `wire::laying::zero` meets its contract, as `copy` does: what is laid is a run of zeros.
use Rattle.std.proofs.Common.{ℕ, ◌≡◌, sym, ◌∙◌, arith, replicate}
use lib.ListN.{length-replicate, get_or-replicate}
use Rattle.wire.proofs.Over.{laid_one, laid_all}
use Rattle.wire.proofs.laying.zero.Goals as goal

pub loop-done-preserved : goal.loop-done-preserved
loop-done-preserved c =
    let a = c.args in
    let l = c.loop-done in
    let n = length-replicate {A = ℕ} a.count 0 in
    (omega arith, laid_one a.out.now l.out a.at (replicate a.count 0) l.done 0 (rw n c.requires) (rw n c.loop-done-test.true) l.invariant.1 (sym (get_or-replicate a.count l.done 0 0 c.loop-done-test.true)))

pub returns : goal.returns
returns c =
    let a = c.args in
    let l = c.loop-done in
    let all : l.done ≡ a.count = omega arith in
    laid_all a.out.now l.out a.at (replicate a.count 0) l.done (all ∙ sym (length-replicate {A = ℕ} a.count 0)) l.invariant.1
