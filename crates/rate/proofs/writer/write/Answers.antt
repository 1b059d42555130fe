-- `rate::write` meets its contract: refused, the output is untouched; else it holds the frame.
use Rattle.std.proofs.Common.{sym}
use Rattle.std.proofs.lemmas.Result.{err_from_is_err_and}
use Rattle.rate.proofs.Numbers.{not_zero}
use Rattle.rate.proofs.Writable.{layable, wrote_nothing, wrote_frame}
use Rattle.rate.proofs.writer.write.Goals as goal

pub returns-in_err-test : goal.returns-in_err-test
returns-in_err-test c =
    let a = c.args in
    let p = err_from_is_err_and c.from_residual.result c.from_residual.ensures.1 in
    rw (p.1, p.2) (wrote_nothing a.request a.addresses.now a.out.now _ c.in_err-test.ensures (not_zero c.in_err-test.field-0.0))

pub put-requires : goal.put-requires
put-requires c =
    let a = c.args in
    layable a.request a.addresses.now a.out.now (sym c.in_ok-test.ensures)

pub returns : goal.returns
returns c =
    let a = c.args in
    wrote_frame a.request a.addresses.now a.out.now (sym c.in_ok-test.ensures) c.put.ensures
