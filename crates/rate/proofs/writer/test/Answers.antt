-- `rate::writer::test` meets its contract: at each place of the chain the tests so far have passed, and one that fails gives the number of its row.
use Rattle.std.proofs.Common.{sym, ◌∙◌}
use Rattle.rate.proofs.Writable.{layout}
use Rattle.rate.proofs.writer.test.Goals as goal

pub frame_length-requires : goal.frame_length-requires
frame_length-requires c = (layout c.args.request c.args.addresses.now (sym c.layout_holds.ensures ∙ c.if-not-layout_holds.false)).two
