-- `rate::writer::frame_length` meets its contract: the header's octets, or 60 where it has fewer.
use Rattle.std.proofs.Common.{arith, rules}
use Rattle.rate.proofs.Frame.{length_frame}
use Rattle.rate.proofs.writer.frame_length.Goals as goal

pub returns : goal.returns
returns c = omega (arith, length_frame c.args.request c.args.addresses.now (search rules) (search rules) c.requires, c.max.ensures)
