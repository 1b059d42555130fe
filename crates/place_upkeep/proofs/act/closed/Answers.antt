-- What `hand` and the zeros leave is handed to the law of a close (Closing).
use Rattle.place_upkeep.proofs.Closing.{closed_did}
use Rattle.std.proofs.Common.{refl}
use Rattle.place_upkeep.proofs.act.closed.Goals as goal

pub returns : goal.returns
returns c =
    closed_did c.requires.0 c.span.ensures c.hand-count.ensures c.requires.1 c.zero.ensures c.zero-2.ensures c.zero-3.ensures (record { up = refl; returned = refl; nack = refl; lost = refl })
