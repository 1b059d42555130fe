-- What `settle` leaves is handed to the law of a tick (Ticking).
use Rattle.place_upkeep.proofs.Ticking.{ticked_did}
use Rattle.std.proofs.Common.{refl}
use Rattle.place_upkeep.proofs.act.ticked.Goals as goal

pub returns : goal.returns
returns c =
    let a = c.arrived-kept.ensures in
    ticked_did c.requires.0 c.args.time c.stale_before.ensures a.0 a.1 a.2 c.requires.1 c.settle-done.ensures.settles c.settle-done.ensures.words_after
    (record { up = refl; returned = refl; nack = refl; lost = refl })
