-- A number refuses it (Calling), or M goes on from an open record (Ticking).
use Rattle.std.proofs.Common.{refl}
use Rattle.place.proofs.Opening.{opened_by, enough, ready}
use Rattle.place.proofs.Calling.{called_exit}
use Rattle.place_upkeep.proofs.Ticking.{called_tick}
use Rattle.place_upkeep.proofs.tick.Goals as goal

pub ticked-requires : goal.ticked-requires
ticked-requires c =
    let opened = opened_by _ _ 0 c.args.time c.of-lent.ensures c.judge.ensures c.in_ok-r.was in
    (ready opened, (enough opened).up_room)

pub returns-in_err-r : goal.returns-in_err-r
returns-in_err-r c = called_exit 0 refl c.of-lent.ensures c.judge.ensures c.in_err-r.was _ c.from_residual.ensures.1

pub returns : goal.returns
returns c = called_tick (opened_by _ _ 0 c.args.time c.of-lent.ensures c.judge.ensures c.in_ok-r.was) c.ticked.ensures
