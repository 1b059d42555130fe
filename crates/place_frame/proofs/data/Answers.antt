-- `data` meets its contract: a number that was decided refuses it (Calling), or it comes to an open record (Frames).
use Rattle.std.proofs.Common.{refl}
use Rattle.place.proofs.Opening.{opened_by, enough, in_ring_law, ready}
use Rattle.place.proofs.Calling.{called_exit}
use Rattle.place_frame.proofs.Frames.{called_frame}
use Rattle.place_frame.proofs.Fronts.{front_did}
use Rattle.place_frame.proofs.data.Goals as goal

pub arrive-requires-clause-ready : goal.arrive-requires-clause-ready
arrive-requires-clause-ready c =
    let opened = opened_by _ _ c.args.number c.args.time c.of-lent.ensures c.judge.ensures c.in_ok-r.was in
    (ready opened, in_ring_law opened)

pub returns-in_err-r : goal.returns-in_err-r
returns-in_err-r c = called_exit c.args.number refl c.of-lent.ensures c.judge.ensures c.in_err-r.was _ c.from_residual.ensures.1

pub returns : goal.returns
returns c =
    let opened = opened_by _ _ c.args.number c.args.time c.of-lent.ensures c.judge.ensures c.in_ok-r.was in
    let room = enough opened in
    called_frame c.args.handle opened (front_did room.up_room room.returned_room c.arrive.auto.up c.arrive.auto.returned c.arrive.ensures)
