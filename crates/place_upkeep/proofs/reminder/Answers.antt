-- A common number refuses it (Calling), or it comes to an open record (Reminders).
use Rattle.std.proofs.Common.{refl}
use Rattle.place.proofs.Opening.{opened_by, ready, in_ring_law}
use Rattle.place.proofs.Calling.{called_exit}
use Rattle.place_upkeep.proofs.Reminders.{called_reminder}
use Rattle.place_upkeep.proofs.reminder.Goals as goal

pub remind-requires-clause-ready : goal.remind-requires-clause-ready
remind-requires-clause-ready c =
    let opened = opened_by _ _ c.args.number c.args.time c.of-lent.ensures c.judge.ensures c.in_ok-r.was in
    (ready opened, in_ring_law opened)

pub returns-in_err-r : goal.returns-in_err-r
returns-in_err-r c = called_exit c.args.number refl c.of-lent.ensures c.judge.ensures c.in_err-r.was _ c.from_residual.ensures.1

pub returns : goal.returns
returns c = called_reminder (opened_by _ _ c.args.number c.args.time c.of-lent.ensures c.judge.ensures c.in_ok-r.was) c.remind.ensures
