-- `filled` meets its contract: what `brought` leaves is handed to the laws of a step behind (StepBehind).
use Rattle.std.proofs.Common.{refl}
use Rattle.place_frame.proofs.StepBehind.{filled_room, filled_did}
use Rattle.place_frame.proofs.act.filled.Goals as goal

pub brought-requires-clause-roomy : goal.brought-requires-clause-roomy
brought-requires-clause-roomy c =
    let p = c.requires in
    let to = c.arrived-kept.ensures in
    filled_room p.ready.0 _ _ _ p.ready.1 refl refl to.0 to.1 to.2 _ p.window_in_bounds

pub returns : goal.returns
returns c =
    let p = c.requires in
    let to = c.arrived-kept.ensures in
    let e = c.brought.ensures in
    filled_did p.ready.0 _ _ _ p.ready.1 e.0 e.1 to.0 to.1 to.2 e.2 p.window_in_bounds
