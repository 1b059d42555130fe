-- `ahead` meets its contract: what `widened` and `brought` leave is handed to the laws of the step ahead (StepAhead).
use Rattle.std.proofs.Common.{refl}
use Rattle.place.proofs.StepAhead.{step_taken, settle_room, ahead_did}
use Rattle.place_frame.proofs.act.ahead.Goals as goal

pub brought-requires-clause-roomy : goal.brought-requires-clause-roomy
brought-requires-clause-roomy c =
    let p = c.requires in
    settle_room (step_taken p.ready p.window_in_bounds p.ahead c.widened-p.ensures) refl refl

pub returns : goal.returns
returns c =
    let p = c.requires in
    let e = c.brought.ensures in
    ahead_did (step_taken p.ready p.window_in_bounds p.ahead c.widened-p.ensures) e.0 e.1 e.2
