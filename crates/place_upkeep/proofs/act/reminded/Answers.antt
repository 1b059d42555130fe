-- What `widened` and `settle` leave is handed to the laws of the step ahead (StepAhead of place).
use Rattle.std.proofs.Common.{◌<◌, ◌≤◌, ℕ, arith, refl}
use Rattle.larq.specs.Channel.{window}
use Rattle.place.proofs.Places.{finished}
use Rattle.place.proofs.StepAhead.{step_taken, widened_sized, settle_room, gone_few, ahead_did}
use Rattle.place_upkeep.proofs.act.reminded.Goals as goal

window_fits : {n : ℕ} → n ≤ window → n < 18446744073709551616
window_fits l = omega arith

pub overflow_add-result : goal.overflow_add-result
overflow_add-result c =
    let p = c.requires in
    let step = step_taken p.ready p.window_in_bounds p.ahead c.widened-p.ensures in
    record { fits = window_fits (gone_few step refl refl c.settle-done.ensures.settles (widened_sized step)) }

pub returns : goal.returns
returns c =
    let p = c.requires in
    let e = c.settle-done.ensures in
    let step = step_taken p.ready p.window_in_bounds p.ahead c.widened-p.ensures in
    ahead_did step refl refl (finished (widened_sized step) (settle_room step refl refl) e.settles e.words_after)
