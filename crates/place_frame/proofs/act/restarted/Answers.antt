-- `restarted` meets its contract: what `hand` and `begun` leave is handed to the law of a restart (Restarting).
use Rattle.place.proofs.Restarting.{restarted_did}
use Rattle.place_frame.proofs.act.restarted.Goals as goal

pub returns : goal.returns
returns c =
    let p = c.requires in
    let anew = c.begun.ensures in
    restarted_did p.ready.0 c.span.ensures c.hand-back.ensures p.window_in_bounds.0 p.window_in_bounds.1 anew.head anew.frame anew.answer
